use mathlib.Core.Path.{◌≡◌}
use lib.ListN.{get_or}
use Rattle.words.specs.Lanes.{wired, ran_words}
use Rattle.words.proofs.run_cells.Given as goal

abbrev pub invariant-loop-j : goal.invariant-loop-j
invariant-loop-j l = l.slots ≡ ran_words (wired l.kinds l.firsts l.counts l.sources l.base) (λ t. get_or l.order t 0) l.initial.slots l.j-index
