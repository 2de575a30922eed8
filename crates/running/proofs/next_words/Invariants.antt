use Prim.Native.Nat.{ℕ, ◌<◌}
use mathlib.Core.Path.{◌≡◌}
use lib.ListN.{get_or}
use Rattle.words.specs.Lanes.{wired}
use Rattle.running.specs.Clock.{cell_word}
use Rattle.running.proofs.next_words.Given as goal

abbrev pub invariant-loop-s : goal.invariant-loop-s
invariant-loop-s l =
    (base r : ℕ) → r < l.s → get_or l.next r 0 ≡ cell_word (wired l.kinds l.firsts l.counts l.sources base) l.slots (get_or l.flops r 0)
