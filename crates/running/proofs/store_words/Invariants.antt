use mathlib.Core.Path.{◌≡◌}
use lib.ListN.{get_or}
use Rattle.running.specs.Clock.{stored}
use Rattle.running.proofs.store_words.Given as goal

abbrev pub invariant-loop-s : goal.invariant-loop-s
invariant-loop-s l =
    l.slots ≡ stored l.i (λ s. get_or l.flops s 0) (λ s. get_or l.next s 0) l.initial.slots l.s
