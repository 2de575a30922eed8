use mathlib.Core.Path.{◌≡◌}
use Rattle.running.specs.Clock.{fed}
use Rattle.running.proofs.put_inputs.Given as goal

abbrev pub invariant-loop-x : goal.invariant-loop-x
invariant-loop-x l = l.slots ≡ fed l.part l.initial.slots l.x
