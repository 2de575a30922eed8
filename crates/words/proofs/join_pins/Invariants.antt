use mathlib.Core.Path.{◌≡◌}
use Rattle.words.specs.Lanes.{joined, on_pin}
use Rattle.words.proofs.join_pins.Given as goal

abbrev pub invariant-loop-s : goal.invariant-loop-s
invariant-loop-s g l = l.w ≡ joined g.J.Join.op g.J.Join.START (on_pin l.sources l.slots) l.first l.s-index
