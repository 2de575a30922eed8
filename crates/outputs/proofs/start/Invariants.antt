use Prim.Native.Nat.{◌≤◌}
use Rattle.outputs.specs.Sites.{Started}
use Rattle.outputs.proofs.start.Given as goal

abbrev pub invariant-loop-f : goal.invariant-loop-f
invariant-loop-f l = (l.from ≤ l.f) × Started l.from l.f l.wides l.sites l.left
