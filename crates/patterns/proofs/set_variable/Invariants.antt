use Rattle.patterns.specs.Variables.{Variable}
use Prim.Native.Nat.{◌-◌, ◌≤◌}
use Rattle.patterns.proofs.set_variable.Given as goal

abbrev pub invariant-loop-k : goal.invariant-loop-k
invariant-loop-k l = (l.k ≤ 16) × Variable l.i l.q l.k l.initial.goods l.goods

abbrev pub decreases-loop-k : goal.decreases-loop-k
decreases-loop-k l = 16 - l.k
