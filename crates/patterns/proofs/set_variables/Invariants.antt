use Rattle.patterns.specs.Variables.{Variables}
use Prim.Native.Nat.{◌-◌, ◌≤◌}
use Rattle.patterns.proofs.set_variables.Given as goal

abbrev pub invariant-loop-i : goal.invariant-loop-i
invariant-loop-i l = (l.i ≤ l.w) × Variables l.i l.q l.initial.goods l.goods

abbrev pub decreases-loop-i : goal.decreases-loop-i
decreases-loop-i l = l.w - l.i
