use Rattle.events.proofs.Running.{Restoring}
use Prim.Native.Nat.{◌-◌, ◌≤◌}
use Rattle.events.proofs.restore.Given as goal

abbrev pub invariant-loop-at : goal.invariant-loop-at
invariant-loop-at l = Restoring l.from l.c l.order l.goods l.changed l.initial.vals l.at l.vals × (l.at ≤ 1088)

abbrev pub decreases-loop-at : goal.decreases-loop-at
decreases-loop-at l = l.c - l.at
