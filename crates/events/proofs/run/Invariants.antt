use Rattle.events.proofs.Running.{Running}
use Prim.Native.Nat.{◌-◌, ◌≤◌}
use Rattle.events.proofs.run.Given as goal

abbrev pub invariant-loop-at : goal.invariant-loop-at
invariant-loop-at l =
    Running l.from l.chip.sizes.cells l.u l.chip.kinds.now l.chip.counts.now l.chip.firsts.now l.src l.chip.order.now l.chip.reach.now l.initial.vals l.initial.changed l.at l.vals l.marks l.changed × (l.at ≤ 1088)

abbrev pub decreases-loop-at : goal.decreases-loop-at
decreases-loop-at l = l.chip.sizes.cells - l.at
