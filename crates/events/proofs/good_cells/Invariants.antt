use Rattle.events.specs.Events.{Worked}
use Prim.Native.Nat.{◌-◌, ◌≤◌}
use Rattle.events.proofs.good_cells.Given as goal

abbrev pub invariant-loop-p : goal.invariant-loop-p
invariant-loop-p l =
    let chip = l.chip in (l.p ≤ chip.sizes.cells) × Worked chip.sizes.cells l.u chip.kinds.now chip.counts.now chip.firsts.now l.src chip.order.now chip.reach.now l.initial.goods l.goods l.p

abbrev pub decreases-loop-p : goal.decreases-loop-p
decreases-loop-p l = l.chip.sizes.cells - l.p
