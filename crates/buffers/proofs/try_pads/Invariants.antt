use Prim.Native.Nat.{◌-◌, ◌≤◌}
use mathlib.Core.Path.{◌≡◌}
use Rattle.known.specs.Setting.{Went}
use Rattle.buffers.specs.Buffers.{FaultStep}
use Rattle.buffers.proofs.Faults.{PadsBelow}
use Rattle.buffers.proofs.try_pads.Given as goal

abbrev pub invariant-loop-j : goal.invariant-loop-j
invariant-loop-j l =
    let chip = l.chip in
    let z = chip.sizes in
    (l.j ≤ z.cells) × (l.vals ≡ l.goods)
    × Went (PadsBelow l.j z.inputs z.cells chip.firsts.now chip.sources.now) (FaultStep z.inputs z.cells z.outputs l.trial.chunk l.trial.at chip.kinds.now chip.counts.now chip.firsts.now chip.nets.now chip.order.now chip.reach.now l.group.slots.now l.group.outs.now l.goods) l.initial.known.left l.initial.known.best l.initial.known.pat l.known.left l.known.best l.known.pat

abbrev pub decreases-loop-j : goal.decreases-loop-j
decreases-loop-j l = l.chip.sizes.cells - l.j
