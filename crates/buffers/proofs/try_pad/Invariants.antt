use Prim.Native.Nat.{◌-◌, ◌≤◌}
use mathlib.Core.Path.{◌≡◌}
use Rattle.known.specs.Setting.{Went}
use Rattle.buffers.specs.Buffers.{FaultStep}
use Rattle.buffers.proofs.Faults.{SiteFault}
use Rattle.buffers.proofs.try_pad.Given as goal

abbrev pub invariant-loop-e : goal.invariant-loop-e
invariant-loop-e l =
    let chip = l.chip in
    let z = chip.sizes in
    (l.e ≤ 4) × (l.vals ≡ l.goods)
    × Went (SiteFault l.e l.net l.pin) (FaultStep z.inputs z.cells z.outputs l.trial.chunk l.trial.at chip.kinds.now chip.counts.now chip.firsts.now chip.nets.now chip.order.now chip.reach.now l.group.slots.now l.group.outs.now l.goods) l.initial.known.left l.initial.known.best l.initial.known.pat l.known.left l.known.best l.known.pat

abbrev pub decreases-loop-e : goal.decreases-loop-e
decreases-loop-e l = 4 - l.e
