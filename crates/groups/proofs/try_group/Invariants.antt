use Prim.Native.Nat.{◌-◌, ◌*◌, ◌^◌, ◌≤◌}
use Rattle.chip.specs.Inner.Tables.{tabled}
use Rattle.known.specs.Setting.{Long}
use Rattle.stages.specs.Stage.{Watch, OutsOnly}
use Rattle.patterns.specs.Words.{Store}
use Rattle.groups.proofs.Trying.{AllKnown}
use Rattle.groups.proofs.try_group.Given as goal

abbrev pub invariant-loop-q : goal.invariant-loop-q
invariant-loop-q l =
    (l.q ≤ 1040) × (2 ^ l.group.width ≤ 64 * l.words) × (l.words ≤ 1024) × Store l.chip.sizes.cells l.goods l.vals × Long l.known.left l.known.best l.known.pat × OutsOnly l.chip.sizes.inputs l.chip.sizes.cells l.chip.sizes.outputs l.chip.sizes.pins l.known.left
    × Watch l.chip.sizes.inputs l.chip.sizes.cells (tabled l.chip.sizes.inputs l.chip.sizes.cells l.chip.sizes.outputs l.chip.kinds.now l.chip.counts.now l.chip.nets.now) l.chip.counts.now l.chip.firsts.now l.chip.order.now l.known.left l.groups
    × AllKnown l.chip.sizes.inputs l.chip.sizes.cells l.chip.sizes.outputs l.chip.sizes.pins l.group.width l.trial.at l.chip.kinds.now l.chip.counts.now l.chip.firsts.now l.chip.nets.now l.chip.order.now l.chip.branches.now l.chip.sources.now l.chip.reach.now l.chip.heads.now l.chip.readers.now l.group.slots.now l.group.outs.now l.group.variables.now l.chip.inputs.now l.initial.known.left l.initial.known.best l.initial.known.pat l.q l.known.left l.known.best l.known.pat

abbrev pub decreases-loop-q : goal.decreases-loop-q
decreases-loop-q l = 1040 - l.q
