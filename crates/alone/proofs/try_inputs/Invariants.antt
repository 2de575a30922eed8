use Prim.Native.Nat.{◌-◌, ◌*◌, ◌≤◌, ◌<◌}
use mathlib.Core.Path.{◌≡◌}
use Rattle.known.specs.Setting.{Went}
use Rattle.alone.specs.Alone.{InputStep}
use Rattle.alone.proofs.try_inputs.Given as goal

abbrev pub invariant-loop-f : goal.invariant-loop-f
invariant-loop-f l =
    (l.f ≤ l.f-end) × (l.f-end ≡ 2 * l.chip.sizes.inputs)
    × Went (λ x. x < l.f) (InputStep l.chip.sizes.inputs l.chip.sizes.cells l.group.width l.trial.chunk l.trial.at l.chip.kinds.now l.chip.counts.now l.chip.firsts.now l.group.slots.now l.chip.order.now l.chip.reach.now l.group.outs.now l.group.variables.now l.chip.inputs.now l.goods) l.initial.known.left l.initial.known.best l.initial.known.pat l.known.left l.known.best l.known.pat
    × (l.vals ≡ l.goods)

abbrev pub decreases-loop-f : goal.decreases-loop-f
decreases-loop-f l = l.f-end - l.f
