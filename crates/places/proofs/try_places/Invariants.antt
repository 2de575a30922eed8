use Prim.Native.Nat.{◌-◌, ◌≤◌}
use mathlib.Core.Path.{◌≡◌}
use Rattle.places.specs.Places.{PlacesDone}
use Rattle.places.proofs.try_places.Given as goal

abbrev pub invariant-loop-p : goal.invariant-loop-p
invariant-loop-p l =
    let chip = l.chip in
    let group = l.group in
    (l.p ≤ chip.sizes.cells)
    × PlacesDone l.p chip.sizes.inputs chip.sizes.cells l.trial.chunk l.trial.at chip.kinds.now chip.counts.now chip.firsts.now group.slots.now chip.order.now chip.reach.now group.outs.now l.goods l.initial.known.left l.initial.known.best l.initial.known.pat l.initial.groups l.known.left l.known.best l.known.pat l.groups
    × (l.vals ≡ l.goods)

abbrev pub decreases-loop-p : goal.decreases-loop-p
decreases-loop-p l = l.chip.sizes.cells - l.p
