-- The faults below f have gone on and all words are good again, and fault f changes only its own entries.
use native.Mathlib.Omega.{arith}
use Rattle.alone.specs.Alone.{InputStep}
use Rattle.known.proofs.Steps.{went_next}
use Rattle.alone.proofs.try_inputs.Goals as goal

pub loop-f-preserved : goal.loop-f-preserved
loop-f-preserved c =
    let a = c.args in
    let l = c.loop-f in
    let E = c.try_input.ensures in (
      omega (arith, c.loop-f-test.true),
      l.invariant.1,
      went_next
          (InputStep a.chip.sizes.inputs a.chip.sizes.cells a.group.width a.trial.chunk a.trial.at a.chip.kinds.now a.chip.counts.now a.chip.firsts.now a.group.slots.now a.chip.order.now a.chip.reach.now a.group.outs.now a.group.variables.now a.chip.inputs.now a.goods.now)
          l.f _ _ _ _ _ _ _ _ _ l.invariant.2 E.went,
      E.vals_after,
    )
