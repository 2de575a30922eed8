-- The tables of the chip and of the bench are a stage for the group, and the bench's variables are as many as the width of the output.
use mathlib.Core.Path.{◌≡◌, refl, sym}
use native.Mathlib.Omega.{arith}
use Rattle.chip.proofs.Basics.{zero_at}
use Rattle.slots.specs.Slots.{rel_of}
use Rattle.walk.specs.Walk.{width_of}
use Rattle.walk.proofs.Walking.{ready_few}
use Rattle.benches.proofs.Stages.{stage_of}
use Rattle.verdicts.proofs.try_like.Goals as goal

pub bench-width-requires-clause-y_lt_outputs : goal.bench-width-requires-clause-y_lt_outputs
bench-width-requires-clause-y_lt_outputs c =
    let P = c.requires.prepared in
    let G = c.requires.group in
    (G.output, P.ready.limits.few_outputs, omega (arith, P.ready.pins), omega (arith, P.counted, ready_few P.ready), G.few)

pub bench-width-requires-clause-outs_len : goal.bench-width-requires-clause-outs_len
bench-width-requires-clause-outs_len c = (refl, (λ y. zero_at 64 y), refl)

pub try_group-requires-clause-by_index : goal.try_group-requires-clause-by_index
try_group-requires-clause-by_index c =
    let P = c.requires.prepared in
    let S = P.ready.shaped in
    let G = rw (sym P.counted) at c.requires.group in
    let B = rw (sym P.counted) at c.bench-width.ensures in
    (P.cone, S.low, rel_of c.args.chip.reached.now, stage_of _ _ _ _ _ _ _ _ _ _ _ _ _ P.ready P.even S.low S.prepared.lowest _ _ _ G _ _ _ _ _ _ _ _ _ P.cones P.sourced P.fitted B)

pub returns-clause-like_tried : goal.returns-clause-like_tried
returns-clause-like_tried c =
    let P = c.requires.prepared in
    let G = rw (sym P.counted) at c.requires.group in
    let B = rw (sym P.counted) at c.bench-width.ensures in
    let T = c.try_group.ensures.group_tried in
    let e : c.bench-width.result ≡ width_of c.args.chip.blocks c.args.chip.reached.now c.args.y = c.bench-width.ensures.variables.count in
    record {
      long = T.long;
      ended = λ low L f h. rw e at (T.ended P.cone low (rel_of c.args.chip.reached.now) (stage_of _ _ _ _ _ _ _ _ _ _ _ _ _ P.ready P.even low L _ _ _ G _ _ _ _ _ _ _ _ _ P.cones P.sourced P.fitted B) f h);
    }
