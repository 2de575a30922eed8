-- After e depths the branches that reach an output in outs with one of these depths have their places, since `level` tells which reach it with depth e.
use Prim.Native.Nat.{suc, ◌+◌}
use mathlib.Core.Path.{◌≡◌}
use native.Mathlib.Numerals.{add-one}
use native.Mathlib.Omega.{arith}
use lib.ListN.{replicate, get_or-replicate}
use Rattle.chip.specs.Inner.Tables.{sized}
use Rattle.levels.proofs.Masks.{first_before}
use Rattle.spots.proofs.Changing.{depth_start, depth_more}
use Rattle.spots.proofs.put_depths.Goals as goal

pub loop-e-init : goal.loop-e-init
loop-e-init c = (
  first_before (sized c.args.z c.args.kinds.now c.args.counts.now c.args.nets.now) (replicate 1088 0) (λ m h. get_or-replicate 1088 m 0 0 (omega (arith, c.requires.0.1.limits.few_inputs, c.requires.0.1.limits.few_cells))),
  depth_start c.args.z.inputs c.args.z.cells c.args.z.outputs c.args.kinds.now c.args.counts.now c.args.nets.now c.args.branches.now _ _ _ _ _,
)

pub loop-e-preserved : goal.loop-e-preserved
loop-e-preserved c =
    let l = c.loop-e in
    let M = c.level.ensures in (
      rw (add-one l.e) M.nets,
      depth_more c.args.z.inputs c.args.z.cells c.args.z.outputs c.args.kinds.now c.args.counts.now c.args.nets.now _ _ _ c.args.s.depth c.args.outs l.e _ _ _ _ _ c.requires.0.1.pins c.requires.0.1.shaped.branch_table M.pins c.put_level.ensures l.invariant.1,
    )

pub returns-2 : goal.returns-2
returns-2 c =
    let l = c.loop-e in
    let q : l.e + 1 ≡ suc c.args.s.depth = omega arith in
    rw q at (depth_more c.args.z.inputs c.args.z.cells c.args.z.outputs c.args.kinds.now c.args.counts.now c.args.nets.now _ _ _ c.args.s.depth c.args.outs l.e _ _ _ _ _ c.requires.0.1.pins c.requires.0.1.shaped.branch_table c.level.ensures.pins c.put_level.ensures l.invariant.1)
