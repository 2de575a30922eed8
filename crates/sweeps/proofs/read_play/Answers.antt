-- Depth by depth, the blocks that reach the output at a depth below e have the values of their inputs' places, and every other byte is as it was when the pattern was cleared; behind the last depth that is the pattern read.
use Prim.Native.Nat.{suc, ◌+◌}
use mathlib.Core.Path.{◌≡◌}
use native.Mathlib.Numerals.{add-one}
use native.Mathlib.Omega.{arith}
use lib.ListN.{replicate, get_or-replicate}
use Rattle.order.specs.Sorted.{netlist_in}
use Rattle.levels.proofs.Masks.{first_before}
use Rattle.sweeps.proofs.Sweeping.{copied_none, part_long}
use Rattle.sweeps.proofs.Tables.{read_places, read_step, read_all}
use Rattle.sweeps.proofs.read_play.Goals as goal

pub loop-e-init : goal.loop-e-init
loop-e-init c =
    let L = c.requires.by_index.0.1.limits in (
      first_before (netlist_in c.args.cells) (replicate 1088 0) (λ m h. get_or-replicate 1088 m 0 0 (omega (arith, L.few_inputs, L.few_cells))),
      λ low L. copied_none _ _ _ _ _ _,
    )

pub copy_marked-requires-clause-places : goal.copy_marked-requires-clause-places
copy_marked-requires-clause-places c =
    let R = c.requires.by_index.0.1 in
    read_places R c.requires.by_index.1 c.requires.output_lt_outputs.0 R.shaped.low R.shaped.prepared.lowest c.level.ensures _ _ (part_long c.args.cells.sizes.inputs c.args.s.depth c.loop-e.e c.args.window.now c.requires.output_lt_outputs.2)
    (omega (arith, c.requires.output_lt_outputs.3))

pub loop-e-preserved : goal.loop-e-preserved
loop-e-preserved c =
    let M = c.level.ensures in (
      rw (add-one c.loop-e.e) M.nets,
      λ low L. read_step c.requires.by_index.0.1 c.requires.by_index.1 c.requires.output_lt_outputs.0 low L M _ _ _ _ c.copy_marked.ensures (c.loop-e.invariant.1 low L),
    )

pub returns-2 : goal.returns-2
returns-2 c low L =
    let R = c.requires.by_index.0.1 in
    let q : c.loop-e.e + 1 ≡ suc c.args.s.depth = omega arith in
    read_all R c.requires.by_index.1 c.requires.output_lt_outputs.0 low L _ _ _ _ c.requires.output_lt_outputs.1 c.requires.output_lt_outputs.3 c.clear.ensures
    (rw q at (read_step R c.requires.by_index.1 c.requires.output_lt_outputs.0 low L c.level.ensures _ _ _ _ c.copy_marked.ensures (c.loop-e.invariant.1 low L)))
