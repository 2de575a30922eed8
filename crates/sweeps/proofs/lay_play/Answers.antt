-- Depth by depth, the blocks that reach the output at a depth below e have their values at their places, and every other byte is as it was when all places were idle; behind the last depth that is the pattern laid.
use mathlib.Core.List.{List, ◌++◌}
use Prim.Native.Nat.{ℕ, suc, ◌+◌, ◌*◌, ◌≤◌}
use mathlib.Core.Path.{◌≡◌}
use native.Mathlib.Numerals.{add-one}
use native.Mathlib.Omega.{arith}
use lib.ListN.{length, take, drop, replicate, get_or-replicate}
use Rattle.order.specs.Sorted.{netlist_in}
use Rattle.levels.proofs.Masks.{first_before}
use Rattle.sweeps.specs.Copied.{Repeated}
use Rattle.std.proofs.lemmas.Grind.{common_steps}
use Rattle.sweeps.proofs.Sweeping.{copied_none, part_long}
use Rattle.sweeps.proofs.Tables.{set_places, set_step, laid_all}
use Rattle.sweeps.proofs.lay_play.Goals as goal

-- filling the front
repeated_front : (n m v : ℕ) (entry front : List ℕ) → m ≤ length entry → n ≡ m → front ≡ replicate (length (take m entry)) v → Repeated n v entry (front ++ drop m entry)
repeated_front n m v entry front h q e = rw (q, e) (record {
  is = λ k l. grind (arith, common_steps);
  kept = λ k l. grind (arith, common_steps);
  long = grind (arith, common_steps);
})

pub loop-e-init : goal.loop-e-init
loop-e-init c =
    let L = c.requires.by_index.0.1.limits in (
      first_before (netlist_in c.args.cells) (replicate 1088 0) (λ m h. get_or-replicate 1088 m 0 0 (omega (arith, L.few_inputs, L.few_cells))),
      λ low L. copied_none _ _ _ _ _ _,
    )

pub set_clock-requires-clause-places : goal.set_clock-requires-clause-places
set_clock-requires-clause-places c =
    let R = c.requires.by_index.0.1 in
    set_places R c.requires.by_index.1 c.requires.output_lt_outputs.0 R.shaped.low R.shaped.prepared.lowest c.level.ensures _ _ c.requires.output_lt_outputs.1
    (part_long c.args.cells.sizes.inputs c.args.s.depth c.loop-e.e c.loop-e.play (omega (arith, c.requires.output_lt_outputs.3)))

pub loop-e-preserved : goal.loop-e-preserved
loop-e-preserved c =
    let M = c.level.ensures in (
      rw (add-one c.loop-e.e) M.nets,
      λ low L.
          set_step c.requires.by_index.0.1 c.requires.by_index.1 c.requires.output_lt_outputs.0 low L M _ _ _ _ (omega arith) (omega (arith, c.requires.output_lt_outputs.3)) c.set_clock.ensures (c.loop-e.invariant.1 low L),
    )

pub returns-2 : goal.returns-2
returns-2 c low L =
    let R = c.requires.by_index.0.1 in
    let q : c.loop-e.e + 1 ≡ suc c.args.s.depth = omega arith in
    let idle = repeated_front (suc c.args.s.depth * c.args.cells.sizes.inputs) ((c.args.s.depth + 1) * c.args.cells.sizes.inputs) 2 c.args.play.now c.fill.new.self (omega (arith, c.requires.output_lt_outputs.3)) (omega arith) (c.fill.ensures.after (λ y e. e)) in
    laid_all R c.requires.by_index.1 c.requires.output_lt_outputs.0 low L _ _ _ _ c.requires.output_lt_outputs.2 idle
    (rw q at (set_step R c.requires.by_index.1 c.requires.output_lt_outputs.0 low L c.level.ensures _ _ _ _ (omega arith) (omega (arith, c.requires.output_lt_outputs.3)) c.set_clock.ensures (c.loop-e.invariant.1 low L)))
