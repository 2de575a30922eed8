-- Each callee makes one of the tables, and the limits, the order and the blocks as they are laid give what it asks.
use Prim.Native.Nat.{◌-◌}
use mathlib.Core.Path.{◌≡◌, ◌∙◌}
use native.Mathlib.Omega.{arith}
use lib.ListN.{get_or}
use Rattle.chip.specs.Netlist.{first_pin}
use Rattle.opening.specs.Open.{netlist_of}
use Rattle.chip.proofs.Basics.{pin_in, first_pin_lem}
use Rattle.readers.specs.Readers.{Lengths}
use Rattle.readers.proofs.Chips.{wires}
use Rattle.walk.proofs.Walking.{ready_few, ready_laid}
use Rattle.benches.proofs.Stages.{heads_of_lem, blocked_of}
use Rattle.benches.proofs.chip_tables.Goals as goal
use Rattle.benches.proofs.chip_tables.Goals.{Start}

-- the cells' pins, all but those of the outputs
pins_are : (s : Start) → s.args.opened.now.sizes.pins - s.args.opened.now.sizes.outputs ≡ first_pin (netlist_of s.args.opened.now) s.args.opened.now.sizes.cells
pins_are s = omega (arith, s.requires.by_index.3.pins)

sizes : (b : Start)
    → let a = b.args.opened.now in
    Lengths a.kinds a.counts a.firsts a.branches a.nets a.order a.block
sizes b = record {
  kinds_long = omega arith;
  counts_long = omega arith;
  firsts_long = omega arith;
  branches_long = omega arith;
  nets_long = omega arith;
  order_long = omega arith;
  block_long = omega arith;
}

pub reaches-requires-clause-by_index : goal.reaches-requires-clause-by_index
reaches-requires-clause-by_index c =
    let (_, _, _, R) = c.requires.by_index in
    let L = R.limits in λ t l.
    let j = R.shaped.ordered.cell t l in
    let f = R.shaped.first_pins (get_or c.args.opened.now.order t 0) (omega arith) in
    let own = pin_in (netlist_of c.args.opened.now) (get_or c.args.opened.now.order t 0) (first_pin (netlist_of c.args.opened.now) (get_or c.args.opened.now.order t 0)) (first_pin_lem (netlist_of c.args.opened.now) L.sound (get_or c.args.opened.now.order t 0) j) in
    (omega (arith, j, L.few_cells), omega (arith, f, own, L.few_pins))

pub build-requires-clause-wires : goal.build-requires-clause-wires
build-requires-clause-wires c =
    let (_, _, g, R) = c.requires.by_index in
    let S = R.shaped in rw (pins_are (goal.at.build-requires-clause-wires c).Start) (wires c.args.opened.now.sizes.inputs c.args.opened.now.sizes.cells c.args.opened.now.sizes.outputs _ c.args.opened.now.kinds c.args.opened.now.counts c.args.opened.now.branches c.args.opened.now.nets c.args.opened.now.firsts c.args.opened.now.order c.args.opened.now.block S.low
    R.limits S.first_pins S.ordered S.branch_table (sizes (goal.at.build-requires-clause-wires c).Start) (ready_few R) (ready_laid R g S.low S.prepared.lowest))

pub block_inputs-requires : goal.block_inputs-requires
block_inputs-requires c =
    let (_, _, g, R) = c.requires.by_index in
    let S = R.shaped in (
      blocked_of c.args.opened.now.sizes.inputs c.args.opened.now.sizes.cells c.args.opened.now.sizes.outputs c.args.opened.now.sizes.pins _ c.args.opened.now.kinds c.args.opened.now.counts c.args.opened.now.nets c.args.opened.now.branches c.args.opened.now.block S.low
          R.limits R.pins S.branch_table (ready_few R) (ready_laid R g S.low S.prepared.lowest),
      c.requires.reach_len.1,
    )

pub returns : goal.returns
returns c =
    let (_, _, g, R) = c.requires.by_index in
    let S = R.shaped in
    let r = c.reaches.ensures in
    record {
      sizes = sizes (goal.at.returns c).Start;
      named = heads_of_lem c.args.opened.now.sizes.inputs c.args.opened.now.sizes.cells c.args.opened.now.sizes.outputs c.args.opened.now.sizes.pins _ c.args.opened.now.kinds c.args.opened.now.counts c.args.opened.now.nets c.args.opened.now.branches c.args.opened.now.block S.low
          R.limits R.pins S.branch_table (ready_few R) (ready_laid R g S.low S.prepared.lowest) c.args.opened.now.firsts c.args.opened.now.order (sizes (goal.at.returns c).Start);
      reach_long = r.long ∙ c.requires.reach_len.0;
      masks = r.mask;
      built = c.build.ensures;
      inputs = c.block_inputs.ensures;
    }
