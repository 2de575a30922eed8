-- The nets start clear and the outputs' pins are done first, so the marking of the cells ends with all pins and nets done.
use mathlib.Core.Path.{◌∙◌}
use native.Mathlib.Omega.{arith}
use lib.ListN.{get_or}
use Rattle.std.proofs.lemmas.Grind.{common_steps}
use Rattle.order.specs.Sorted.{netlist_in}
use Rattle.levels.proofs.Marking.{markable}
use Rattle.levels.proofs.Cells.{cell_room, outs_done}
use Rattle.levels.proofs.level.Goals as goal

pub mark_cells-requires : goal.mark_cells-requires
mark_cells-requires c =
    let t = c.args.cells in
    let z = t.sizes in
    let L = c.requires.sorted.limits in
    record {
      few_inputs = L.few_inputs;
      few_cells = L.few_cells;
      cell = c.requires.sorted.ordered.cell;
      cell_pins = λ j h.
          markable z.inputs z.cells z.outputs t.kinds.now t.counts.now t.nets.now L (get_or t.firsts.now j 0) (get_or t.counts.now j 0)
          (omega (arith, cell_room (netlist_in t) h, c.requires.sorted.first_pins j (omega arith)));
    }

pub returns : goal.returns
returns c =
    let a = c.args in
    let L = c.requires.sorted.limits in
    let N = netlist_in a.cells in
    c.mark_cells.ensures a.e L c.requires.sorted.first_pins c.requires.sorted.ordered c.requires.masks_before
    (outs_done N L.sound a.e a.pins.now _ (omega (arith, L.few_pins)) (grind (arith, common_steps)) (λ n h. grind (arith, common_steps))
    c.from-first.result (c.from-first.ensures ∙ c.requires.sorted.first_pins a.cells.sizes.cells (omega arith)) c.mark_outputs.ensures.at_pins_lem c.mark_outputs.ensures.at_nets)
