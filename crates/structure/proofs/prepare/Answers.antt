-- `structure::prepare` keeps its contract: with its first pins, its order and its branches the netlist is ready for the steps behind, and without an order it has the loop that is named.
use mathlib.Core.Path.{refl}
use mathlib.Core.Logic.{inl}
use Rattle.chip.specs.Netlist.{Netlist}
use Rattle.chip.specs.Inner.Tables.{sized, FirstPins}
use Rattle.order.specs.Order.{Ordered}
use Rattle.order.proofs.Order.{wired}
use Rattle.structure.proofs.prepare.Goals as goal
use Rattle.structure.proofs.prepare.Goals.{After-first_pins, In_default, Start}

-- the netlist that the tables hold
abbrev chip : Start → Netlist
chip s = sized s.args.z s.args.kinds.now s.args.counts.now s.args.nets.now

-- its first pins, and the order that was found
firsts_found : (f : After-first_pins) → FirstPins (chip (goal.at.After-first_pins f).Start) f.first_pins.new.firsts
firsts_found f = let a = f.args in f.first_pins.ensures a.z.inputs a.z.outputs a.kinds.now a.nets.now

ordered : (o : In_default) → Ordered (chip (goal.at.In_default o).Start) o.order_cells.new.order
ordered o = let a = o.args in o.in_default.ensures a.z.outputs a.kinds.now a.counts.now (firsts_found (goal.at.In_default o).After-first_pins)

pub order_cells-requires : goal.order_cells-requires
order_cells-requires c = wired _ _ c.args.z.outputs c.args.kinds.now c.args.counts.now _ _ (firsts_found (goal.at.order_cells-requires c).After-first_pins) c.requires.in_limits

pub lowest_on_loop-net-requires : goal.lowest_on_loop-net-requires
lowest_on_loop-net-requires c = wired _ _ c.args.z.outputs c.args.kinds.now c.args.counts.now _ _ (firsts_found (goal.at.lowest_on_loop-net-requires c).After-first_pins) c.requires.in_limits

pub returns-in-Err : goal.returns-in-Err
returns-in-Err c =
    let a = c.args in
    let F = firsts_found (goal.at.returns-in-Err c).After-first_pins in
    rw c.at.ensures (inl (refl, c.lowest_on_loop-net.ensures a.z.outputs a.kinds.now a.counts.now F (c.in-Err.ensures a.z.outputs a.kinds.now a.counts.now F)))

pub branches-requires : goal.branches-requires
branches-requires c = record { sorted = record { limits = c.requires.in_limits; first_pins = firsts_found (goal.at.branches-requires c).After-first_pins; ordered = ordered (goal.at.branches-requires c).In_default }; pins_value = c.requires.pins_value }

pub prepare_ordered-requires : goal.prepare_ordered-requires
prepare_ordered-requires c =
    record {
      in_order = record {
        sorted = record {
          limits = c.requires.in_limits;
          first_pins = firsts_found (goal.at.prepare_ordered-requires c).After-first_pins;
          ordered = ordered (goal.at.prepare_ordered-requires c).In_default;
        };
        branched = record { inputs = refl; pins = c.requires.pins_value; table = c.branches.ensures };
      };
      by_index = c.requires.by_index;
    }
