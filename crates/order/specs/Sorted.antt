-- The tables of a netlist whose cells are in order.
use Rattle.chip.specs.Netlist.{Netlist}
use Rattle.chip.specs.Inner.Limits.{InLimits}
use Rattle.chip.specs.Inner.Tables.{FirstPins, sized}
use Rattle.order.specs.Order.{Ordered}
use Rattle.order.specs.declared.Sorted.{Sorted}

-- the netlist in the tables
abbrev pub netlist_in : Sorted → Netlist
netlist_in t = sized t.sizes t.kinds.now t.counts.now t.nets.now

-- the netlist is within the limits, and the tables have its first pins and an order of its cells
pub record IsSorted (t : Sorted) : Type 0 where
  pub limits : InLimits (netlist_in t)
  pub first_pins : FirstPins (netlist_in t) t.firsts.now
  pub ordered : Ordered (netlist_in t) t.order.now
