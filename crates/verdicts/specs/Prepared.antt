-- A chip of class 2 or 3 with the tables that its faults are looked for on.
use Rattle.std.specs.Prelude.{◌≡◌, ◌≢◌, List, ℕ}
use Rattle.chip.specs.Netlist.{Netlist}
use Rattle.chip.specs.Inner.Tables.{sized}
use Rattle.levels.specs.Levels.{ReachMasks}
use Rattle.pads.specs.Sources.{SourceTable}
use Rattle.structure.specs.Inner.Shape.{Ready}
use Rattle.structure.specs.declared.Shape.{Shape}
use Rattle.benches.specs.Benches.{Fitted}
use Rattle.events.specs.declared.ChipTables.{ChipTables}

-- the netlist that the tables hold
abbrev pub tables_netlist : ChipTables → Netlist
tables_netlist chip = sized chip.sizes chip.kinds.now chip.counts.now chip.nets.now

-- the tables are those of a chip that is ready
pub record Prepared (chip : ChipTables) : Type 0 where
  pub shape : Shape
  pub cone : List ℕ
  pub even : shape.class ≢ 1
  pub counted : shape.blocks ≡ chip.blocks
  pub ready : Ready (tables_netlist chip) chip.sizes.pins shape chip.firsts.now chip.order.now chip.branches.now chip.block.now chip.reached.now
  pub cones : ReachMasks (tables_netlist chip) cone
  pub fitted : Fitted chip.sizes.inputs chip.sizes.cells chip.sizes.outputs chip.sizes.pins chip.kinds.now chip.counts.now chip.firsts.now chip.nets.now chip.order.now chip.branches.now chip.block.now cone chip.reach.now chip.heads.now chip.readers.now chip.inputs.now
  pub sourced : SourceTable (tables_netlist chip) chip.sources.now
