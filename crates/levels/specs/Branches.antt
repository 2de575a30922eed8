-- A netlist's pins as the functions that walk over the branches take them.
use Rattle.std.specs.Prelude.{ℕ, ◌≡◌, List}
use Rattle.chip.specs.Netlist.{Netlist, all_pins}
use Rattle.chip.specs.Inner.Tables.{BranchTable}

-- the netlist has i inputs and n pins, and the table has its branches
pub record Branched (N : Netlist) (i n : ℕ) (branches : List ℕ) : Type 0 where
  pub inputs : N.inputs ≡ i
  pub pins : n ≡ all_pins N
  pub table : BranchTable N branches
