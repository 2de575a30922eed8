-- What is found of the loops of a netlist.
use Rattle.std.specs.Prelude.{ℕ, ◌+◌, ◌≡◌, Bool, true, false}
use Rattle.chip.specs.Netlist.{Netlist}
use Rattle.chip.specs.Class.{Feeds}

-- the answer whether the net of cell j reaches itself
pub record OnLoop (N : Netlist) (j : ℕ) (r : Bool) : Type 0 where
  pub is : r ≡ true → Feeds N (N.inputs + j) (N.inputs + j)
  pub is_not : r ≡ false → ¬ Feeds N (N.inputs + j) (N.inputs + j)
