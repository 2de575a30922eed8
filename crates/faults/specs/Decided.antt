-- What a fault decides nets and pins to, as bytes: 0 or 1 if a line shows this constant, 2 if it shows the value that it is given.
use Rattle.std.specs.Prelude.{ℕ, ◌+◌, ◌<◌, ◌≡◌, Bool, cond, List, length, get_or, eqb, ltb}
use Rattle.chip.specs.Netlist.{Netlist, all_pins}
use Rattle.chip.specs.Faults.{Lines}
use Rattle.chip.specs.Inner.Direct.{through, comes, at_pins}

-- what a line that is decided to e shows if it is given the value b
abbrev pub decided_to : ℕ → Bool → Bool
decided_to e b = cond (ltb e 2) (eqb e 1) b

-- the table has what each net makes of its value
pub record StuckNets (f : Lines) (table : List ℕ) : Type 0 where
  pub long : length table ≡ 1088
  pub at : (n : ℕ) → n < 1088 → (b : Bool) → f.net n b ≡ decided_to (get_or table n 0) b

-- the table has what each net is decided to, which is given its value through the BUFs back from it
abbrev pub DecidedNets : Netlist → Lines → List ℕ → Type 0
DecidedNets N f table = (n : ℕ) → n < N.inputs + N.cells → (b : Bool) → through N f N.cells n b ≡ decided_to (get_or table n 0) b

-- the table has what each of the first n pins is given, of the value of the block or the cell that it names
abbrev pub Coming : Netlist → Lines → ℕ → List ℕ → Type 0
Coming N f n table = (p : ℕ) → p < n → (b : Bool) → comes N f p b ≡ decided_to (get_or table p 0) b

-- the table has what each pin is decided to, which makes of that what it does
abbrev pub Decided : Netlist → Lines → List ℕ → Type 0
Decided N f table = (p : ℕ) → p < all_pins N → (b : Bool) → (at_pins N f).pin p b ≡ decided_to (get_or table p 0) b
