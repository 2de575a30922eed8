-- The slots of a chunk of patterns, and the tables that say which slot a pin looks at.
-- Slots 0 to 15 are the variables, slot 16 + j is cell j's, slot 1040 holds zeros and slot 1041 ones.
use Rattle.std.specs.Prelude.{ℕ, ◌+◌, ◌-◌, ◌<◌, ◌≡◌, Bool, cond, List, length, get_or, ltb}
use Rattle.chip.specs.Netlist.{Netlist}
use Rattle.chip.specs.Class.{Lowest, Class23, blocks, tally}
use Rattle.chip.specs.Search.{digit}
use Rattle.blocks.specs.Labels.{BlockTable}

-- whether block b reaches output z, by a table of the outputs that each block reaches
abbrev pub rel_of : List ℕ → ℕ → ℕ → Bool
rel_of reached z b = digit z (get_or reached b 0)

-- whether the first pin of cell j reaches output z
abbrev pub in_cone : List ℕ → List ℕ → ℕ → ℕ → Bool
in_cone firsts cone z j = digit z (get_or cone (get_or firsts j 0) 0)

-- the blocks of a netlist of class 2 or 3, by their lowest pins: how many there are, and the block of each branch
pub record Laid (N : Netlist) (count : ℕ) (block : List ℕ) (low : ℕ → ℕ) : Type 0 where
  pub lowest : Lowest N low
  pub even : Class23 N
  pub count_is : count ≡ (blocks N low).count
  pub table : BlockTable N low block

-- the slot of the variable of block b, or that of the zeros
abbrev pub variable : (ℕ → Bool) → ℕ → ℕ
variable rel b = cond (rel b) (tally rel b) 1040

-- each block below n has its variable's slot
pub record Variables (n : ℕ) (rel : ℕ → Bool) (table : List ℕ) (w : ℕ) : Type 0 where
  pub count : w ≡ tally rel n
  pub slot : (b : ℕ) → b < n → get_or table b 0 ≡ variable rel b

-- the slot of a pin that is a branch, names a net and is in a block; one that names an input and is no branch goes into a pad buffer, and what it sees does not matter
abbrev pub slot_of : ℕ → List ℕ → ℕ → ℕ → ℕ → ℕ
slot_of i slots branch net block = cond (ltb branch i) (get_or slots block 0) (cond (ltb net i) 1040 (16 + (net - i)))

-- the slots of the first n pins
pub record PinSlots (i n : ℕ) (slots branches nets block sources : List ℕ) : Type 0 where
  pub long : length sources ≡ 4096
  pub slot : (p : ℕ) → p < n → get_or sources p 0 ≡ slot_of i slots (get_or branches p 0) (get_or nets p 0) (get_or block p 0)

-- the slot in the faulty circuit of a pin that is decided to e: that of a constant, or the good one
abbrev pub fault_slot : ℕ → ℕ → ℕ
fault_slot e good = cond (ltb e 2) (1040 + e) good

-- the slots of the first n pins there
pub record FaultSlots (n : ℕ) (decided good faulty : List ℕ) : Type 0 where
  pub long : length faulty ≡ 4096
  pub slot : (p : ℕ) → p < n → get_or faulty p 0 ≡ fault_slot (get_or decided p 0) (get_or good p 0)
