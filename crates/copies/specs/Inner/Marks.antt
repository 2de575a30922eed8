-- Marks of the cells of which blocks have copies: place 1024 * b + j stands for block b and cell j.
use Rattle.std.specs.Prelude.{ℕ, ◌+◌, ◌*◌, ◌-◌, ◌≤◌, ◌<◌, ◌⊎◌, ◌≡◌, Bool, not, cond, ◌&&◌, List, eqb, leb, ltb, length, get_or}
use Rattle.chip.specs.Netlist.{Netlist, all_pins, bit}
use Rattle.chip.specs.Inner.Limits.{InLimits}
use Rattle.chip.specs.Pads.{some, branch_of}
use Rattle.chip.specs.Class.{LoopFree, Lowest, Blocks, blocks}
use Rattle.chip.specs.Inner.Tables.{FirstPins, BranchTable}
use Rattle.blocks.specs.Labels.{BlockTable}
use Rattle.chip.specs.Transformed.{on_way, copied, copies, copy_at}
use Rattle.copies.specs.declared.Copies.{Copies}

-- pin p is a branch, and the way back to its input can be walked by the first pins
pub record Way (N : Netlist) (firsts : List ℕ) (p : ℕ) : Type 0 where
  pub limits : InLimits N
  pub loop_free : LoopFree N
  pub first_pins : FirstPins N firsts
  pub pin : p < all_pins N
  pub input : branch_of N p < N.inputs

-- what the copies in a netlist of n pins are found from
pub record Ways (N : Netlist) (n : ℕ) (firsts branches : List ℕ) : Type 0 where
  pub limits : InLimits N
  pub loop_free : LoopFree N
  pub first_pins : FirstPins N firsts
  pub branch_table : BranchTable N branches
  pub pins : n ≡ all_pins N

-- the cells on the way to branch p are marked, from place `base` on, and other marks stay
pub record WayMarked (N : Netlist) (p base : ℕ) (before after : List ℕ) : Type 0 where
  pub long : length after ≡ length before
  pub at : (l : ℕ) → get_or after l 0 ≡ cond (leb base l && on_way N p (l - base)) 1 (get_or before l 0)

-- pin p is a branch of a block that is not its input's lowest, and place l stands for that block and a cell on the way to p
abbrev pub flat_way : Netlist → Blocks → ℕ → ℕ → Bool
flat_way N B l p =
    ltb (branch_of N p) N.inputs
    && (not (eqb (B.first (branch_of N p)) (B.block p)) && (leb (1024 * B.block p) l && on_way N p (l - 1024 * B.block p)))

-- the marks for the first q pins
pub record FlatMarks (N : Netlist) (B : Blocks) (q : ℕ) (marks : List ℕ) : Type 0 where
  pub long : length marks ≡ 65536
  pub at : (l : ℕ) → get_or marks l 0 ≡ bit (some (flat_way N B l) q)

-- a table of the lowest blocks of the inputs
abbrev pub FirstBlocks : Netlist → Blocks → List ℕ → Type 0
FirstBlocks N B table = (x : ℕ) → x < N.inputs → get_or table x 0 ≡ B.first x

-- r is above block `at` and all blocks that the tables have for branches of input x among the first n pins, and next to one of these
pub record NextBlock (branches block : List ℕ) (x at n r : ℕ) : Type 0 where
  pub over : at < r
  pub above : (p : ℕ) → p < n → get_or branches p 0 ≡ x → get_or block p 0 < r
  pub met : (r ≡ at + 1) ⊎ ((p : ℕ) × (p < n) × (get_or branches p 0 ≡ x) × (r ≡ get_or block p 0 + 1))

-- the table has the blocks of the branches, of which there are at most 64
pub record LowestBlocks (N : Netlist) (block : List ℕ) : Type 0 where
  pub low : ℕ → ℕ
  pub lowest : Lowest N low
  pub table : BlockTable N low block
  pub few : (blocks N low).count ≤ 64

-- tables for copies, with no mark yet
pub record NoCopies (found : Copies) : Type 0 where
  pub lowest_long : length found.lowest ≡ 64
  pub marks_long : length found.marks ≡ 65536
  pub numbers_long : length found.numbers ≡ 65536
  pub unmarked : (l : ℕ) → get_or found.marks l 0 ≡ 0

-- what was found are the copies of a circuit: the lowest block of each input; for block b and cell j whether the block has a copy of the cell, and its number; and how many there are
pub record CopiesOf (N : Netlist) (B : Blocks) (found : Copies) : Type 0 where
  pub marks_long : length found.marks ≡ 65536
  pub numbers_long : length found.numbers ≡ 65536
  pub lowest_is : FirstBlocks N B found.lowest
  pub marked : (b j : ℕ) → b < B.count → j < N.cells → get_or found.marks (1024 * b + j) 0 ≡ bit (copied N B b j)
  pub numbered : (b j : ℕ) → b < B.count → j < N.cells → get_or found.numbers (1024 * b + j) 0 ≡ copy_at N B b j
  pub cells_only : (b j : ℕ) → N.cells ≤ j → j < 1024 → get_or found.marks (1024 * b + j) 0 ≡ 0
  pub count_is : found.count ≡ copies N B
