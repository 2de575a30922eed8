-- The tables of the transformed circuit, and what they are made from.
use Rattle.std.specs.Prelude.{ℕ, ◌+◌, ◌*◌, ◌≤◌, ◌<◌, ◌≡◌, true, cond, List, ltb, get_or}
use Rattle.chip.specs.Netlist.{Netlist, first_pin, out_pin, all_pins}
use Rattle.chip.specs.Class.{Blocks, blocks}
use Rattle.chip.specs.Transformed.{copied, copy_at, net_for, home, copies, opened_net, flat, transformed}
use Rattle.copies.specs.Inner.Marks.{CopiesOf}
use Rattle.copies.specs.declared.Copies.{Copies}
use Rattle.opening.specs.Open.{netlist_of, IsOpen}
use Rattle.opening.specs.declared.Chip.{Chip}

-- the blocks of an open chip
abbrev pub blocks_in : {t : Chip} → IsOpen t → Blocks
blocks_in {t} h = blocks (netlist_of t) h.ready.shaped.low

-- an open chip and its copies, with which one file can hold it
pub record Copied (t : Chip) (found : Copies) : Type 0 where
  pub is_open : IsOpen t
  pub copies_are : CopiesOf (netlist_of t) (blocks_in is_open) found
  pub few_blocks : t.shape.blocks ≤ 64
  pub few_cells : t.sizes.cells + found.count ≤ 1024
  pub few_pins : t.sizes.pins + found.count ≤ 4096

-- the kinds and the pin counts of k cells: c old cells, then copies, which are BUFs
pub record NewCells (c k : ℕ) (kinds counts flats sizes : List ℕ) : Type 0 where
  pub kind : (j : ℕ) → j < k → get_or flats j 0 ≡ cond (ltb j c) (flat (get_or kinds j 0)) 0
  pub count : (j : ℕ) → j < k → get_or sizes j 0 ≡ cond (ltb j c) (get_or counts j 0) 1

-- where pin p of the netlist stands in the transformed circuit: output pins come after those of m copies
abbrev pub moved : ℕ → ℕ → ℕ → ℕ
moved first m p = cond (ltb p first) p (p + m)

-- the table has the nets of the netlist's first n pins
pub record OldNets (N : Netlist) (B : Blocks) (m n : ℕ) (table : List ℕ) : Type 0 where
  pub at : (p : ℕ) → p < n → get_or table (moved (out_pin N 0) m p) 0 ≡ net_for N B (home N B p) (N.net p)

-- the table has the nets of the pins of the copies whose places are below l
pub record CopyNets (N : Netlist) (B : Blocks) (l : ℕ) (table : List ℕ) : Type 0 where
  pub at : (b j : ℕ) → b < B.count → j < N.cells → 1024 * b + j < l → copied N B b j ≡ true → get_or table (out_pin N 0 + copy_at N B b j) 0 ≡ net_for N B b (N.net (first_pin N j))

-- the old cells, then the copies, which are BUFs; and the net of each pin
pub record NewTables (N : Netlist) (B : Blocks) (kinds counts nets : List ℕ) : Type 0 where
  pub old_kind : (j : ℕ) → j < N.cells → get_or kinds j 0 ≡ flat (N.kind j)
  pub old_count : (j : ℕ) → j < N.cells → get_or counts j 0 ≡ N.pins j
  pub new_kind : (k : ℕ) → k < copies N B → get_or kinds (N.cells + k) 0 ≡ 0
  pub new_count : (k : ℕ) → k < copies N B → get_or counts (N.cells + k) 0 ≡ 1
  pub new_net : (p : ℕ) → p < all_pins (transformed N B) → get_or nets p 0 ≡ opened_net N B p
