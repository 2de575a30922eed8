-- What each step writes to its table: entry q may get value v where there is a mark for both.
use Rattle.std.specs.Prelude.{ℕ, ◌+◌, ◌*◌, ◌-◌, ◌≤◌, ◌<◌, ◌≡◌, ◌⊎◌, true, List, length, get_or}
use Rattle.std.specs.Int.Bits.{bit_and}
use Rattle.chip.specs.Netlist.{Netlist}
use Rattle.chip.specs.Pads.{branch_of}
use Rattle.chip.specs.Class.{Reach, tally}
use Rattle.chip.specs.Search.{digit}
use Rattle.slots.specs.Slots.{rel_of}

-- an entry with a mark has a value that is marked for it, and every other entry stays
pub record Changed (Mark : ℕ → ℕ → Type 0) (entry exit : List ℕ) : Type 0 where
  pub put : (q v : ℕ) → Mark q v → Mark q (get_or exit q 0)
  pub kept : (q : ℕ) → (get_or exit q 0 ≡ get_or entry q 0) ⊎ Mark q (get_or exit q 0)
  pub long : length exit ≡ length entry

-- Lists: entry 16 z + k is block k of those that reach output z, the first 16 of them.

-- block s as number w of output z
pub record BlockMark (z w s q v : ℕ) : Type 0 where
  pub few : w < 16
  pub at : q ≡ 16 * z + w
  pub is : v ≡ s

-- the blocks below b that reach output z
pub record RowMark (b z : ℕ) (reached : List ℕ) (q v : ℕ) : Type 0 where
  pub block : v < b
  pub reaches : rel_of reached z v ≡ true
  pub few : tally (rel_of reached z) v < 16
  pub at : q ≡ 16 * z + tally (rel_of reached z) v

-- those of the outputs below y that are in the word outs
pub record ListMark (b y outs : ℕ) (reached : List ℕ) (q v : ℕ) : Type 0 where
  pub out : ℕ
  pub below : out < y
  pub among : digit out outs ≡ true
  pub row : RowMark b out reached q v

-- Spots: entry 16 z + k is the place of that block in a play.

-- place t for block s, at the first k numbers of output z
pub record SpotMark (k z s t : ℕ) (lists : List ℕ) (q v : ℕ) : Type 0 where
  pub from : 16 * z ≤ q
  pub to : q < 16 * z + k
  pub block : get_or lists q 0 ≡ s
  pub is : v ≡ t

-- the same at those of the outputs below y that are in the word
pub record PinMark (y word s t : ℕ) (lists : List ℕ) (q v : ℕ) : Type 0 where
  pub out : ℕ
  pub below : out < y
  pub reached : digit out word ≡ true
  pub spot : SpotMark 16 out s t lists q v

-- the branches below n, each with its input's place in the clock that begins at a place, for the outputs of its word that are in outs
pub record LevelMark (i o n from outs : ℕ) (branches block words lists : List ℕ) (q v : ℕ) : Type 0 where
  pub pin : ℕ
  pub below : pin < n
  pub branch : get_or branches pin 0 < i
  pub mark : PinMark o (bit_and (get_or words pin 0) outs) (get_or block pin 0) (from + get_or branches pin 0) lists q v

-- the depths below e, for the outputs in outs: depth y stands at clock d - y
pub record DepthMark (N : Netlist) (d e outs : ℕ) (block lists : List ℕ) (q v : ℕ) : Type 0 where
  pub depth : ℕ
  pub below : depth < e
  pub pin : ℕ
  pub branch : branch_of N pin < N.inputs
  pub out : ℕ
  pub among : digit out outs ≡ true
  pub reach : Reach N out pin depth
  pub spot : SpotMark 16 out (get_or block pin 0) ((d - depth) * N.inputs + branch_of N pin) lists q v

-- A play: a one at the place of each of the first n bits of the pattern's number that is set.
pub record OneMark (n z m : ℕ) (spots : List ℕ) (q v : ℕ) : Type 0 where
  pub number : ℕ
  pub below : number < n
  pub on : digit number m ≡ true
  pub at : q ≡ get_or spots (16 * z + number) 0
  pub is : v ≡ 1
