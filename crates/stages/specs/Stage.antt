-- What a group of outputs with the same blocks behind them is tried on.
use Rattle.std.specs.Prelude.{ℕ, ◌+◌, ◌-◌, ◌*◌, ◌/◌, ◌≤◌, ◌<◌, ◌≡◌, ◌≢◌, Bool, true, false, List, length, get_or}
use Rattle.chip.specs.Netlist.{Netlist, out_pin, all_pins}
use Rattle.chip.specs.Inner.Limits.{InLimits}
use Rattle.chip.specs.Inner.Tables.{tabled, FirstPins, BranchTable}
use Rattle.chip.specs.Pads.{branch_of, pad_buffer}
use Rattle.chip.specs.Class.{Reach, blocks, tally}
use Rattle.chip.specs.Search.{digit, width}
use Rattle.order.specs.Order.{Ordered}
use Rattle.pads.specs.Sources.{SourceTable}
use Rattle.events.specs.Events.{Chip}
use Rattle.flip.specs.Bed.{Bed}
use Rattle.homes.specs.Homes.{number_of}

-- the cells of an order have different pins; the sites of place t are its net, and its pins from a site on
pub record Apart (i c : ℕ) (counts firsts src order : List ℕ) : Type 0 where
  pub few_inputs : i ≤ 64
  pub pins_long : length src ≡ 4096
  pub cell : (t : ℕ) → t < c → get_or order t 0 < c
  pub pins : (s t x y : ℕ) → s < c → t < c → s ≢ t → x < get_or counts (get_or order s 0) 0 → y < get_or counts (get_or order t 0) 0
      → get_or firsts (get_or order s 0) 0 + x ≢ get_or firsts (get_or order t 0) 0 + y

-- the blocks of w variables, with the readers of each
pub record VariableReaders (c w : ℕ) (counts firsts src order heads readers list input : List ℕ) : Type 0 where
  pub few : w ≤ 16
  pub listed : w ≤ length list
  pub known : (k : ℕ) → k < w → get_or list k 0 < length input
  pub headed : (k : ℕ) → k < w → get_or list k 0 + 1 < length heads
  pub up : (k : ℕ) → k < w → get_or heads (get_or list k 0) 0 ≤ get_or heads (get_or list k 0 + 1) 0
  pub held : (k : ℕ) → k < w → get_or heads (get_or list k 0 + 1) 0 ≤ length readers
  pub reads : (k t i : ℕ) → k < w → t < c → i < get_or counts (get_or order t 0) 0 → get_or src (get_or firsts (get_or order t 0) 0 + i) 0 ≡ k
      → (r : ℕ) × (get_or heads (get_or list k 0) 0 ≤ r) × (r < get_or heads (get_or list k 0 + 1) 0) × (get_or readers r 0 ≡ t)

-- the blocks of the w variables of a group, and the input of each block; a block that reaches an output of the group is a variable
pub record Variables (N : Netlist) (low : ℕ → ℕ) (rel : ℕ → ℕ → Bool) (g w : ℕ) (list input : List ℕ) : Type 0 where
  pub wide : (z : ℕ) → z < 64 → digit z g ≡ true → width (blocks N low) rel z ≡ w
  pub blocks_few : (k : ℕ) → k < w → get_or list k 0 < 4160
  pub listed : (z b : ℕ) → z < 64 → digit z g ≡ true → b < (blocks N low).count → rel z b ≡ true → get_or list (tally (rel z) b) 0 ≡ b
  pub input_is : (p : ℕ) → p < all_pins N → branch_of N p < N.inputs → get_or input ((blocks N low).block p) 0 ≡ branch_of N p
  pub reached : (z p e : ℕ) → z < 64 → digit z g ≡ true → branch_of N p < N.inputs → Reach N z p e → rel z ((blocks N low).block p) ≡ true

-- the tables of a group g of outputs, with w blocks behind each
pub record Stage (i c o n w g : ℕ) (kinds counts firsts nets order branches sources cone reach heads readers src outs list input : List ℕ) (low : ℕ → ℕ) (rel : ℕ → ℕ → Bool) : Type 0 where
  pub limits : InLimits (tabled i c o kinds counts nets)
  pub pins : n ≡ all_pins (tabled i c o kinds counts nets)
  pub first_pins : FirstPins (tabled i c o kinds counts nets) firsts
  pub ordered : Ordered (tabled i c o kinds counts nets) order
  pub branched : BranchTable (tabled i c o kinds counts nets) branches
  pub sources_are : SourceTable (tabled i c o kinds counts nets) sources
  pub chip : Chip c kinds counts firsts src order reach heads readers
  pub apart : Apart i c counts firsts src order
  pub reading : VariableReaders c w counts firsts src order heads readers list input
  pub variables : Variables (tabled i c o kinds counts nets) low rel g w list input
  pub masks : (t : ℕ) → t < c → get_or reach t 0 ≡ get_or cone (get_or firsts (get_or order t 0) 0) 0
  pub beds : (z : ℕ) → z < 64 → digit z g ≡ true → Bed (tabled i c o kinds counts nets) low rel z firsts order cone src
  pub outs_long : length outs ≡ 64
  pub outs_low : (z : ℕ) → z < 64 → 16 * get_or outs z 0 + 16 ≤ 16672
  pub outs_are : (z : ℕ) → z < o → get_or outs z 0 ≡ get_or src (out_pin (tabled i c o kinds counts nets) z) 0

-- a word that has all outputs left to the faults of a home
pub record Covers (net pin n : ℕ) (left : List ℕ) (word : ℕ) : Type 0 where
  pub all : (e z : ℕ) → e < 2 * n + 2 → digit z (get_or left (number_of e net pin) 0) ≡ true → digit z word ≡ true

-- groups has for each place the outputs left to its faults, or more, and 0 for a pad buffer
pub record Watch (i c : ℕ) (N : Netlist) (counts firsts order left groups : List ℕ) : Type 0 where
  pub long : length groups ≡ 1024
  pub covers : (t : ℕ) → t < c → pad_buffer N (get_or order t 0) ≡ false
      → Covers (i + get_or order t 0) (i + c + get_or firsts (get_or order t 0) 0) (get_or counts (get_or order t 0) 0) left (get_or groups t 0)
  pub idle : (t : ℕ) → t < c → pad_buffer N (get_or order t 0) ≡ true → get_or groups t 0 ≡ 0

-- a stuck pin of an output is left to that output only
abbrev pub OutsOnly : ℕ → ℕ → ℕ → ℕ → List ℕ → Type 0
OutsOnly i c o n left = (f y : ℕ) → 2 * (i + c + n - o) ≤ f → f < 2 * (i + c + n) → digit y (get_or left f 0) ≡ true → y ≡ f / 2 - (i + c + n - o)
