-- What the faults are looked for on in the chunks from q on, at the outputs of a group g, whose blocks are the same.
use Rattle.std.specs.Prelude.{ℕ, ◌+◌, ◌*◌, ◌/◌, ◌%◌, ◌≤◌, ◌<◌, ◌≡◌, Bool, true, List, length, get_or}
use Rattle.std.specs.Bool.{xor}
use Rattle.std.specs.Int.Bits.{bit_and}
use Rattle.chip.specs.Netlist.{out_pin}
use Rattle.chip.specs.Inner.Tables.{tabled}
use Rattle.chip.specs.Class.{blocks}
use Rattle.chip.specs.Faults.{stuck}
use Rattle.chip.specs.Search.{digit, width, Tried}
use Rattle.flip.specs.Bed.{Bed}
use Rattle.bridge.specs.Chunk.{Chunk}
use Rattle.faults.specs.Numbers.{fault_number}
use Rattle.events.specs.Events.{Good}
use Rattle.known.specs.Known.{Known}

-- the tables of a prepared chip, with the slots of a group of outputs, and the good words of the chunks
pub record Setting (i c o : ℕ) (kinds counts nets firsts order cone reach src outs : List ℕ) (low : ℕ → ℕ) (rel : ℕ → ℕ → Bool) (g q : ℕ) (goods : List ℕ) : Type 0 where
  pub bed : (z : ℕ) → z < 64 → digit z g ≡ true → Bed (tabled i c o kinds counts nets) low rel z firsts order cone src
  pub chunk : (z : ℕ) → z < 64 → digit z g ≡ true → Chunk (width (blocks (tabled i c o kinds counts nets) low) rel z) q goods
  pub masks : (t : ℕ) → t < c → get_or reach t 0 ≡ get_or cone (get_or firsts (get_or order t 0) 0) 0
  pub outs_are : (z : ℕ) → z < 64 → digit z g ≡ true → get_or outs z 0 ≡ get_or src (out_pin (tabled i c o kinds counts nets) z) 0

-- the words of the good run, and the outputs
pub record GoodRun (c q g : ℕ) (kinds counts firsts src order reach outs goods : List ℕ) : Type 0 where
  pub chunk : q < 4096
  pub words : length goods ≡ 16672
  pub outs_long : length outs ≡ 64
  pub outs_low : (z : ℕ) → z < 64 → 16 * get_or outs z 0 + 16 ≤ 16672
  pub good : (u : ℕ) → Good c (bit_and u g) kinds counts firsts src order reach goods

-- ---- the faults and their entries

-- pattern m shows fault f at output z
abbrev pub Shows : ℕ → ℕ → ℕ → List ℕ → List ℕ → List ℕ → (ℕ → ℕ) → (ℕ → ℕ → Bool) → ℕ → ℕ → ℕ → Type 0
Shows i c o kinds counts nets low rel f z m = Tried (tabled i c o kinds counts nets) (blocks (tabled i c o kinds counts nets) low) (stuck (fault_number (i + c) f)) rel z m

-- one fault's entries go from what is known of the patterns before the chunks to what is known of those before the next
pub record Advance (Shown : ℕ → ℕ → Type 0) (g q left best pat left' best' pat' : ℕ) : Type 0 where
  pub step : (left₀ best₀ pat₀ : ℕ) → Known Shown g (64 * q) left₀ best₀ pat₀ left best pat → Known Shown g (64 * (q + 16)) left₀ best₀ pat₀ left' best' pat'

-- the tables of the faults
pub record Long (left best pat : List ℕ) : Type 0 where
  pub long_left : length left ≡ 10368
  pub long_best : length best ≡ 10368
  pub long_pat : length pat ≡ 10368

-- no entry changed but those of the faults that are Mine
pub record Kept (Mine : ℕ → Type 0) (left best pat left' best' pat' : List ℕ) : Type 0 where
  pub long : Long left' best' pat'
  pub others : (f : ℕ) → ¬ Mine f → (get_or left' f 0 ≡ get_or left f 0) × (get_or best' f 0 ≡ get_or best f 0) × (get_or pat' f 0 ≡ get_or pat f 0)

-- the faults that are Mine went on, each as Step tells of its entries before and after, and no other entry changed
pub record Went (Mine : ℕ → Type 0) (Step : ℕ → ℕ → ℕ → ℕ → ℕ → ℕ → ℕ → Type 0) (left best pat left' best' pat' : List ℕ) : Type 0 where
  pub kept : Kept Mine left best pat left' best' pat'
  pub step : (f : ℕ) → Mine f → Step f (get_or left f 0) (get_or best f 0) (get_or pat f 0) (get_or left' f 0) (get_or best' f 0) (get_or pat' f 0)

-- lane x of the difference of the good words at slot s and the words of a run at slot e
abbrev pub lane_of_run : ℕ → ℕ → List ℕ → List ℕ → ℕ → Bool
lane_of_run s e goods vals x = xor (digit (x % 64) (get_or goods (16 * s + x / 64) 0)) (digit (x % 64) (get_or vals (16 * e + x / 64) 0))
