-- What a group of outputs with the same blocks behind them is tried on, chunk by chunk.
use Rattle.std.specs.Prelude.{ℕ, ◌+◌, ◌-◌, ◌*◌, ◌/◌, ◌^◌, ◌≤◌, ◌<◌, ◌≡◌, ◌⊎◌, Bool, true, false, List, get_or}
use Rattle.chip.specs.Netlist.{Netlist}
use Rattle.chip.specs.Inner.Tables.{tabled}
use Rattle.chip.specs.Search.{digit}
use Rattle.chip.specs.Pads.{pad_buffer}
use Rattle.known.specs.Known.{Known}
use Rattle.known.specs.Setting.{Setting, Shows, Advance, Long}
use Rattle.alone.specs.Alone.{Between}
use Rattle.buffers.specs.Buffers.{PadFault}
use Rattle.places.specs.Places.{fault_of}
use Rattle.stages.specs.Stage.{Stage, Variables}

-- ---- the faults

-- fault f is one of a cell that is no pad buffer
pub record AtHome (i c : ℕ) (N : Netlist) (counts firsts order : List ℕ) (f : ℕ) : Type 0 where
  pub place : ℕ
  pub fault : ℕ
  pub in_order : place < c
  pub own : pad_buffer N (get_or order place 0) ≡ false
  pub one : fault < 2 * get_or counts (get_or order place 0) 0 + 2
  pub is : f ≡ fault_of i c firsts order place fault

-- fault f is a run of its own, or looked at without one: that of an input, of a pad buffer or of an output's pin
abbrev pub Alone : ℕ → ℕ → ℕ → ℕ → List ℕ → List ℕ → ℕ → Type 0
Alone i c o n firsts sources f = (f < 2 * i) ⊎ (PadFault i c firsts sources f ⊎ Between (2 * (i + c + n - o)) (2 * (i + c + n)) f)

-- one fault goes on in the chunks from q on
pub record ChunkStep (i c o n w q u : ℕ) (kinds counts firsts nets order reach src outs list input goods : List ℕ) (f left best pat left' best' pat' : ℕ) : Type 0 where
  pub advance : (cone : List ℕ) (low : ℕ → ℕ) (rel : ℕ → ℕ → Bool) → Setting i c o kinds counts nets firsts order cone reach src outs low rel u q goods
      → Variables (tabled i c o kinds counts nets) low rel u w list input → ((y : ℕ) → 2 * (i + c + n - o) ≤ f → digit y left ≡ true → y ≡ f / 2 - (i + c + n - o))
      → Advance (Shows i c o kinds counts nets low rel f) u q left best pat left' best' pat'

-- all faults went on in the chunks from q on
pub record ChunkTried (i c o n w q u : ℕ) (kinds counts firsts nets order branches sources reach heads readers src outs list input left best pat left' best' pat' : List ℕ) : Type 0 where
  pub long : Long left' best' pat'
  pub advance : (cone : List ℕ) (low : ℕ → ℕ) (rel : ℕ → ℕ → Bool) → Stage i c o n w u kinds counts firsts nets order branches sources cone reach heads readers src outs list input low rel
      → (f : ℕ) → f < 2 * (i + c + n) → Advance (Shows i c o kinds counts nets low rel f) u q (get_or left f 0) (get_or best f 0) (get_or pat f 0) (get_or left' f 0) (get_or best' f 0) (get_or pat' f 0)

-- one fault once a group is tried: either all patterns are, or it is left to no output of the group
pub record Ended (Shown : ℕ → ℕ → Type 0) (g size left best pat left' best' pat' : ℕ) : Type 0 where
  pub below : ℕ
  pub known : Known Shown g below left best pat left' best' pat'
  pub tried : (z : ℕ) → digit z left' ≡ true → digit z g ≡ true → size ≤ below

-- all faults once a group is tried
pub record GroupTried (i c o n w g : ℕ) (kinds counts firsts nets order branches sources reach heads readers src outs list input left best pat left' best' pat' : List ℕ) : Type 0 where
  pub long : Long left' best' pat'
  pub ended : (cone : List ℕ) (low : ℕ → ℕ) (rel : ℕ → ℕ → Bool) → Stage i c o n w g kinds counts firsts nets order branches sources cone reach heads readers src outs list input low rel
      → (f : ℕ) → f < 2 * (i + c + n) → Ended (Shows i c o kinds counts nets low rel f) g (2 ^ w) (get_or left f 0) (get_or best f 0) (get_or pat f 0) (get_or left' f 0) (get_or best' f 0) (get_or pat' f 0)
