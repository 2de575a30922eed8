-- The faults in pad buffers, each a run of its own, in the chunks from q on, at the outputs of a group g.
use Rattle.std.specs.Prelude.{ℕ, ◌+◌, ◌-◌, ◌/◌, ◌≤◌, ◌<◌, ◌≡◌, ◌⊎◌, Bool, List, length, get_or}
use Rattle.chip.specs.Netlist.{out_pin, all_pins}
use Rattle.chip.specs.Inner.Limits.{InLimits}
use Rattle.chip.specs.Inner.Tables.{tabled, FirstPins, BranchTable}
use Rattle.chip.specs.Faults.{stuck}
use Rattle.order.specs.Order.{Ordered}
use Rattle.faults.specs.Decided.{Decided}
use Rattle.slots.specs.Slots.{FaultSlots}
use Rattle.events.specs.Events.{Chip, Worked}
use Rattle.homes.specs.Homes.{Looked}
use Rattle.faults.specs.Numbers.{fault_number}
use Rattle.known.specs.Setting.{Shows, Setting, Advance, GoodRun, lane_of_run}

-- the tables of a prepared chip, with the slots of its pins and outputs, and the good words
pub record Tables (i c o n q g : ℕ) (kinds counts firsts nets order branches reach src outs goods : List ℕ) : Type 0 where
  pub limits : InLimits (tabled i c o kinds counts nets)
  pub pins : n ≡ all_pins (tabled i c o kinds counts nets)
  pub first_pins : FirstPins (tabled i c o kinds counts nets) firsts
  pub ordered : Ordered (tabled i c o kinds counts nets) order
  pub branched : BranchTable (tabled i c o kinds counts nets) branches
  pub slots_long : n ≤ length src
  pub chip : (heads readers : List ℕ) × Chip c kinds counts firsts src order reach heads readers
  pub ready : GoodRun c q g kinds counts firsts src order reach outs goods
  pub outs_are : (z : ℕ) → z < o → get_or outs z 0 ≡ get_or src (out_pin (tabled i c o kinds counts nets) z) 0

-- ---- one fault

-- the slots of the pins under fault f
pub record Faulty (i c o n f : ℕ) (kinds counts nets src faulty : List ℕ) : Type 0 where
  pub decided : List ℕ
  pub decides : Decided (tabled i c o kinds counts nets) (stuck (fault_number (i + c) f)) decided
  pub slots : FaultSlots n decided src faulty

-- fault f looked for at the outputs of u, with the words of the run on its slots
pub record FaultRan (c o n f q u : ℕ) (kinds counts firsts faulty order reach outs goods left best pat left' best' pat' : List ℕ) : Type 0 where
  pub vals : List ℕ
  pub ends : List ℕ
  pub worked : Worked c u kinds counts firsts faulty order reach goods vals c
  pub ends_are : (z : ℕ) → z < o → get_or ends z 0 ≡ get_or faulty (n - o + z) 0
  pub looked : Looked f q u (λ z. lane_of_run (get_or outs z 0) (get_or ends z 0) goods vals) left best pat left' best' pat'

-- fault f goes on
pub record FaultStep (i c o q g : ℕ) (kinds counts firsts nets order reach src outs goods : List ℕ) (f left best pat left' best' pat' : ℕ) : Type 0 where
  pub advance : (cone : List ℕ) (low : ℕ → ℕ) (rel : ℕ → ℕ → Bool) → Setting i c o kinds counts nets firsts order cone reach src outs low rel g q goods
      → Advance (Shows i c o kinds counts nets low rel f) g q left best pat left' best' pat'

-- ---- the faults of pad buffers

-- fault f is one of the net or of the pin of cell j
abbrev pub CellFault : ℕ → ℕ → List ℕ → ℕ → ℕ → Type 0
CellFault i c firsts j f = (f / 2 ≡ i + j) ⊎ (f / 2 ≡ i + c + get_or firsts j 0)

-- fault f is one of the net or of the pin of a pad buffer
abbrev pub PadFault : ℕ → ℕ → List ℕ → List ℕ → ℕ → Type 0
PadFault i c firsts sources f = (j : ℕ) × (j < c) × (get_or sources (i + j) 0 < i) × CellFault i c firsts j f
