-- The slots of the pins under a fault, and the words of its run.
use Prim.Native.Nat.{ℕ, suc, ◌+◌, ◌-◌, ◌*◌, ◌≤◌, ◌<◌}
use mathlib.Core.Path.{◌≡◌, sym, ap, ◌∙◌, subst}
use mathlib.Core.Logic.{◌⊎◌, inl, inr, ⊎_elim}
use mathlib.Core.Bool.{cond}
use mathlib.Core.List.{List}
use native.Mathlib.Omega.{arith}
use native.Mathlib.Decide.{dec_lt}
use borrow.Author.Tests.{lt-ltb, le-ltb}
use lib.ListN.{length, get_or}
use lib.Seq.{ext_get_or}
use Rattle.chip.specs.Netlist.{all_pins}
use Rattle.chip.specs.Inner.Limits.{InLimits}
use Rattle.chip.specs.Inner.Tables.{tabled, FirstPins}
use Rattle.chip.proofs.Basics.{sum_up}
use Rattle.order.specs.Order.{Ordered}
use Rattle.rows.specs.Rows.{Filled}
use Rattle.rows.proofs.Fill.{row_at}
use Rattle.slots.specs.Slots.{fault_slot, FaultSlots}
use Rattle.events.specs.Events.{Chip, Worked}
use Rattle.homes.specs.Homes.{Looked}
use Rattle.bridge.specs.Chunk.{Chunk}
use Rattle.known.specs.Setting.{lane_of_run}
use Rattle.buffers.specs.Buffers.{Tables, Faulty, FaultRan}

-- ---- the slots

-- a pin looks at the slot of a constant or at its good one
fault_slot_lem : (d s : ℕ) → ((e : ℕ) × (e < 2) × (fault_slot d s ≡ 1040 + e)) ⊎ (fault_slot d s ≡ s)
fault_slot_lem d s = elim (dec_lt d 2) [
  | yes l ↦ inl (d, l, ap (λ r. cond r (1040 + d) s) (lt-ltb d 2 l))
  | no g ↦ inr (ap (λ r. cond r (1040 + d) s) (le-ltb d 2 (omega arith)))
]

module _ (n : ℕ) (decided src faulty : List ℕ) (S : FaultSlots n decided src faulty) where
  pin_slot : (p : ℕ) → p < n → ((e : ℕ) × (e < 2) × (get_or faulty p 0 ≡ 1040 + e)) ⊎ (get_or faulty p 0 ≡ get_or src p 0)
  pin_slot p l = ⊎_elim (λ a. let (e, h, q) = a in inl (e, h, S.slot p l ∙ q)) (λ q. inr (S.slot p l ∙ q)) (fault_slot_lem (get_or decided p 0) (get_or src p 0))

  pub slot_low : (p : ℕ) → p < n → 16 * get_or src p 0 + 16 ≤ 16672 → 16 * get_or faulty p 0 + 16 ≤ 16672
  slot_low p l h = ⊎_elim (λ a. let (e, k, q) = a in omega arith) (λ q. omega arith) (pin_slot p l)

  -- a pin that looks at a cell's slot does so without the fault too
  cell_slot : (p j : ℕ) → p < n → j < 1024 → get_or faulty p 0 ≡ 16 + j → get_or src p 0 ≡ 16 + j
  cell_slot p j l h e = ⊎_elim (λ a. let (d, k, q) = a in absurd (omega arith)) (λ q. sym q ∙ e) (pin_slot p l)

  module _ (i c o : ℕ) (kinds counts nets firsts order reach heads readers : List ℕ) (L : InLimits (tabled i c o kinds counts nets)) (ne : n ≡ all_pins (tabled i c o kinds counts nets))
      (F : FirstPins (tabled i c o kinds counts nets) firsts) (O : Ordered (tabled i c o kinds counts nets) order) where
    pins_end : (t : ℕ) → t < c → get_or firsts (get_or order t 0) 0 + get_or counts (get_or order t 0) 0 ≤ n
    pins_end t l = omega (arith, F (get_or order t 0) (omega (arith, O.cell t l)), sum_up (λ j. get_or counts j 0) (suc (get_or order t 0)) c (O.cell t l))

    -- the cells can be worked out on the slots under the fault
    pub faulty_chip : Chip c kinds counts firsts src order reach heads readers → Chip c kinds counts firsts faulty order reach heads readers
    faulty_chip C =
        record {
          few = C.few;
          listed = C.listed;
          masks = C.masks;
          cell = C.cell;
          kind = C.kind;
          count = C.count;
          first = C.first;
          taken = C.taken;
          known = C.known;
          pins = λ t l. record {
            pins = omega (arith, pins_end t l, S.long, L.few_pins);
            slots = λ x h. slot_low (get_or firsts (get_or order t 0) 0 + x) (omega (arith, pins_end t l)) ((C.pins t l).slots x h);
          };
          once = C.once;
          ahead = λ s t x a h l e. C.ahead s t x a h l (cell_slot (get_or firsts (get_or order s 0) 0 + x) (get_or order t 0) (omega (arith, pins_end s (omega arith))) (C.cell t h) e);
          headed = C.headed;
          up = C.up;
          held = C.held;
          reader = C.reader;
          reads = λ s t x sc tc l e. C.reads s t x sc tc l (cell_slot (get_or firsts (get_or order t 0) 0 + x) (get_or order s 0) (omega (arith, pins_end t tc)) (C.cell s sc) e);
        }

-- ---- the words of the run

-- the variables and the constants are not touched
pub chunk_kept : (w q c u : ℕ) (kinds counts firsts faulty order reach goods vals : List ℕ) → w ≤ 16 → ((t : ℕ) → t < c → get_or order t 0 < 1024) → Worked c u kinds counts firsts faulty order reach goods vals c
    → Chunk w q goods → Chunk w q vals
chunk_kept w q c u kinds counts firsts faulty order reach goods vals wl few W C =
    record {
      bits = λ s k l h kl ll. let e : get_or vals (16 * s + k) 0 ≡ get_or goods (16 * s + k) 0 = W.others (16 * s + k) (λ t a y. omega arith) in rw e (C.bits s k l h kl ll);
      zeros = λ k kl. W.others (16 * 1040 + k) (λ t a y. omega (arith, few t a)) ∙ C.zeros k kl;
      ones = λ k kl. W.others (16 * 1041 + k) (λ t a y. omega (arith, few t a)) ∙ C.ones k kl;
    }

-- the good words stand everywhere again
pub put_back : (goods vals vals' : List ℕ) → length goods ≡ 16672 → length vals ≡ 16672 → Filled 0 16672 (λ x. get_or goods x 0) vals vals' → vals' ≡ goods
put_back goods vals vals' gl vl F = ext_get_or 0 vals' goods (F.long ∙ vl ∙ sym gl) (λ x l. row_at 16672 (λ x. get_or goods x 0) vals vals' F x (omega (arith, F.long)))

-- the slots that the outputs look at
pub ends_low : (a o : ℕ) (faulty blank ends : List ℕ) → o ≤ 64 → length blank ≡ 64 → ((z : ℕ) → get_or blank z 0 ≡ 0) → Filled 0 o (λ z. get_or faulty (a + z) 0) blank ends
    → ((z : ℕ) → z < o → 16 * get_or faulty (a + z) 0 + 16 ≤ 16672) → (z : ℕ) → z < 64 → 16 * get_or ends z 0 + 16 ≤ 16672
ends_low a o faulty blank ends ol bl zero F low z l = elim (dec_lt z o) [
  | yes h ↦ omega (arith, row_at o (λ z. get_or faulty (a + z) 0) blank ends F z h, low z h)
  | no g ↦ omega (arith, F.above z (omega arith), zero z)
]

pub ran_is : (c o n f q u : ℕ) (kinds counts firsts faulty order reach outs goods entry vals blank ends left best pat left' best' pat' : List ℕ) → entry ≡ goods
    → Worked c u kinds counts firsts faulty order reach entry vals c → Filled 0 o (λ z. get_or faulty (n - o + z) 0) blank ends
    → Looked f q u (λ z. lane_of_run (get_or outs z 0) (get_or ends z 0) goods vals) left best pat left' best' pat'
    → FaultRan c o n f q u kinds counts firsts faulty order reach outs goods left best pat left' best' pat'
ran_is c o n f q u kinds counts firsts faulty order reach outs goods entry vals blank ends left best pat left' best' pat' e W F L =
    record {
      vals = vals;
      ends = ends;
      worked = subst (λ x. Worked c u kinds counts firsts faulty order reach x vals c) e W;
      ends_are = λ z l. row_at o (λ z. get_or faulty (n - o + z) 0) blank ends F z l;
      looked = L;
    }

-- ---- what a prepared chip has

module _ {i c o n q g : ℕ} {kinds counts firsts nets order branches reach src outs goods : List ℕ} (T : Tables i c o n q g kinds counts firsts nets order branches reach src outs goods) where
  pub pin_low : (j : ℕ) → j < c → get_or firsts j 0 < n
  pin_low j l = omega (arith, T.pins, T.first_pins j (omega arith), T.limits.sound.pinned j l, sum_up (λ j. get_or counts j 0) (suc j) c l)

  pub outs_fit : (o ≤ 64) × (o ≤ n) × (n ≤ 4096)
  outs_fit = (T.limits.few_outputs, omega (arith, T.pins), omega (arith, T.pins, T.limits.few_pins))

  pub chip_there : {f : ℕ} {faulty : List ℕ} → Faulty i c o n f kinds counts nets src faulty → (heads readers : List ℕ) × Chip c kinds counts firsts faulty order reach heads readers
  chip_there {faulty = faulty} D =
      let (heads, readers, C) = T.chip in
      (heads, readers, faulty_chip n D.decided src faulty D.slots i c o kinds counts nets firsts order reach heads readers T.limits T.pins T.first_pins T.ordered C)
