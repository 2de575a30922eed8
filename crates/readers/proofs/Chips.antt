-- From a prepared chip to what the events run on.
use Prim.Native.Nat.{ℕ, suc, ◌+◌, ◌-◌, ◌≤◌, ◌<◌}
use mathlib.Core.Path.{◌≡◌, refl, sym, ap, ◌∙◌}
use mathlib.Core.Logic.{◌≢◌, ◌⊎◌, inl, inr, ⊎_elim}
use mathlib.Core.Bool.{Bool, true, false, cond}
use mathlib.Core.List.{List}
use native.Mathlib.Omega.{arith}
use native.Mathlib.Decide.{dec_lt}
use borrow.Author.Tests.{lt-ltb, le-ltb}
use lib.ListN.{length, get_or}
use lib.Dec.{ltb}
use Rattle.chip.specs.Netlist.{Netlist, PinOf, first_pin, all_pins}
use Rattle.chip.specs.Inner.Limits.{InLimits}
use Rattle.chip.specs.Pads.{branch_of}
use Rattle.chip.specs.Inner.Tables.{tabled, FirstPins, BranchTable}
use Rattle.chip.specs.Class.{blocks, tally}
use Rattle.chip.proofs.Basics.{sum_up}
use Rattle.chip.proofs.Blocks.{branch, counted, tally_past}
use Rattle.order.specs.Order.{Ordered}
use Rattle.levels.specs.Levels.{ReachMasks}
use Rattle.slots.specs.Slots.{rel_of, Laid, variable, Variables, PinSlots}
use Rattle.events.specs.Events.{Chip}
use Rattle.flip.specs.Bed.{Bed}
use Rattle.readers.specs.Readers.{key_of, Wires, Built, Lengths}

module _ (i c o b : ℕ) (kinds counts branches nets firsts order block : List ℕ) (low : ℕ → ℕ)
    (L : InLimits (tabled i c o kinds counts nets)) (F : FirstPins (tabled i c o kinds counts nets) firsts)
    (O : Ordered (tabled i c o kinds counts nets) order) (E : BranchTable (tabled i c o kinds counts nets) branches) (Z : Lengths kinds counts firsts branches nets order block) where
  few_cell : (t : ℕ) → t < c → get_or order t 0 < 1024
  few_cell t l = omega (arith, O.cell t l, L.few_cells)

  first_is : (t : ℕ) → t < c → get_or firsts (get_or order t 0) 0 ≡ first_pin (tabled i c o kinds counts nets) (get_or order t 0)
  first_is t l = F (get_or order t 0) (omega (arith, O.cell t l))

  once : (s t : ℕ) → s < c → t < c → s ≢ t → get_or order s 0 ≢ get_or order t 0
  once s t a h d e = d (sym (O.once s a) ∙ ap O.place e ∙ O.once t h)

  pins_end : (j : ℕ) → j < c → first_pin (tabled i c o kinds counts nets) j + get_or counts j 0 ≤ first_pin (tabled i c o kinds counts nets) c
  pins_end j l = sum_up (λ j. get_or counts j 0) (suc j) c l

  pin_of : (t x : ℕ) → t < c → x < get_or counts (get_or order t 0) 0 → PinOf (tabled i c o kinds counts nets) (get_or order t 0) (get_or firsts (get_or order t 0) 0 + x)
  pin_of t x l h = record { cell = O.cell t l; from = omega (arith, first_is t l); to = omega (arith, first_is t l) }

  pin_there : (t x : ℕ) → t < c → x < get_or counts (get_or order t 0) 0 → get_or firsts (get_or order t 0) 0 + x < all_pins (tabled i c o kinds counts nets)
  pin_there t x l h = omega (arith, first_is t l, pins_end (get_or order t 0) (O.cell t l))

  pub wires : b ≤ 4160 → Laid (tabled i c o kinds counts nets) b block low → Wires i c (first_pin (tabled i c o kinds counts nets) c) counts firsts branches nets order block
  wires bl D =
      record {
        heads = record {
          few_inputs = L.few_inputs;
          few_pins = omega (arith, L.few_pins);
          branches_long = Z.branches_long;
          nets_long = Z.nets_long;
          block_long = Z.block_long;
          named = λ p l. let h : p < all_pins (tabled i c o kinds counts nets) = omega arith in (
            λ q.
                let x : branch_of (tabled i c o kinds counts nets) p < i = rw (E p h) at q in
                omega (arith, D.table (branch_of (tabled i c o kinds counts nets) p) p (branch (tabled i c o kinds counts nets) low D.lowest p h x), (counted (tabled i c o kinds counts nets) low D.lowest).in_block p h x, D.count_is),
            omega (arith, L.sound.named p h, L.few_cells),
          );
        };
        few = L.few_cells;
        some = λ l. elim (dec_lt 0 c) [
          | yes h ↦ h
          | no g ↦ let e : c ≡ 0 = omega arith in absurd (omega (arith, rw e at l))
        ];
        listed = omega (arith, Z.order_long, L.few_cells);
        counted = λ t l. omega (arith, Z.counts_long, few_cell t l);
        first = λ t l. omega (arith, Z.firsts_long, few_cell t l);
        pins = λ t l. omega (arith, first_is t l, pins_end (get_or order t 0) (O.cell t l));
        apart = λ s t x y a h d p q e. elim (dec_lt (get_or order s 0) (get_or order t 0)) [
          | yes m ↦ omega (arith, first_is s a, first_is t h, sum_up (λ j. get_or counts j 0) (suc (get_or order s 0)) (get_or order t 0) m)
          | no m ↦ omega (arith, first_is s a, first_is t h, once s t a h d, sum_up (λ j. get_or counts j 0) (suc (get_or order t 0)) (get_or order s 0) (omega (arith, once s t a h d)))
        ];
      }

  -- one group of outputs: output z is one of them
  module _ (rel : ℕ → ℕ → Bool) (z : ℕ) (cone src : List ℕ) (Q : Bed (tabled i c o kinds counts nets) low rel z firsts order cone src) where
    -- a pin's slot is a variable's, a cell's, or that of the zeros
    low_slot : (p : ℕ) → p < all_pins (tabled i c o kinds counts nets) → branch_of (tabled i c o kinds counts nets) p < i → (get_or src p 0 < 16) ⊎ (get_or src p 0 ≡ 1040)
    low_slot p h l = go (rel z ((blocks (tabled i c o kinds counts nets) low).block p)) refl
      where
        go : (r : Bool) → rel z ((blocks (tabled i c o kinds counts nets) low).block p) ≡ r → (get_or src p 0 < 16) ⊎ (get_or src p 0 ≡ 1040)
        go true e = inl (omega (
          arith,
          Q.input_slot p h l ∙ ap (λ r. cond r (tally (rel z) ((blocks (tabled i c o kinds counts nets) low).block p)) 1040) e,
          Q.few,
          tally_past (rel z) ((blocks (tabled i c o kinds counts nets) low).block p) (blocks (tabled i c o kinds counts nets) low).count ((counted (tabled i c o kinds counts nets) low Q.lowest).in_block p h l) e,
        ))
        go false e = inr (Q.input_slot p h l ∙ ap (λ r. cond r (tally (rel z) ((blocks (tabled i c o kinds counts nets) low).block p)) 1040) e)

    slot_most : (p : ℕ) → p < all_pins (tabled i c o kinds counts nets) → get_or src p 0 ≤ 1041
    slot_most p h = elim (dec_lt (branch_of (tabled i c o kinds counts nets) p) i) [
      | yes l ↦ ⊎_elim (λ a. omega arith) (λ a. omega arith) (low_slot p h l)
      | no g ↦ elim (dec_lt (get_or nets p 0) i) [
        | yes n ↦ omega (arith, Q.idle_slot p h g n)
        | no n ↦ omega (arith, Q.cell_slot p (get_or nets p 0 - i) h g (omega arith), L.sound.named p h, L.few_cells)
      ]
    ]

    -- a pin that looks at a cell's slot names the cell, and is no branch
    names : (p j : ℕ) → p < all_pins (tabled i c o kinds counts nets) → j < 1024 → get_or src p 0 ≡ 16 + j → (get_or nets p 0 ≡ i + j) × ¬ (branch_of (tabled i c o kinds counts nets) p < i)
    names p j h m e = elim (dec_lt (branch_of (tabled i c o kinds counts nets) p) i) [
      | yes l ↦ ⊎_elim (λ a. absurd (omega arith)) (λ a. absurd (omega arith)) (low_slot p h l)
      | no g ↦ elim (dec_lt (get_or nets p 0) i) [
        | yes n ↦ absurd (omega (arith, Q.idle_slot p h g n))
        | no n ↦ (omega (arith, Q.cell_slot p (get_or nets p 0 - i) h g (omega arith)), g)
      ]
    ]

    head_is : (p j : ℕ) → p < all_pins (tabled i c o kinds counts nets) → j < 1024 → get_or src p 0 ≡ 16 + j → key_of i branches nets block p ≡ 4160 + j
    head_is p j h m e =
        let (n, g) = names p j h m e in
        ap (λ r. cond r (get_or block p 0) (4160 + (get_or nets p 0 - i))) (le-ltb (get_or branches p 0) i (omega (arith, E p h, g))) ∙ omega (arith, n)

    ahead : (s t x : ℕ) → s ≤ t → t < c → x < get_or counts (get_or order s 0) 0 → get_or src (get_or firsts (get_or order s 0) 0 + x) 0 ≢ 16 + get_or order t 0
    ahead s t x a h l e =
        let p : ℕ = get_or firsts (get_or order s 0) 0 + x in
        let sc : s < c = omega arith in
        let (m, _) = names p (get_or order t 0) (pin_there s x sc l) (few_cell t h) e in
        ⊎_elim (λ d. omega arith) (λ d. let (k, kl, ke) = d in once k t (omega arith) h (λ q. omega arith) (omega arith)) (O.after s p sc (pin_of s x sc l))

    pub chip_of_lem : (reach heads readers : List ℕ) → length src ≡ 4096 → c ≤ length reach → Built i c (first_pin (tabled i c o kinds counts nets) c) counts firsts branches nets order block heads readers
        → Chip c kinds counts firsts src order reach heads readers
    chip_of_lem reach heads readers sl rl B =
        record {
          few = L.few_cells;
          listed = omega (arith, Z.order_long, L.few_cells);
          masks = rl;
          cell = few_cell;
          kind = λ t l. omega (arith, Z.kinds_long, few_cell t l);
          count = λ t l. omega (arith, Z.counts_long, few_cell t l);
          first = λ t l. omega (arith, Z.firsts_long, few_cell t l);
          taken = λ t l. L.pins_taken (get_or order t 0) (O.cell t l);
          known = λ t l. omega (arith, L.kinds_known (get_or order t 0) (O.cell t l));
          pins = λ t l. record { pins = omega (arith, sl, first_is t l, pins_end (get_or order t 0) (O.cell t l), L.few_pins); slots = λ x h. omega (arith, slot_most (get_or firsts (get_or order t 0) 0 + x) (pin_there t x l h)) };
          once = once;
          ahead = ahead;
          headed = λ t l. omega (arith, B.long, few_cell t l);
          up = λ t l. B.up (4160 + get_or order t 0) (omega (arith, few_cell t l));
          held = λ t l. B.held (4160 + get_or order t 0 + 1) (omega (arith, few_cell t l));
          reader = B.reader;
          reads = λ s t x sc tc l e.
              let k : key_of i branches nets block (get_or firsts (get_or order t 0) 0 + x) ≡ 4160 + get_or order s 0 =
              head_is (get_or firsts (get_or order t 0) 0 + x) (get_or order s 0) (pin_there t x tc l) (few_cell s sc) e in
              let (r, a, h, q) = B.reads t x tc l in
              (r, rw k at a, rw k at h, q);
        }

-- the slots of the pins for output z, as `variables` and `pin_slots` make them
module _ (i c o n b z w : ℕ) (kinds counts branches nets firsts order block reached cone slots src : List ℕ) (low : ℕ → ℕ)
    (L : InLimits (tabled i c o kinds counts nets)) (e : n ≡ all_pins (tabled i c o kinds counts nets)) (F : FirstPins (tabled i c o kinds counts nets) firsts)
    (O : Ordered (tabled i c o kinds counts nets) order) (E : BranchTable (tabled i c o kinds counts nets) branches) (M : ReachMasks (tabled i c o kinds counts nets) cone)
    (D : Laid (tabled i c o kinds counts nets) b block low) (zo : z < o) (few : tally (rel_of reached z) b ≤ 16) (U : Variables b (rel_of reached z) slots w)
    (G : PinSlots i n slots branches nets block src) where
  abbrev N : Netlist
  N = tabled i c o kinds counts nets

  input_slot : (p : ℕ) → p < all_pins N → branch_of N p < i → get_or src p 0 ≡ variable (rel_of reached z) ((blocks N low).block p)
  input_slot p h l =
      G.slot p (omega arith)
      ∙ ap (λ r. cond r (get_or slots (get_or block p 0) 0) (cond (ltb (get_or nets p 0) i) 1040 (16 + (get_or nets p 0 - i)))) (lt-ltb (get_or branches p 0) i (rw (E p h) l))
      ∙ ap (λ x. get_or slots x 0) (D.table (branch_of N p) p (branch N low D.lowest p h l))
      ∙ U.slot ((blocks N low).block p) (omega (arith, (counted N low D.lowest).in_block p h l, D.count_is))

  other_slot : (p : ℕ) → p < all_pins N → ¬ (branch_of N p < i) → get_or src p 0 ≡ cond (ltb (get_or nets p 0) i) 1040 (16 + (get_or nets p 0 - i))
  other_slot p h g =
      G.slot p (omega arith)
      ∙ ap (λ r. cond r (get_or slots (get_or block p 0) 0) (cond (ltb (get_or nets p 0) i) 1040 (16 + (get_or nets p 0 - i)))) (le-ltb (get_or branches p 0) i (omega (arith, E p h, g)))

  cell_slot : (p j : ℕ) → p < all_pins N → ¬ (branch_of N p < i) → get_or nets p 0 ≡ i + j → get_or src p 0 ≡ 16 + j
  cell_slot p j h g q = other_slot p h g ∙ ap (λ r. cond r 1040 (16 + (get_or nets p 0 - i))) (le-ltb (get_or nets p 0) i (omega arith)) ∙ ap (λ x. 16 + x) (omega arith)

  idle_slot : (p : ℕ) → p < all_pins N → ¬ (branch_of N p < i) → get_or nets p 0 < i → get_or src p 0 ≡ 1040
  idle_slot p h g l = other_slot p h g ∙ ap (λ r. cond r 1040 (16 + (get_or nets p 0 - i))) (lt-ltb (get_or nets p 0) i l)

  pub bed_of : Bed (tabled i c o kinds counts nets) low (rel_of reached) z firsts order cone src
  bed_of = record {
    limits = L;
    first_pins = F;
    ordered = O;
    cones = M;
    lowest = D.lowest;
    even = D.even;
    output = zo;
    few = rw D.count_is at few;
    input_slot = input_slot;
    cell_slot = cell_slot;
    idle_slot = idle_slot;
  }
