-- From a prepared chip to the readers of each variable.
use Prim.Native.Nat.{ℕ, ◌+◌, ◌-◌, ◌<◌}
use mathlib.Core.Path.{◌≡◌, refl, sym, ap, ◌∙◌}
use mathlib.Core.Logic.{inl, inr}
use mathlib.Core.Bool.{Bool, true, false, cond}
use mathlib.Core.List.{List}
use native.Mathlib.Omega.{arith}
use native.Mathlib.Decide.{dec_lt}
use borrow.Author.Tests.{lt-ltb}
use lib.ListN.{length, get_or}
use Rattle.chip.specs.Netlist.{PinOf, first_pin, all_pins}
use Rattle.chip.specs.Pads.{branch_of}
use Rattle.chip.specs.Inner.Tables.{tabled, BranchTable}
use Rattle.chip.specs.Class.{blocks, tally}
use Rattle.chip.specs.Search.{digit}
use Rattle.chip.proofs.Basics.{net_cases, pin_in}
use Rattle.chip.proofs.Blocks.{branch, counted}
use Rattle.blocks.specs.Labels.{BlockTable}
use Rattle.flip.specs.Bed.{Bed}
use Rattle.readers.specs.Readers.{key_of, Built}
use Rattle.stages.specs.Stage.{VariableReaders, Variables}

module _ (i c o n w g z : ℕ) (kinds counts branches nets firsts order cone block heads readers src list input : List ℕ) (low : ℕ → ℕ) (rel : ℕ → ℕ → Bool)
    (Q : Bed (tabled i c o kinds counts nets) low rel z firsts order cone src) (zl : z < 64) (zg : digit z g ≡ true) (E : BranchTable (tabled i c o kinds counts nets) branches)
    (D : BlockTable (tabled i c o kinds counts nets) low block) (B : Built i c n counts firsts branches nets order block heads readers)
    (I : Variables (tabled i c o kinds counts nets) low rel g w list input) (ll : length list ≡ 16) (li : length input ≡ 4160) where
  few : w < 17
  few = omega (arith, I.wide z zl zg, Q.few)

  -- a pin that looks at a variable is a branch, and its head is the variable's block
  head_is : (p k : ℕ) → p < all_pins (tabled i c o kinds counts nets) → k < w → get_or src p 0 ≡ k → key_of i branches nets block p ≡ get_or list k 0
  head_is p k h kw e = elim (dec_lt (branch_of (tabled i c o kinds counts nets) p) i) [
    | yes b ↦
        let t : get_or branches p 0 < i = rw (E p h) b in
        ap (λ r. cond r (get_or block p 0) (4160 + (get_or nets p 0 - i))) (lt-ltb (get_or branches p 0) i t)
        ∙ D (branch_of (tabled i c o kinds counts nets) p) p (branch (tabled i c o kinds counts nets) low Q.lowest p h b)
        ∙ in_block b (rel z ((blocks (tabled i c o kinds counts nets) low).block p)) refl
    | no b ↦ elim (net_cases (tabled i c o kinds counts nets) (get_or nets p 0) (Q.limits.sound.named p h)) [
      | inl x ↦ absurd (omega (arith, Q.idle_slot p h b x, few))
      | inr s ↦ let (j, jl, q) = s in absurd (omega (arith, Q.cell_slot p j h b q, few))
    ]
  ]
    where
      in_block : branch_of (tabled i c o kinds counts nets) p < i → (r : Bool) → rel z ((blocks (tabled i c o kinds counts nets) low).block p) ≡ r → (blocks (tabled i c o kinds counts nets) low).block p ≡ get_or list k 0
      in_block b true q =
          let s : tally (rel z) ((blocks (tabled i c o kinds counts nets) low).block p) ≡ k =
          sym (Q.input_slot p h b ∙ ap (λ r. cond r (tally (rel z) ((blocks (tabled i c o kinds counts nets) low).block p)) 1040) q) ∙ e in
          sym (ap (λ x. get_or list x 0) (sym s) ∙ I.listed z ((blocks (tabled i c o kinds counts nets) low).block p) zl zg ((counted (tabled i c o kinds counts nets) low Q.lowest).in_block p h b) q)
      in_block b false q =
          let s : get_or src p 0 ≡ 1040 = Q.input_slot p h b ∙ ap (λ r. cond r (tally (rel z) ((blocks (tabled i c o kinds counts nets) low).block p)) 1040) q in
          absurd (omega (arith, few))

  pub reading_of : VariableReaders c w counts firsts src order heads readers list input
  reading_of =
      record {
        few = omega (arith, few);
        listed = omega (arith, few);
        known = λ k l. omega (arith, I.blocks_few k l);
        headed = λ k l. omega (arith, I.blocks_few k l, B.long);
        up = λ k l. B.up (get_or list k 0) (omega (arith, I.blocks_few k l));
        held = λ k l. B.held (get_or list k 0 + 1) (omega (arith, I.blocks_few k l));
        reads = λ k t x kw tc xl e.
            let jc : get_or order t 0 < c = Q.ordered.cell t tc in
            let f : get_or firsts (get_or order t 0) 0 ≡ first_pin (tabled i c o kinds counts nets) (get_or order t 0) = Q.first_pins (get_or order t 0) (omega arith) in
            let own : PinOf (tabled i c o kinds counts nets) (get_or order t 0) (get_or firsts (get_or order t 0) 0 + x) = record { cell = jc; from = omega arith; to = omega arith } in
            let key : key_of i branches nets block (get_or firsts (get_or order t 0) 0 + x) ≡ get_or list k 0 =
            head_is (get_or firsts (get_or order t 0) 0 + x) k (pin_in (tabled i c o kinds counts nets) (get_or order t 0) (get_or firsts (get_or order t 0) 0 + x) own) kw e in
            let (r, a, h, q) = B.reads t x tc xl in
            (r, rw key at a, rw key at h, q);
      }
