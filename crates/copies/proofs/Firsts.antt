-- The lowest block of each input, from the blocks of the branches.
use Prim.Native.Nat.{ℕ, zero, suc, ◌+◌, ◌≤◌, ◌<◌, max}
use mathlib.Core.Path.{◌≡◌, refl, sym, ap, ◌∙◌}
use mathlib.Core.Logic.{inl, inr}
use mathlib.Core.Bool.{Bool, true, false}
use mathlib.Core.List.{List}
use native.Mathlib.Decide.{dec_le, dec_lt, ℕ_discrete}
use native.Mathlib.Omega.{arith}
use borrow.Author.Tests.{eqb-true}
use lib.Dec.{eqb}
use lib.ListN.{length, get_or, set}
use lib.Seq.{get_or-set_same, get_or-set_other}
use native.Mathlib.Numerals.{add-one}
use Rattle.chip.specs.Netlist.{Netlist, sum_below, all_pins, bit}
use Rattle.chip.specs.Pads.{branch_of}
use Rattle.chip.specs.Class.{Branch, Lowest, tally, leads, blocks_of, blocks}
use Rattle.chip.specs.Inner.Tables.{BranchTable}
use Rattle.chip.proofs.Bools.{both_true}
use Rattle.chip.proofs.Basics.{sum_up}
use Rattle.chip.proofs.Blocks.{place}
use Rattle.blocks.specs.Labels.{BlockTable}
use Rattle.copies.specs.Inner.Marks.{NextBlock}

pub next_start : (branches block : List ℕ) (x at : ℕ) → NextBlock branches block x at 0 (at + 1)
next_start branches block x at = record { over = omega arith; above = λ p h _. absurd (omega arith); met = inl refl }

module _ (branches block : List ℕ) (x at n r s : ℕ) (K : NextBlock branches block x at n r) where
  -- a pin that is no branch of x
  pub next_skip : (get_or branches n 0 ≡ x → ⊥) → s ≡ r → NextBlock branches block x at (n + 1) s
  next_skip g e = record {
    over = omega (arith, K.over);
    above = λ p h b. elim (ℕ_discrete p n) [ yes q ↦ absurd (g (rw q at b)) | no f ↦ omega (arith, K.above p (omega arith) b) ];
    met = elim K.met [
      | inl q ↦ inl (e ∙ q)
      | inr t ↦ let (p, h, b, q) = t in inr (p, omega arith, b, e ∙ q)
    ];
  }

  -- and one that is
  pub next_more : get_or branches n 0 ≡ x → s ≡ max r (get_or block n 0 + 1) → NextBlock branches block x at (n + 1) s
  next_more b e = record {
    over = omega (arith, K.over);
    above = λ p l c. elim (ℕ_discrete p n) [ yes q ↦ rw q (omega arith) | no f ↦ omega (arith, K.above p (omega arith) c) ];
    met = elim (dec_le r (get_or block n 0 + 1)) [
      | yes h ↦ inr (n, omega arith, b, omega arith)
      | no f ↦ elim K.met [
        | inl q ↦ inl (omega arith)
        | inr t ↦ let (p, h, c, q) = t in inr (p, omega arith, c, omega arith)
      ]
    ];
  }

-- the last number that passes a test
tally_last : (t : ℕ → Bool) (n : ℕ) → 0 < tally t n → (p : ℕ) × (p < n) × (t p ≡ true) × (tally t p + 1 ≡ tally t n)
tally_last t zero h = absurd (omega arith)
tally_last t (suc n) h = go (t n) refl (tally_last t n)
  where
    go : (b : Bool) → t n ≡ b → (0 < tally t n → (p : ℕ) × (p < n) × (t p ≡ true) × (tally t p + 1 ≡ tally t n)) → (p : ℕ) × (p < suc n) × (t p ≡ true) × (tally t p + 1 ≡ tally t (suc n))
    go true e ih = (n, omega arith, e, rw e refl)
    go false e ih = let (p, l, y, q) = ih (omega (arith, ap bit e)) in (p, omega arith, y, omega (arith, ap bit e, q))

module _ (N : Netlist) (low : ℕ → ℕ) (W : Lowest N low) (branches block : List ℕ) (T : BranchTable N branches) (U : BlockTable N low block) where
  -- the lowest block of the next input
  pub next_is : (x at n r : ℕ) → x < N.inputs → n ≡ all_pins N → at ≡ (blocks N low).first x → NextBlock branches block x at n r → r ≡ (blocks N low).first (suc x)
  unfolding blocks
  next_is x at n r i e a K = omega (arith, upper, lower)
    where
      branch : (p : ℕ) → p < all_pins N → branch_of N p ≡ x → Branch N x p
      branch p h b = record { pin = h; names = b; input = i }

      number : (p : ℕ) → p < all_pins N → branch_of N p ≡ x → get_or block p 0 ≡ sum_below (blocks_of N low) x + tally (leads N low x) (low p)
      number p h b = U x p (branch p h b) ∙ ap (λ y. sum_below (blocks_of N low) y + tally (leads N low y) (low p)) b

      upper : r ≤ sum_below (blocks_of N low) x + blocks_of N low x
      upper = elim K.met [
        | inl q ↦ omega (arith, a)
        | inr t ↦
            let (p, h, b, q) = t in
            let h' : p < all_pins N = omega arith in
            let b' : branch_of N p ≡ x = sym (T p h') ∙ b in
            omega (arith, number p h' b', place N low W (branch p h' b'))
      ]

      lower : sum_below (blocks_of N low) x + blocks_of N low x ≤ r
      lower = elim (dec_lt 0 (tally (leads N low x) (all_pins N))) [
        | no g ↦ omega (arith, a, K.over)
        | yes h ↦
            let (p, l, y, q) = tally_last (leads N low x) (all_pins N) h in
            let (y₁, y₂) = both_true (eqb (branch_of N p) x) (eqb (low p) p) y in
            let b : branch_of N p ≡ x = eqb-true (branch_of N p) x y₁ in
            let o : tally (leads N low x) (low p) ≡ tally (leads N low x) p = ap (tally (leads N low x)) (eqb-true (low p) p y₂) in
            omega (arith, q, o, number p l b, K.above p (omega arith) (T p l ∙ b))
      ]

-- the lowest blocks of the first x inputs, and that of the next
pub record Firsts (N : Netlist) (low : ℕ → ℕ) (x at : ℕ) (table : List ℕ) : Type 0 where
  pub is : at ≡ (blocks N low).first x
  pub done : (y : ℕ) → y < x → get_or table y 0 ≡ (blocks N low).first y

pub firsts_start : (N : Netlist) (low : ℕ → ℕ) (table : List ℕ) → Firsts N low 0 0 table
unfolding blocks
firsts_start N low table = record { is = refl; done = λ y h. absurd (omega arith) }

pub first_small : (N : Netlist) (low : ℕ → ℕ) (x : ℕ) → x ≤ N.inputs → (blocks N low).first x ≤ (blocks N low).count
unfolding blocks
first_small N low x h = sum_up (blocks_of N low) x N.inputs h

pub firsts_more : (N : Netlist) (low : ℕ → ℕ) (x at r : ℕ) (table : List ℕ) → Firsts N low x at table → x < length table → r ≡ (blocks N low).first (suc x) → Firsts N low (x + 1) r (set table x at)
firsts_more N low x at r table K room e =
    rw (add-one x) (record {
      is = e;
      done = λ y h. elim (ℕ_discrete y x) [
        | yes q ↦ rw q (get_or-set_same table x at 0 room ∙ K.is)
        | no g ↦ get_or-set_other table x y at 0 g ∙ K.done y (omega arith)
      ];
    })
