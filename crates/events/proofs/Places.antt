-- A bit for each place: one set, the next one found, those of some readers set.
use Prim.Native.Nat.{ℕ, ◌+◌, ◌-◌, ◌/◌, ◌%◌, ◌^◌, ◌<◌}
use mathlib.Core.Path.{◌≡◌, refl, sym, ap, ◌∙◌}
use mathlib.Core.Logic.{◌≢◌}
use mathlib.Core.Bool.{true, ◌||◌, or-true, or-false}
use mathlib.Core.List.{List}
use native.Mathlib.Omega.{arith}
use native.Mathlib.Decide.{ℕ_discrete}
use borrow.Author.Tests.{eq-eqb, ne_eqb}
use lib.ListN.{length, get_or, set, length-set}
use lib.Seq.{get_or-set_same, get_or-set_other}
use lib.Bits.{bit_or}
use Rattle.chip.specs.Search.{digit}
use Rattle.words.specs.Bits.{LowestBit}
use Rattle.words.proofs.Bits.{digit_or, digit_one}
use Rattle.rows.proofs.Bits.{shift, bit_below}
use Rattle.events.specs.Events.{BitPut, LowMark}

-- ---- one bit set

pub bit_put : (p : ℕ) (bits : List ℕ) (w : ℕ) → p < 1024 → length bits ≡ 16 → w ≡ 2 ^ (p % 64) → BitPut p bits (set bits (p / 64) (bit_or (get_or bits (p / 64) 0) w))
bit_put p bits w h l q =
    record {
      long = simp length-set l;
      here = ap (digit (p % 64)) (get_or-set_same bits (p / 64) _ 0 (omega arith)) ∙ digit_or (get_or bits (p / 64) 0) w (p % 64)
          ∙ ap (λ x. digit (p % 64) (get_or bits (p / 64) 0) || x) (ap (digit (p % 64)) q ∙ digit_one (p % 64) (p % 64) ∙ eq-eqb (p % 64) (p % 64) refl) ∙ or-true (digit (p % 64) (get_or bits (p / 64) 0));
      other = λ t g. elim (ℕ_discrete (t / 64) (p / 64)) [
        | yes e ↦
            let d : t % 64 ≢ p % 64 = λ y. g (omega arith) in
            ap (λ x. digit (t % 64) (get_or (set bits (p / 64) (bit_or (get_or bits (p / 64) 0) w)) x 0)) e
            ∙ ap (digit (t % 64)) (get_or-set_same bits (p / 64) _ 0 (omega arith)) ∙ digit_or (get_or bits (p / 64) 0) w (t % 64)
            ∙ ap (λ x. digit (t % 64) (get_or bits (p / 64) 0) || x) (ap (digit (t % 64)) q ∙ digit_one (t % 64) (p % 64) ∙ ne_eqb (t % 64) (p % 64) d) ∙ or-false (digit (t % 64) (get_or bits (p / 64) 0))
            ∙ ap (λ x. digit (t % 64) (get_or bits x 0)) (sym e)
        | no d ↦ ap (digit (t % 64)) (get_or-set_other bits (p / 64) (t / 64) _ 0 d)
      ];
    }

-- ---- the next bit

pub low_mark : (bits : List ℕ) (at l : ℕ) → get_or bits (at / 64) 0 < 2 ^ 64 → LowestBit (get_or bits (at / 64) 0 / 2 ^ (at % 64)) l → LowMark bits at l
low_mark bits at l w L =
    record {
      upto = L.upto;
      found = λ h.
          let e : digit (at % 64 + l) (get_or bits (at / 64) 0) ≡ true = sym (shift (get_or bits (at / 64) 0) (at % 64) l) ∙ L.one h in
          let b : at % 64 + l < 64 = bit_below (get_or bits (at / 64) 0) (at % 64 + l) w e in
          let place : (at + l) % 64 ≡ at % 64 + l = omega arith in
          let row : (at + l) / 64 ≡ at / 64 = omega arith in
          rw (place, row) e;
      inside = λ h. bit_below (get_or bits (at / 64) 0) (at % 64 + l) w (sym (shift (get_or bits (at / 64) 0) (at % 64) l) ∙ L.one h);
      none = λ t a b q.
          let place : t % 64 ≡ at % 64 + (t - at) = omega arith in
          rw (place, q) (sym (shift (get_or bits (at / 64) 0) (at % 64) (t - at)) ∙ L.zeros (t - at) (omega arith));
    }
