-- Words of outputs joined and parted, and the outputs' slots, one step at a time.
use Prim.Native.Nat.{ℕ, zero, suc, ◌≤◌, ◌+◌, ◌-◌, ◌^◌, ◌<◌}
use mathlib.Core.Path.{◌≡◌, refl, sym, ap, ◌∙◌}
use mathlib.Core.Logic.{inl, inr}
use mathlib.Core.Bool.{Bool, true, false, not, false≢true}
use mathlib.Core.List.{List}
use native.Mathlib.Omega.{arith}
use native.Mathlib.Decide.{ℕ_discrete}
use lib.ListN.{length, get_or, take}
use native.Mathlib.Numerals.{add-one}
use Rattle.std.specs.List.{fold}
use Rattle.std.proofs.lemmas.List.Sums.{fold_more}
use lib.Bits.{bit_and, bit_or}
use Rattle.chip.specs.Search.{digit}
use Rattle.words.proofs.Bits.{digit_zero, digit_ones, digit_turned, not_turns}
use Rattle.rows.proofs.Bits.{split, meet, bit_l, bit_r, bit_either}
use Rattle.outputs.specs.Groups.{Joined, Alike, Parted}

pub joined_none : (left : List ℕ) → Joined 0 left 0
joined_none left = record { holds = λ f z l. absurd (omega arith); only = λ z d. absurd (false≢true (sym (digit_zero z) ∙ d)) }

pub joined_more : (n : ℕ) (left : List ℕ) (x : ℕ) → Joined n left x → Joined (n + 1) left (bit_or x (get_or left n 0))
joined_more n left x J =
    record {
      holds = λ f z l d. elim (ℕ_discrete f n) [
        | yes e ↦ bit_r x (get_or left n 0) z (rw e at d)
        | no g ↦ bit_l x (get_or left n 0) z (J.holds f z (omega arith) d)
      ];
      only = λ z d. elim (bit_either x (get_or left n 0) z d) [
        | inl a ↦ let (f, l, e) = J.only z a in (f, omega arith, e)
        | inr a ↦ (n, omega arith, a)
      ];
    }

pub joined_fold : (n : ℕ) (left : List ℕ) → n ≤ length left → Joined n left (fold bit_or 0 (take n left))
joined_fold zero left l = joined_none left
joined_fold (suc n) left l = rw (← add-one n, fold_more bit_or 0 left n 0 (omega arith)) (joined_more n left (fold bit_or 0 (take n left)) (joined_fold n left (omega arith)))

-- output z is in the word
pub parted_in : (g word z : ℕ) → digit z word ≡ true → Parted g word z (bit_and g word)
parted_in g word z e = record { within = λ y yl d. let s = split g word y d in (s.0, s.1 ∙ sym e); own = λ d. meet g word z d e }

turned_true : (a : Bool) → not a ≡ true → a ≡ false
turned_true true e = absurd (false≢true e)
turned_true false e = refl

turned_false : (a : Bool) → a ≡ false → not a ≡ true
turned_false true e = absurd (false≢true (sym e))
turned_false false e = refl

-- output z is not in the word
pub parted_out : (g word z : ℕ) → word < 2 ^ 64 → z < 64 → digit z word ≡ false → Parted g word z (bit_and g (2 ^ 64 - 1 - word))
parted_out g word z wl zl e =
    record {
      within = λ y yl d.
          let s = split g (2 ^ 64 - 1 - word) y d in
          (s.0, turned_true (digit y word) (sym (turn y yl) ∙ s.1) ∙ sym e);
      own = λ d. meet g (2 ^ 64 - 1 - word) z d (turn z zl ∙ turned_false (digit z word) e);
    }
  where
    turn : (y : ℕ) → y < 64 → digit y (2 ^ 64 - 1 - word) ≡ not (digit y word)
    turn y yl = ap (digit y) (not_turns word wl) ∙ digit_turned word y yl

pub alike_none : (z : ℕ) (reached : List ℕ) → z < 64 → Alike 0 z reached (2 ^ 64 - 1)
alike_none z reached l = record { own = digit_ones z l; same = λ y k yl d h. absurd (omega arith) }
