-- The bits of two words joined, and those of a word shifted.
use Prim.Native.Nat.{ℕ, ◌+◌, ◌-◌, ◌/◌, ◌^◌, ◌<◌}
use mathlib.Core.Path.{◌≡◌, refl, sym, ap, ◌∙◌}
use mathlib.Core.Logic.{◌≢◌, ◌⊎◌, inl, inr}
use mathlib.Core.Bool.{Bool, true, false, ◌&&◌, ◌||◌, false≢true}
use native.Mathlib.Omega.{arith}
use native.Mathlib.Decide.{dec_lt}
use lib.Bits.{bit_and, bit_or}
use lib.Pow.{shr-shr}
use Rattle.chip.specs.Netlist.{odd}
use Rattle.chip.specs.Search.{digit}
use Rattle.chip.proofs.Bools.{both_true, or_yes}
use Rattle.words.proofs.Bits.{digit_and, digit_or, digit_zero, digit_shift}

and_true : (a b : Bool) → a ≡ true → b ≡ true → (a && b) ≡ true
and_true true b p q = q
and_true false b p q = absurd (false≢true p)

or_first : (a b : Bool) → a ≡ true → (a || b) ≡ true
or_first true b e = refl
or_first false b e = absurd (false≢true e)

either : (a b : Bool) → (a || b) ≡ true → (a ≡ true) ⊎ (b ≡ true)
either true b e = inl refl
either false b e = inr e

-- a bit that two words have
pub split : (x y z : ℕ) → digit z (bit_and x y) ≡ true → (digit z x ≡ true) × (digit z y ≡ true)
split x y z e = both_true (digit z x) (digit z y) (sym (digit_and x y z) ∙ e)

pub meet : (x y z : ℕ) → digit z x ≡ true → digit z y ≡ true → digit z (bit_and x y) ≡ true
meet x y z a b = digit_and x y z ∙ and_true (digit z x) (digit z y) a b

-- a bit that one of two words has
pub bit_l : (x y z : ℕ) → digit z x ≡ true → digit z (bit_or x y) ≡ true
bit_l x y z d = digit_or x y z ∙ or_first (digit z x) (digit z y) d

pub bit_r : (x y z : ℕ) → digit z y ≡ true → digit z (bit_or x y) ≡ true
bit_r x y z d = digit_or x y z ∙ or_yes (digit z x) (digit z y) d

pub bit_either : (x y z : ℕ) → digit z (bit_or x y) ≡ true → (digit z x ≡ true) ⊎ (digit z y ≡ true)
bit_either x y z d = either (digit z x) (digit z y) (sym (digit_or x y z) ∙ d)

pub some_bit : (x z : ℕ) → digit z x ≡ true → x ≢ 0
some_bit x z d e = false≢true (sym (digit_zero z) ∙ ap (digit z) (sym e) ∙ d)

pub shift : (w a k : ℕ) → digit k (w / 2 ^ a) ≡ digit (a + k) w
shift w a k = digit_shift k (w / 2 ^ a) ∙ ap odd (shr-shr w a k) ∙ sym (digit_shift (a + k) w)

pub bit_below : (w k : ℕ) → w < 2 ^ 64 → digit k w ≡ true → k < 64
bit_below w k h e = elim (dec_lt k 64) [
  | yes l ↦ l
  | no g ↦
      let q : 64 + (k - 64) ≡ k = omega arith in
      let z : w / 2 ^ 64 ≡ 0 = omega arith in
      absurd (false≢true (sym (digit_zero (k - 64)) ∙ ap (digit (k - 64)) (sym z) ∙ shift w 64 (k - 64) ∙ ap (λ x. digit x w) q ∙ e))
]
