-- The number of clocks is one, and bytes are determined by the values that they stand for.
use Prim.Native.Nat.{ℕ, ◌+◌, ◌*◌, ◌/◌, ◌%◌, ◌≤◌, ◌<◌}
use mathlib.Core.Path.{◌≡◌, sym, ap, ◌∙◌}
use mathlib.Core.Logic.{◌≢◌}
use mathlib.Core.List.{List}
use native.Mathlib.Omega.{arith}
use native.Mathlib.Decide.{ℕ_discrete}
use native.Mathlib.Nat.{mul-div_cancel, div-add-mod', mod-lt}
use borrow.Author.Tests.{lt-ltb, eqb-true, eqb-false, eq-eqb, ne_eqb}
use lib.Dec.{eqb}
use lib.ListN.{length, get_or}
use lib.Seq.{ext_get_or}
use Rattle.chip.specs.Faults.{play_of, IsPlay, AllBits}
use Rattle.chip.specs.Refusals.{When18, Clocks}
use Rattle.plays.proofs.Parts.{clock_of}

-- bytes that are all 0 or 1 have no byte above 1
pub not_above : {bytes : List ℕ} → AllBits bytes → (k : ℕ) → ¬ When18 bytes k
not_above bits k a = omega (arith, bits k a.holds.there, a.holds.above)

-- the number of clocks is a quotient, and so there is at most one
pub clocks_quotient : (i : ℕ) (play : List ℕ) (n : ℕ) → 1 ≤ i → Clocks i play n → length play / i ≡ n
clocks_quotient i play n h K = ap (λ k. k / i) K.long ∙ mul-div_cancel n h

pub one_count : (i : ℕ) (play : List ℕ) (n m : ℕ) → 1 ≤ i → Clocks i play n → Clocks i play m → n ≡ m
one_count i play n m h K K' = sym (clocks_quotient i play n h K) ∙ clocks_quotient i play m h K'

-- bytes that are at most 1 are determined by their values
pub bit_same : (a b : ℕ) → a ≤ 1 → b ≤ 1 → eqb a 1 ≡ eqb b 1 → a ≡ b
bit_same a b h l e =
    elim (ℕ_discrete a 1) [
      | yes p ↦ p ∙ sym (eqb-true b 1 (sym e ∙ eq-eqb a 1 p))
      | no g ↦ let n : b ≢ 1 = eqb-false b 1 (sym e ∙ ne_eqb a 1 g) in omega arith
    ]

pub same_play : (i n : ℕ) (s s' : List ℕ) → 1 ≤ i → IsPlay i s n → IsPlay i s' n
    → ((t x : ℕ) → t < n → x < i → play_of i s t x ≡ play_of i s' t x) → s ≡ s'
same_play i n s s' some P P' same = ext_get_or 0 s s' (P.long ∙ sym P'.long) byte
  where
    byte : (k : ℕ) → k < length s → get_or s k 0 ≡ get_or s' k 0
    byte k l =
        let y : k / i * i + k % i ≡ k = div-add-mod' k i in
        let x : k % i < i = mod-lt k some in
        let t : k / i < n = clock_of i n k some (omega (arith, P.long)) in
        let e : eqb (get_or s (k / i * i + k % i) 0) 1 ≡ eqb (get_or s' (k / i * i + k % i) 0) 1 = rw (lt-ltb (k % i) i x) at (same (k / i) (k % i) t x) in
        bit_same _ _ (P.bits k l) (P'.bits k (omega (arith, P.long, P'.long))) (rw y at e)
