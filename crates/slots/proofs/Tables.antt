-- A number that passes a test, found by how many before it do.
use Prim.Native.Nat.{ℕ, zero, suc, ◌<◌}
use mathlib.Core.Path.{◌≡◌, refl, ap}
use mathlib.Core.Bool.{Bool, true, false}
use native.Mathlib.Omega.{arith}
use native.Mathlib.Decide.{dec_lt}
use Rattle.chip.specs.Netlist.{bit}
use Rattle.chip.specs.Class.{tally}

-- the number that passes the test as the one after k others
pub passing : (test : ℕ → Bool) (n k : ℕ) → k < tally test n → (t : ℕ) × (t < n) × (test t ≡ true) × (tally test t ≡ k)
passing test zero k l = absurd (omega arith)
passing test (suc n) k l = elim (dec_lt k (tally test n)) [
  | yes h ↦ let (t, a, b, e) = passing test n k h in (t, omega arith, b, e)
  | no g ↦ go g (test n) refl
]
  where
    go : ¬ (k < tally test n) → (b : Bool) → test n ≡ b → (t : ℕ) × (t < suc n) × (test t ≡ true) × (tally test t ≡ k)
    go g true e = (n, omega arith, e, omega (arith, ap bit e))
    go g false e = absurd (omega (arith, ap bit e))
