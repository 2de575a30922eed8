-- A stuck pin of an output.
use Prim.Native.Nat.{ℕ, ◌+◌, ◌-◌, ◌*◌, ◌/◌, ◌%◌, ◌≤◌, ◌<◌}
use mathlib.Core.Path.{◌≡◌, refl, sym, ap, ◌∙◌, subst}
use mathlib.Core.Logic.{◌↔◌, inl, inr, ⊎_elim}
use mathlib.Core.Bool.{Bool, true, xor}
use mathlib.Core.List.{List}
use native.Mathlib.Omega.{arith}
use native.Mathlib.Decide.{dec_lt}
use borrow.Author.Tests.{le-ltb}
use lib.ListN.{length, get_or, set}
use lib.Seq.{get_or-set_same}
use lib.Dec.{eqb}
use lib.Bits.{bit_and}
use Rattle.chip.specs.Netlist.{out_pin, all_pins}
use Rattle.chip.specs.Inner.Tables.{tabled}
use Rattle.chip.specs.Class.{blocks}
use Rattle.chip.specs.Faults.{stuck}
use Rattle.chip.specs.Search.{digit, width, Tried}
use Rattle.chip.specs.declared.Site.TheVariants.{Pin}
use Rattle.chip.specs.declared.Fault.{Fault}
use Rattle.rows.proofs.Bits.{meet}
use Rattle.flip.proofs.Flips.{out_lane}
use Rattle.faults.specs.Numbers.{fault_number}
use Rattle.bridge.proofs.Bridge.{lane}
use Rattle.homes.specs.Homes.{Looked}
use Rattle.known.specs.Setting.{Shows, Setting, GoodRun, Long, lane_of_run, Went}
use Rattle.alone.specs.Alone.{Between, OutLooked, OutStep}
use Rattle.known.proofs.Steps.{looked_idle, looked_kept, looked_advance, went_both}
use Rattle.known.proofs.Runs.{constant, start_of, rules_of}

-- ---- the slots of the run

-- the outputs' slots, but for that of output z
pub out_looked : (f z v q g u : ℕ) (outs goods ends left best pat left' best' pat' : List ℕ) → z < length ends → u ≡ bit_and (get_or left f 0) g
    → Looked f q u (λ y. lane_of_run (get_or outs y 0) (get_or (set ends z (1040 + v)) y 0) goods goods) left best pat left' best' pat'
    → OutLooked f z v q g outs goods left best pat left' best' pat'
out_looked f z v q g u outs goods ends left best pat left' best' pat' zl e L = record { ends = set ends z (1040 + v); here = get_or-set_same ends z (1040 + v) 0 zl; looked = rw e at L }

pub out_idle : (f z v q g : ℕ) (outs goods left best pat : List ℕ) → z < 64 → length outs ≡ 64 → bit_and (get_or left f 0) g ≡ 0 → OutLooked f z v q g outs goods left best pat left best pat
out_idle f z v q g outs goods left best pat zl ol e = record { ends = set outs z (1040 + v); here = get_or-set_same outs z (1040 + v) 0 (omega arith); looked = looked_idle f q (bit_and (get_or left f 0) g) _ left best pat e }

-- ---- the fault

fault_is : (nets f p v : ℕ) → f / 2 ≡ nets + p → f % 2 ≡ v → ◌≡◌ {A = Fault} (fault_number nets f) (record { site = Pin p; stuck = v })
fault_is nets f p v e m =
    let d : nets + p - nets ≡ p = omega arith in
    rw (e, m, le-ltb (nets + p) nets (omega arith), d) refl

module _ (i c o n q g f z v : ℕ) (outs goods left best pat left' best' pat' : List ℕ) (on : o ≤ n) (site : f / 2 ≡ i + c + n - o + z) (value : f % 2 ≡ v)
    (L : OutLooked f z v q g outs goods left best pat left' best' pat') where
  module _ (kinds counts nets firsts order cone reach src : List ℕ) (low : ℕ → ℕ) (rel : ℕ → ℕ → Bool)
      (S : Setting i c o kinds counts nets firsts order cone reach src outs low rel g q goods) (R : GoodRun c q g kinds counts firsts src order reach outs goods)
      (pins : n ≡ all_pins (tabled i c o kinds counts nets)) where
    asked : (x : ℕ) → z < 64 → digit z g ≡ true → x < 1024
        → Shows i c o kinds counts nets low rel f z (64 * q + x) ↔ (lane_of_run (get_or outs z 0) (get_or L.ends z 0) goods goods x ≡ true)
    asked x zl zg xl =
        let kl : x / 64 < 16 = omega arith in
        let ll : x % 64 < 64 = omega arith in
        let m : 64 * q + x ≡ 64 * (q + x / 64) + x % 64 = omega arith in
        let fault : ◌≡◌ {A = Fault} (fault_number (i + c) f) (record { site = Pin (out_pin (tabled i c o kinds counts nets) z); stuck = v }) = fault_is (i + c) f (out_pin (tabled i c o kinds counts nets) z) v (omega arith) value in
        let vl : v < 2 = omega arith in
        let same : lane_of_run (get_or outs z 0) (get_or L.ends z 0) goods goods x ≡ xor (lane (x / 64) (x % 64) goods (get_or src (out_pin (tabled i c o kinds counts nets) z) 0)) (eqb v 1) =
        ap (λ s. lane_of_run s (get_or L.ends z 0) goods goods x) (S.outs_are z zl zg)
        ∙ ap (λ s. lane_of_run (get_or src (out_pin (tabled i c o kinds counts nets) z) 0) s goods goods x) L.here
        ∙ ap (xor (lane (x / 64) (x % 64) goods (get_or src (out_pin (tabled i c o kinds counts nets) z) 0))) (constant (width (blocks (tabled i c o kinds counts nets) low) rel z) q goods (S.chunk z zl zg) v (x / 64) (x % 64) vl kl ll) in
        rw (same, m) (subst (λ h. Tried (tabled i c o kinds counts nets) (blocks (tabled i c o kinds counts nets) low) (stuck h) rel z (64 * (q + x / 64) + x % 64)
        ↔ (xor (lane (x / 64) (x % 64) goods (get_or src (out_pin (tabled i c o kinds counts nets) z) 0)) (eqb v 1) ≡ true)) (sym fault)
        (out_lane (tabled i c o kinds counts nets) low rel z firsts order cone src (S.bed z zl zg) v (64 * (q + x / 64) + x % 64) (lane (x / 64) (x % 64) goods)
        (start_of (width (blocks (tabled i c o kinds counts nets) low) rel z) q goods (S.chunk z zl zg) (x / 64) (x % 64) kl ll)
        (rules_of i c o kinds counts nets firsts order cone reach src src low rel z (bit_and g g) (S.bed z zl zg) (meet g g z zg zg) S.masks goods (x / 64) (x % 64) kl ll (R.good g).obeys)))

  out_step : OutStep i c o n q g outs goods f (get_or left f 0) (get_or best f 0) (get_or pat f 0) (get_or left' f 0) (get_or best' f 0) (get_or pat' f 0)
  out_step = record {
    advance = λ kinds counts nets firsts order cone reach src low rel S R pins only.
        looked_advance (Shows i c o kinds counts nets low rel f) f q g (λ y. lane_of_run (get_or outs y 0) (get_or L.ends y 0) goods goods) left best pat left' best' pat' L.looked
        (λ y x yl d yg xl.
        let e : y ≡ z = omega (arith, only y d) in
        let zl : z < 64 = omega arith in
        let zg : digit z g ≡ true = rw e at yg in
        rw e (asked kinds counts nets firsts order cone reach src low rel S R pins x zl zg xl));
  }

  pub out_went : Long left best pat → Went (λ x. x ≡ f) (OutStep i c o n q g outs goods) left best pat left' best' pat'
  out_went G = record { kept = looked_kept f q _ _ left best pat left' best' pat' G L.looked; step = λ x e. rw e out_step }

-- one fault more
pub outs_more : (i c o n q g a e z v : ℕ) (outs goods left₀ best₀ pat₀ left best pat left' best' pat' : List ℕ) → o ≤ n → a ≡ 2 * (i + c + n - o) → z ≡ e / 2 → v ≡ e % 2
    → Went (Between a (a + e)) (OutStep i c o n q g outs goods) left₀ best₀ pat₀ left best pat → OutLooked (a + e) z v q g outs goods left best pat left' best' pat'
    → Went (Between a (a + (e + 1))) (OutStep i c o n q g outs goods) left₀ best₀ pat₀ left' best' pat'
outs_more i c o n q g a e z v outs goods left₀ best₀ pat₀ left best pat left' best' pat' on ae ze ve W L =
    went_both (OutStep i c o n q g outs goods) left₀ best₀ pat₀ (Between a (a + e)) (λ x. x ≡ a + e) (Between a (a + (e + 1))) left best pat left' best' pat' W
    (out_went i c o n q g (a + e) z v outs goods left best pat left' best' pat' on (omega arith) (omega arith) L W.kept.long)
    (λ f b h. omega arith)
    (λ f b. elim (dec_lt f (a + e)) [
      | yes l ↦ inl (b.0, l)
      | no h ↦ inr (omega arith)
    ])
    (λ f b. ⊎_elim (λ x. (x.0, omega arith)) (λ x. (omega arith, omega arith)) b)
