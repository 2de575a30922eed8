-- The tables of a chip and of a group, one entry more.
use Prim.Native.Nat.{ℕ, suc, ◌+◌, ◌≤◌, ◌<◌}
use mathlib.Core.Path.{◌≡◌, sym, ap, ◌∙◌}
use mathlib.Core.Bool.{Bool, true, false, false≢true}
use mathlib.Core.List.{List}
use native.Mathlib.Omega.{arith}
use native.Mathlib.Decide.{ℕ_discrete, dec_lt}
use lib.ListN.{get_or, set, take, replicate, length-set, length-take, get_or-eq_default}
use lib.Seq.{get_or-set_same, get_or-set_other, get_or-take}
use Rattle.chip.specs.Inner.Limits.{InLimits}
use Rattle.chip.specs.Inner.Tables.{tabled, FirstPins}
use Rattle.chip.specs.Class.{tally}
use Rattle.chip.proofs.Basics.{sum_up, zero_at}
use Rattle.chip.proofs.Blocks.{tally_past}
use Rattle.benches.specs.Benches.{BlockList}

-- one block more: it passes, or it does not
module _ (n w : ℕ) (rel : ℕ → Bool) (list : List ℕ) (e : w ≡ tally rel n) (P : BlockList n rel list) where
  pub list_more : w < 16 → rel n ≡ true → BlockList (n + 1) rel (set list w n)
  list_more l r =
      record {
        long = simp length-set P.long;
        at = λ k h a. elim (ℕ_discrete k n) [
          | yes q ↦ rw (q, ← e) (get_or-set_same list w n 0 (omega (arith, P.long)))
          | no g ↦
              let before : tally rel k < tally rel n = tally_past rel k n (omega arith) a in
              get_or-set_other list w (tally rel k) n 0 (λ q. omega arith) ∙ P.at k (omega arith) a
        ];
      }

  pub list_skip : rel n ≡ false → BlockList (n + 1) rel list
  list_skip r =
      record {
        long = P.long;
        at = λ k h a. elim (ℕ_discrete k n) [ yes q ↦ absurd (false≢true (sym r ∙ ap rel (sym q) ∙ a)) | no g ↦ P.at k (omega arith) a ];
      }

-- the pins of a cell are there
pub pins_few : (i c o : ℕ) (kinds counts firsts nets : List ℕ) → InLimits (tabled i c o kinds counts nets) → FirstPins (tabled i c o kinds counts nets) firsts → (j : ℕ) → j < c
    → get_or firsts j 0 + get_or counts j 0 ≤ 4096
pins_few i c o kinds counts firsts nets L F j l = omega (arith, F j (omega arith), sum_up (λ j. get_or counts j 0) (suc j) c l, L.few_pins)

-- the front of a table of zeros
pub zero_part : (m k x : ℕ) → ◌≡◌ {A = ℕ} (get_or (take m (replicate k 0)) x 0) 0
zero_part m k x = elim (dec_lt x m) [
  | yes h ↦ get_or-take m (replicate k 0) x 0 h ∙ zero_at k x
  | no g ↦ get_or-eq_default (take m (replicate k 0)) 0 (omega (arith, length-take m (replicate {A = ℕ} k 0)))
]
