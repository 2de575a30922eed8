-- The groups of outputs one after the other.
use Prim.Native.Nat.{ℕ, ◌+◌, ◌-◌, ◌*◌, ◌/◌, ◌^◌, ◌≤◌, ◌<◌}
use mathlib.Core.Path.{◌≡◌, refl, sym, ap, ◌∙◌}
use mathlib.Core.Logic.{◌⊎◌, inl, inr}
use mathlib.Core.Bool.{Bool, true, false, xor, false≢true}
use mathlib.Core.List.{List}
use native.Mathlib.Omega.{arith}
use native.Mathlib.Decide.{ℕ_discrete}
use lib.ListN.{get_or}
use lib.Bits.{bit_and, bit_xor}
use lib.Pow.{pow_pos}
use Rattle.chip.specs.Inner.Tables.{tabled}
use Rattle.chip.specs.Class.{Lowest, blocks}
use Rattle.chip.specs.Faults.{stuck}
use Rattle.chip.specs.Search.{digit}
use Rattle.chip.proofs.Blocks.{tally_same}
use Rattle.words.proofs.Bits.{digit_xor}
use Rattle.slots.specs.Slots.{rel_of}
use Rattle.slots.proofs.Repeats.{tried_repeats}
use Rattle.faults.specs.Numbers.{fault_number}
use Rattle.known.specs.Setting.{Shows, Long}
use Rattle.stages.specs.Stage.{OutsOnly}
use Rattle.rows.proofs.Bits.{split, meet}
use Rattle.outputs.specs.Groups.{Sofar, Joined, Alike}
use Rattle.groups.proofs.Groups.{group_more, sofar_start}
use Rattle.walk.specs.Walk.{width_of}
use Rattle.benches.specs.Benches.{Group}
use Rattle.outputs.specs.Sites.{size_of}
use Rattle.verdicts.specs.Verdicts.{Sought, LikeTried, AllSofar}

-- what is left of todo once a group is tried
xor_true : (a b : Bool) → xor a b ≡ true → (b ≡ true → a ≡ true) → (a ≡ true) × (b ≡ false)
unfolding xor
xor_true true true e h = absurd (false≢true e)
xor_true true false e h = (refl, refl)
xor_true false true e h = absurd (false≢true (h refl))
xor_true false false e h = absurd (false≢true e)

xor_false : (a b : Bool) → xor a b ≡ false → (a ≡ false) ⊎ (b ≡ true)
unfolding xor
xor_false true true e = inr refl
xor_false true false e = absurd (false≢true (sym e))
xor_false false b e = inl refl

xor_both : (a b : Bool) → a ≡ true → b ≡ true → xor a b ≡ false
unfolding xor
xor_both true true e h = refl
xor_both true false e h = absurd (false≢true h)
xor_both false b e h = absurd (false≢true e)

xor_none : (a b : Bool) → a ≡ false → (b ≡ true → a ≡ true) → xor a b ≡ false
unfolding xor
xor_none true b e h = absurd (false≢true (sym e))
xor_none false true e h = absurd (false≢true (h refl))
xor_none false false e h = refl

module _ (todo g : ℕ) (inside : (z : ℕ) → digit z g ≡ true → digit z todo ≡ true) where
  pub todo_fewer : (z : ℕ) → digit z (bit_xor todo g) ≡ true → digit z todo ≡ true
  todo_fewer z d = (xor_true (digit z todo) (digit z g) (sym (digit_xor todo g z) ∙ d) (inside z)).0

  todo_done : (z : ℕ) → digit z todo ≡ false → digit z (bit_xor todo g) ≡ false
  todo_done z d = digit_xor todo g z ∙ xor_none (digit z todo) (digit z g) d (inside z)

  todo_now : (z : ℕ) → digit z g ≡ true → digit z (bit_xor todo g) ≡ false
  todo_now z d = digit_xor todo g z ∙ xor_both (digit z todo) (digit z g) (inside z d) d

  pub todo_below : (z : ℕ) → digit z g ≡ true → ((y : ℕ) → y < z → digit y todo ≡ false) → (y : ℕ) → y < z + 1 → digit y (bit_xor todo g) ≡ false
  todo_below z d h y l = elim (ℕ_discrete y z) [ yes e ↦ rw e (todo_now z d) | no f ↦ todo_done y (h y (omega arith)) ]

pub todo_skip : (todo z : ℕ) → digit z todo ≡ false → ((y : ℕ) → y < z → digit y todo ≡ false) → (y : ℕ) → y < z + 1 → digit y todo ≡ false
todo_skip todo z d h y l = elim (ℕ_discrete y z) [ yes e ↦ rw e d | no f ↦ h y (omega arith) ]

module _ (i c o n b : ℕ) (kinds counts nets reached whole best₀ : List ℕ) (Q : Sought i c o n b reached whole best₀) where
  pub all_start : (todo : ℕ) (pat : List ℕ) → Long whole best₀ pat → Joined (2 * (i + c + n)) whole todo → AllSofar i c o n b todo kinds counts nets reached whole whole best₀ pat
  all_start todo pat L J = record {
    long = L;
    fault = λ low l f h. rw (Q.none_yet f h)
        (sofar_start (Shows i c o kinds counts nets low (rel_of reached) f) (size_of b reached) todo (get_or whole f 0) (get_or pat f 0) (λ z zl d. J.holds f z h d));
  }

  -- the outputs still to come are there
  pub todo_there : (todo : ℕ) → Joined (2 * (i + c + n)) whole todo → (z : ℕ) → digit z todo ≡ true → (z < o) × (width_of b reached z ≤ 16)
  todo_there todo J z d = let (f, l, e) = J.only z d in Q.outputs f z l e

  module _ (count : (low : ℕ → ℕ) → Lowest (tabled i c o kinds counts nets) low → b ≡ (blocks (tabled i c o kinds counts nets) low).count) where
    pub all_step : (todo z g : ℕ) (left best pat left' best' pat' : List ℕ) → Group o b z g reached → AllSofar i c o n b todo kinds counts nets reached whole left best pat
        → LikeTried i c o n b z g kinds counts nets reached left best pat left' best' pat' → AllSofar i c o n b (bit_xor todo g) kinds counts nets reached whole left' best' pat'
    all_step todo z g left best pat left' best' pat' G A T = record {
      long = T.long;
      fault = λ low l f h. let E = T.ended low l f h in
          group_more (Shows i c o kinds counts nets low (rel_of reached) f) (size_of b reached) todo (bit_xor todo g) g E.below (get_or whole f 0) (get_or left f 0) (get_or best f 0) (get_or pat f 0)
          (get_or left' f 0) (get_or best' f 0) (get_or pat' f 0)
          (λ y yl d. xor_false (digit y todo) (digit y g) (sym (digit_xor todo g y) ∙ d)) (λ y yl d e. omega (arith, E.tried y d e, size y yl e)) (repeats low l f) (λ y d. pow_pos (width_of b reached y)) (A.fault low l f h) E.known;
    }
      where
        size : (y : ℕ) → y < 64 → digit y g ≡ true → size_of b reached y ≡ size_of b reached z
        size y yl d = ap (λ w. 2 ^ w) (tally_same (rel_of reached y) (rel_of reached z) b (λ k l. G.same y k yl d l))

        repeats : (low : ℕ → ℕ) → Lowest (tabled i c o kinds counts nets) low → (f y m : ℕ) → y < 64 → digit y g ≡ true
            → Shows i c o kinds counts nets low (rel_of reached) f y (m + size_of b reached y) → Shows i c o kinds counts nets low (rel_of reached) f y m
        repeats low l f y m yl d t =
            tried_repeats (tabled i c o kinds counts nets) (blocks (tabled i c o kinds counts nets) low) (stuck (fault_number (i + c) f)) (rel_of reached) y m (rw (count low l) at t)

    -- a fault is never left to more outputs
    pub only_left : (low : ℕ → ℕ) → Lowest (tabled i c o kinds counts nets) low → (todo : ℕ) (left best pat : List ℕ) → AllSofar i c o n b todo kinds counts nets reached whole left best pat → OutsOnly i c o n left
    only_left low l todo left best pat A f y h k d = go (A.fault low l f k)
      where
        go : Sofar (Shows i c o kinds counts nets low (rel_of reached) f) (size_of b reached) todo (get_or whole f 0) (get_or left f 0) (get_or best f 0) (get_or pat f 0) → y ≡ f / 2 - (i + c + n - o)
        go (inl U) = Q.only f y h k (ap (digit y) (sym U.left_is) ∙ d)
        go (inr S) = Q.only f y h k (S.left_in y d).0

  -- all outputs are tried
  pub all_end : (todo : ℕ) (left best pat : List ℕ) → ((y : ℕ) → y < o → digit y todo ≡ false) → AllSofar i c o n b todo kinds counts nets reached whole left best pat
      → AllSofar i c o n b 0 kinds counts nets reached whole left best pat
  all_end todo left best pat none A = record { long = A.long; fault = λ low l f h. go low f h (A.fault low l f h) }
    where
      go : (low : ℕ → ℕ) (f : ℕ) → f < 2 * (i + c + n) → Sofar (Shows i c o kinds counts nets low (rel_of reached) f) (size_of b reached) todo (get_or whole f 0) (get_or left f 0) (get_or best f 0) (get_or pat f 0)
          → Sofar (Shows i c o kinds counts nets low (rel_of reached) f) (size_of b reached) 0 (get_or whole f 0) (get_or left f 0) (get_or best f 0) (get_or pat f 0)
      go low f h (inl U) = inl (record { left_is = U.left_is; best_is = U.best_is; none = λ z m zl d e. U.none z m zl d (none z (Q.outputs f z h d).0) })
      go low f h (inr S) = inr (record {
        low = S.low;
        mine = S.mine;
        number = S.number;
        shows = S.shows;
        first = S.first;
        left_in = S.left_in;
        left_all = S.left_all;
        none = λ z m zb d e. S.none z m zb d (none z (Q.outputs f z h d).0);
      })

-- the outputs still to come that have the same blocks behind them as output z
pub group_of_alike : (o b z todo r : ℕ) (reached : List ℕ) → z < o → digit z todo ≡ true → ((y : ℕ) → digit y todo ≡ true → (y < o) × (width_of b reached y ≤ 16)) → Alike b z reached r
    → Group o b z (bit_and r todo) reached
group_of_alike o b z todo r reached l d there A = record {
  own = meet r todo z A.own d;
  output = l;
  outputs = λ y yl e. (there y (split r todo y e).1).0;
  same = λ y k yl e h. A.same y k yl (split r todo y e).0 h;
  few = (there z d).1;
}
