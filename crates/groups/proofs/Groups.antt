-- One chunk more, one group more, and the end of the walk.
use Prim.Native.Nat.{ℕ, ◌+◌, ◌-◌, ◌*◌, ◌≤◌, ◌<◌}
use mathlib.Core.Path.{◌≡◌, refl, sym, ◌∙◌}
use mathlib.Core.Logic.{◌⊎◌, inl, inr, ⊎_elim}
use mathlib.Core.Bool.{true, false, false≢true}
use native.Mathlib.Omega.{arith}
use native.Mathlib.Decide.{dec_lt}
use lib.Bits.{bit_and}
use Rattle.chip.specs.Search.{digit}
use Rattle.known.specs.Known.{None, Open, Found, Known}
use Rattle.known.specs.Setting.{Advance}
use Rattle.rows.proofs.Bits.{split, meet}
use Rattle.outputs.specs.Groups.{Sofar}

-- ---- one chunk more: g has the outputs of the group, u those of them at which some fault is still looked for

module _ (Shows : ℕ → ℕ → Type 0) (g u q left₀ best₀ pat₀ left best pat left' best' pat' : ℕ)
    (inside : (z : ℕ) → digit z u ≡ true → digit z g ≡ true) (all : (z : ℕ) → digit z left ≡ true → digit z g ≡ true → digit z u ≡ true) where
  -- an output of the group that is left is one of u
  to_u : (x z : ℕ) → ((z : ℕ) → digit z x ≡ true → digit z left ≡ true) → digit z (bit_and x g) ≡ true → digit z (bit_and x u) ≡ true
  to_u x z h d = let y = split x g z d in meet x u z y.0 (all z (h z y.0) y.1)

  to_g : (z : ℕ) → digit z (bit_and left u) ≡ true → digit z g ≡ true
  to_g z d = inside z (split left u z d).1

  again : None Shows g (64 * q) left → Known Shows u (64 * q) left best pat left best pat
  again n = inl (record { left_same = refl; best_same = refl; pat_same = refl; none = λ z m zl d l. n z m zl (meet left g z (split left u z d).0 (to_g z d)) l })

  opened : Open Shows g (64 * q) left₀ best₀ pat₀ left best pat → Known Shows u (64 * (q + 16)) left best pat left' best' pat' → Known Shows g (64 * (q + 16)) left₀ best₀ pat₀ left' best' pat'
  opened O (inl K) =
      let same : left' ≡ left = K.left_same in
      inl (record {
        left_same = same ∙ O.left_same;
        best_same = K.best_same ∙ O.best_same;
        pat_same = K.pat_same ∙ O.pat_same;
        none = λ z m zl d l. K.none z m zl (to_u left' z (λ y e. rw same at e) d) l;
      })
  opened O (inr F) =
      let from : (z : ℕ) → digit z left ≡ true → digit z left₀ ≡ true = λ z d. rw O.left_same at d in
      inr (record {
        low = F.low;
        mine = meet left₀ g best' (from best' (split left u best' F.mine).0) (to_g best' F.mine);
        shows = F.shows;
        first = F.first;
        left_in = λ z d. (from z (F.left_in z d).0, (F.left_in z d).1);
        left_all = λ z d l. F.left_all z (rw O.left_same d) l;
        none = λ z m zl d l. F.none z m zl (to_u left' z (λ y e. (F.left_in y e).0) d) l;
      })

  found : Found Shows g (64 * q) left₀ left best pat → Known Shows u (64 * (q + 16)) left best pat left' best' pat' → Known Shows g (64 * (q + 16)) left₀ best₀ pat₀ left' best' pat'
  found A (inl K) =
      let same : left' ≡ left = K.left_same in
      inr (rw (same, K.best_same, K.pat_same) (record {
        low = A.low;
        mine = A.mine;
        shows = A.shows;
        first = A.first;
        left_in = A.left_in;
        left_all = A.left_all;
        none = λ z m zl d l. K.none z m zl (to_u left' z (λ y e. rw same at e) (rw same d)) l;
      }))
  found A (inr F) =
      inr (record {
        low = F.low;
        mine = meet left₀ g best' (A.left_in best' (split left u best' F.mine).0).0 (to_g best' F.mine);
        shows = F.shows;
        first = F.first;
        left_in = λ z d. ((A.left_in z (F.left_in z d).0).0, (F.left_in z d).1);
        left_all = λ z d l. F.left_all z (A.left_all z d (omega (arith, (A.left_in best' (split left u best' F.mine).0).1))) l;
        none = λ z m zl d l. F.none z m zl (to_u left' z (λ y e. (F.left_in y e).0) d) l;
      })

  pub chunk_more : Known Shows g (64 * q) left₀ best₀ pat₀ left best pat → Advance Shows u q left best pat left' best' pat' → Known Shows g (64 * (q + 16)) left₀ best₀ pat₀ left' best' pat'
  chunk_more (inl O) A = opened O (A.step left best pat (again O.none))
  chunk_more (inr F) A = found F (A.step left best pat (again F.none))

-- ---- one group more

module _ (Shows : ℕ → ℕ → Type 0) (size : ℕ → ℕ) (todo todo' g n whole left₀ best₀ pat₀ left best pat : ℕ)
    (new : (z : ℕ) → z < 64 → digit z todo' ≡ false → (digit z todo ≡ false) ⊎ (digit z g ≡ true))
    (tried : (z : ℕ) → z < 64 → digit z left ≡ true → digit z g ≡ true → size z ≤ n)
    (repeats : (z m : ℕ) → z < 64 → digit z g ≡ true → Shows z (m + size z) → Shows z m) (some : (z : ℕ) → digit z g ≡ true → 0 < size z) where
  -- none at an output that was tried before, or is left and was tried now
  none_now : (z m : ℕ) → z < 64 → (digit z todo ≡ false → ¬ Shows z m) → digit z left ≡ true → None Shows g n left → digit z todo' ≡ false → m < size z → ¬ Shows z m
  none_now z m zl old d N e l = ⊎_elim old (λ zg. N z m zl (meet left g z d zg) (omega (arith, tried z zl d zg))) (new z zl e)

  number : (Found Shows g n left₀ left best pat) → pat < size best
  number F =
      let zg : digit best g ≡ true = (split left₀ g best F.mine).1 in
      elim (dec_lt pat (size best)) [
        | yes l ↦ l
        | no h ↦
            let e : pat - size best + size best ≡ pat = omega arith in
            absurd (F.first (pat - size best) (omega (arith, some best zg)) (repeats best (pat - size best) F.low zg (rw e F.shows)))
      ]

  pub group_more : Sofar Shows size todo whole left₀ best₀ pat₀ → Known Shows g n left₀ best₀ pat₀ left best pat → Sofar Shows size todo' whole left best pat
  group_more (inl U) (inl O) =
      let same : left ≡ whole = O.left_same ∙ U.left_is in
      inl (record {
        left_is = same;
        best_is = O.best_same ∙ U.best_is;
        none = λ z m zl d e l. none_now z m zl (λ f. U.none z m zl d f l) (rw same d) O.none e l;
      })
  group_more (inl U) (inr F) =
      let from : (z : ℕ) → digit z left₀ ≡ true → digit z whole ≡ true = λ z d. rw U.left_is at d in
      inr (record {
        low = F.low;
        mine = from best (split left₀ g best F.mine).0;
        number = number F;
        shows = F.shows;
        first = F.first;
        left_in = λ z d. (from z (F.left_in z d).0, (F.left_in z d).1);
        left_all = λ z d l. F.left_all z (rw U.left_is d) l;
        none = λ z m zb d e l. let zl : z < 64 = omega (arith, F.low) in
            none_now z m zl (λ f. U.none z m zl d f l) (F.left_all z (rw U.left_is d) zb) F.none e l;
      })
  group_more (inr S) (inl O) =
      inr (rw (O.left_same, O.best_same, O.pat_same) (record {
        low = S.low;
        mine = S.mine;
        number = S.number;
        shows = S.shows;
        first = S.first;
        left_in = S.left_in;
        left_all = S.left_all;
        none = λ z m zb d e l. none_now z m (omega (arith, S.low)) (λ f. S.none z m zb d f l) (rw O.left_same (S.left_all z d zb)) O.none e l;
      }))
  group_more (inr S) (inr F) =
      let down : best < best₀ = (S.left_in best (split left₀ g best F.mine).0).1 in
      inr (record {
        low = F.low;
        mine = (S.left_in best (split left₀ g best F.mine).0).0;
        number = number F;
        shows = F.shows;
        first = F.first;
        left_in = λ z d. ((S.left_in z (F.left_in z d).0).0, (F.left_in z d).1);
        left_all = λ z d l. F.left_all z (S.left_all z d (omega arith)) l;
        none = λ z m zb d e l. none_now z m (omega (arith, F.low)) (λ f. S.none z m (omega arith) d f l) (F.left_all z (S.left_all z d (omega arith)) zb) F.none e l;
      })

-- before the first group
pub sofar_start : (Shows : ℕ → ℕ → Type 0) (size : ℕ → ℕ) (todo whole pat : ℕ) → ((z : ℕ) → z < 64 → digit z whole ≡ true → digit z todo ≡ true) → Sofar Shows size todo whole whole 64 pat
sofar_start Shows size todo whole pat h = inl (record { left_is = refl; best_is = refl; none = λ z m zl d e l t. false≢true (sym e ∙ h z zl d) })
