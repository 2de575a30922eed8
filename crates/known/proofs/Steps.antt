-- The entries of one fault, and of one after the other.
use Prim.Native.Nat.{ℕ, ◌+◌, ◌-◌, ◌*◌, ◌/◌, ◌%◌, ◌^◌, ◌<◌}
use mathlib.Core.Path.{◌≡◌, refl, sym, ap, ◌∙◌}
use mathlib.Core.Logic.{◌⊎◌, ◌↔◌, inl, inr, ⊎_elim}
use mathlib.Core.Bool.{Bool, true, false, ◌&&◌, false≢true}
use mathlib.Core.List.{List}
use native.Mathlib.Omega.{arith}
use native.Mathlib.Decide.{dec_lt}
use lib.ListN.{get_or}
use lib.Bits.{bit_and, bit_xor}
use Rattle.chip.specs.Search.{digit}
use Rattle.words.proofs.Bits.{digit_and, digit_xor, digit_zero, digit_ones}
use Rattle.rows.proofs.Bits.{split}
use Rattle.homes.specs.Homes.{lane_at, Looked}
use Rattle.homes.proofs.Looking.{looked_same}
use Rattle.known.specs.Setting.{Advance, Long, Kept, lane_of_run, Went}
use Rattle.known.proofs.Advance.{advance_looked}

-- ---- a look in all lanes

pub looked_runs : (f q u : ℕ) (t outs ends goods vals left best pat left' best' pat' : List ℕ) → ((k : ℕ) → k < 16 → get_or t k 0 ≡ 2 ^ 64 - 1)
    → Looked f q u (λ z. lane_at t (get_or outs z 0) (get_or ends z 0) goods vals) left best pat left' best' pat'
    → Looked f q u (λ z. lane_of_run (get_or outs z 0) (get_or ends z 0) goods vals) left best pat left' best' pat'
looked_runs f q u t outs ends goods vals left best pat left' best' pat' F L = looked_same _ _ same f q u left best pat left' best' pat' L
  where
    with_one : (a b : Bool) → a ≡ true → (a && b) ≡ b
    with_one true b e = refl
    with_one false b e = absurd (false≢true e)

    same : (z x : ℕ) → x < 1024 → lane_at t (get_or outs z 0) (get_or ends z 0) goods vals x ≡ lane_of_run (get_or outs z 0) (get_or ends z 0) goods vals x
    same z x l =
        let a : ℕ = get_or goods (16 * get_or outs z 0 + x / 64) 0 in
        let b : ℕ = get_or vals (16 * get_or ends z 0 + x / 64) 0 in
        digit_and (get_or t (x / 64) 0) (bit_xor a b) (x % 64)
        ∙ with_one (digit (x % 64) (get_or t (x / 64) 0)) (digit (x % 64) (bit_xor a b)) (ap (digit (x % 64)) (F (x / 64) (omega arith)) ∙ digit_ones (x % 64) (omega arith))
        ∙ digit_xor a b (x % 64)

-- a fault that is left to no output of u is not looked for
pub looked_idle : (f q u : ℕ) (lane : ℕ → ℕ → Bool) (left best pat : List ℕ) → u ≡ 0 → Looked f q u lane left best pat left best pat
looked_idle f q u lane left best pat e =
    record {
      long_left = refl;
      long_best = refl;
      long_pat = refl;
      other_left = λ x g. refl;
      other_best = λ x g. refl;
      other_pat = λ x g. refl;
      entry = inl (record { left_same = refl; best_same = refl; pat_same = refl; none = λ z x zl d xl. absurd (false≢true (sym (digit_zero z) ∙ ap (digit z) (sym e) ∙ d)) });
    }

-- ---- what a look tells of a fault

pub looked_kept : (f q u : ℕ) (lane : ℕ → ℕ → Bool) (left best pat left' best' pat' : List ℕ) → Long left best pat → Looked f q u lane left best pat left' best' pat'
    → Kept (λ x. x ≡ f) left best pat left' best' pat'
looked_kept f q u lane left best pat left' best' pat' G L =
    record {
      long = record { long_left = L.long_left ∙ G.long_left; long_best = L.long_best ∙ G.long_best; long_pat = L.long_pat ∙ G.long_pat };
      others = λ x g. (L.other_left x g, L.other_best x g, L.other_pat x g);
    }

pub looked_advance : (Shown : ℕ → ℕ → Type 0) (f q g : ℕ) (lane : ℕ → ℕ → Bool) (left best pat left' best' pat' : List ℕ)
    → Looked f q (bit_and (get_or left f 0) g) lane left best pat left' best' pat'
    → ((z x : ℕ) → z < 64 → digit z (get_or left f 0) ≡ true → digit z g ≡ true → x < 1024 → Shown z (64 * q + x) ↔ (lane z x ≡ true))
    → Advance Shown g q (get_or left f 0) (get_or best f 0) (get_or pat f 0) (get_or left' f 0) (get_or best' f 0) (get_or pat' f 0)
looked_advance Shown f q g lane left best pat left' best' pat' L asked =
    advance_looked Shown g q g (get_or left f 0) (get_or best f 0) (get_or pat f 0) (get_or left' f 0) (get_or best' f 0) (get_or pat' f 0) lane mine mine dark light L.entry
  where
    mine : (z : ℕ) → z < 64 → digit z (bit_and (get_or left f 0) g) ≡ true → digit z g ≡ true
    mine z zl d = (split (get_or left f 0) g z d).1

    dark : (z x : ℕ) → z < 64 → digit z (bit_and (get_or left f 0) g) ≡ true → x < 1024 → lane z x ≡ false → ¬ Shown z (64 * q + x)
    dark z x zl d xl e t = let w = split (get_or left f 0) g z d in false≢true (sym e ∙ (asked z x zl w.0 w.1 xl).0 t)

    light : (z x : ℕ) → z < 64 → digit z (bit_and (get_or left f 0) g) ≡ true → x < 1024 → lane z x ≡ true → Shown z (64 * q + x)
    light z x zl d xl e = let w = split (get_or left f 0) g z d in (asked z x zl w.0 w.1 xl).1 e

-- ---- some faults, and then others

module _ (Step : ℕ → ℕ → ℕ → ℕ → ℕ → ℕ → ℕ → Type 0) (left₀ best₀ pat₀ : List ℕ) where
  pub went_both : (A B C : ℕ → Type 0) (left best pat left' best' pat' : List ℕ) → Went A Step left₀ best₀ pat₀ left best pat → Went B Step left best pat left' best' pat'
      → ((f : ℕ) → A f → ¬ B f) → ((f : ℕ) → C f → A f ⊎ B f) → ((f : ℕ) → A f ⊎ B f → C f) → Went C Step left₀ best₀ pat₀ left' best' pat'
  went_both A B C left best pat left' best' pat' P Q apart split join =
      record {
        kept = record {
          long = Q.kept.long;
          others = λ f g.
              let x = P.kept.others f (λ a. g (join f (inl a))) in
              let y = Q.kept.others f (λ b. g (join f (inr b))) in
              (y.0 ∙ x.0, y.1 ∙ x.1, y.2 ∙ x.2);
        };
        step = λ f d. elim (split f d) [
          | inl a ↦ let y = Q.kept.others f (apart f a) in rw (y.0, y.1, y.2) (P.step f a)
          | inr b ↦ let x = P.kept.others f (λ a. apart f a b) in rw (sym x.0, sym x.1, sym x.2) (Q.step f b)
        ];
      }

pub went_same : (Step : ℕ → ℕ → ℕ → ℕ → ℕ → ℕ → ℕ → Type 0) (A C : ℕ → Type 0) (left best pat left' best' pat' : List ℕ) → ((f : ℕ) → A f → C f) → ((f : ℕ) → C f → A f)
    → Went A Step left best pat left' best' pat' → Went C Step left best pat left' best' pat'
went_same Step A C left best pat left' best' pat' to from W =
    record { kept = record { long = W.kept.long; others = λ f g. W.kept.others f (λ a. g (to f a)) }; step = λ f d. W.step f (from f d) }

-- one fault more
pub went_next : (Step : ℕ → ℕ → ℕ → ℕ → ℕ → ℕ → ℕ → Type 0) (m : ℕ) (left₀ best₀ pat₀ left best pat left' best' pat' : List ℕ) → Went (λ f. f < m) Step left₀ best₀ pat₀ left best pat
    → Went (λ f. f ≡ m) Step left best pat left' best' pat' → Went (λ f. f < m + 1) Step left₀ best₀ pat₀ left' best' pat'
went_next Step m left₀ best₀ pat₀ left best pat left' best' pat' P Q =
    went_both Step left₀ best₀ pat₀ (λ f. f < m) (λ f. f ≡ m) (λ f. f < m + 1) left best pat left' best' pat' P Q (λ f a b. omega arith)
    (λ f l. elim (dec_lt f m) [
      | yes h ↦ inl h
      | no h ↦ inr (omega arith)
    ])
    (λ f b. ⊎_elim (λ x. omega arith) (λ x. omega arith) b)
