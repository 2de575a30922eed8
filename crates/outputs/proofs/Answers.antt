-- The walk of one fault, from what all groups found.
use Prim.Native.Nat.{ℕ, ◌+◌, ◌^◌, ◌<◌}
use mathlib.Core.Path.{◌≡◌, refl, sym, ap, ◌∙◌, subst}
use mathlib.Core.Logic.{◌≢◌, inl, inr}
use mathlib.Core.Bool.{true, false}
use mathlib.Core.List.{List}
use lib.ListN.{get_or}
use native.Mathlib.Omega.{arith}
use native.Mathlib.Numerals.{add-one}
use native.Mathlib.Decide.{ℕ_discrete, dec_lt}
use Rattle.chip.specs.Netlist.{Netlist}
use Rattle.chip.specs.Class.{blocks}
use Rattle.chip.specs.Faults.{Lines, stuck}
use Rattle.chip.specs.Search.{FirstHit, NoHit, patterns, Tried}
use Rattle.chip.specs.declared.Fault.{Fault}
use Rattle.words.proofs.Bits.{digit_zero}
use Rattle.slots.specs.Slots.{rel_of}
use Rattle.walk.specs.Walk.{out_of, width_of}
use Rattle.outputs.specs.Groups.{Sofar}
use Rattle.outputs.specs.Sites.{Widths, size_of}

-- Nothing hit at the outputs below z, after k tries: one output more, and the first hit.
module _ (size : ℕ → ℕ) (Hit : ℕ → ℕ → Type 0) where
  none_more : (z k n : ℕ) → n ≡ size z → ((m : ℕ) → m < size z → ¬ Hit z m) → NoHit z size Hit k → NoHit (z + 1) size Hit (k + n)
  none_more z k n e none h =
      record {
        none = λ y m l b t. elim (ℕ_discrete y z) [ yes q ↦ none m (rw q at b) (rw q at t) | no g ↦ h.none y m (omega arith) b t ];
        tries = rw (add-one z) (omega (arith, h.tries));
      }

  none_hit : (outs z m k : ℕ) → z < outs → m < size z → Hit z m → ((j : ℕ) → j < m → ¬ Hit z j) → NoHit z size Hit k → FirstHit outs size Hit z m (k + (m + 1))
  none_hit outs z m k l b t first h =
      record { output = l; number = b; hits = t; first_there = first; first_output = λ y j o q s. h.none y j o q s; tries = ap (λ n. n + (m + 1)) h.tries }

-- all outputs below z of the word are others than best
abbrev pub Passed : ℕ → ℕ → ℕ → Type 0
Passed outs best z = (y : ℕ) → y < z → out_of outs y ≡ true → y ≢ best

pub passed_skip : (outs best z : ℕ) → out_of outs z ≡ false → Passed outs best z → Passed outs best (z + 1)
passed_skip outs best z e P y l d = elim (ℕ_discrete y z) [
  | yes q ↦ let w : ◌≡◌ {A = ℕ} 0 1 = cc in absurd (omega arith)
  | no g ↦ P y (omega arith) d
]

pub passed_more : (outs best z : ℕ) → z ≢ best → Passed outs best z → Passed outs best (z + 1)
passed_more outs best z g P y l d = elim (ℕ_discrete y z) [ yes q ↦ rw q g | no h ↦ P y (omega arith) d ]

module _ (N : Netlist) (f : Lines) (outs : ℕ) (reached : List ℕ) (b : ℕ) (low : ℕ → ℕ) (count : b ≡ (blocks N low).count) where
  -- nothing hit at the outputs below z of the word, after k tries
  abbrev pub Walked : ℕ → ℕ → Type 0
  Walked z k = NoHit z (patterns (blocks N low) (out_of outs) (rel_of reached)) (Tried N (blocks N low) f (rel_of reached)) k

  size_is : (z : ℕ) → out_of outs z ≡ true → size_of b reached z ≡ patterns (blocks N low) (out_of outs) (rel_of reached) z
  size_is z e = rw (e, count) refl

  walk_skip : (z k : ℕ) → out_of outs z ≡ false → Walked z k → Walked (z + 1) k
  walk_skip z k e h =
      let q : patterns (blocks N low) (out_of outs) (rel_of reached) z ≡ 0 = rw e refl in
      let f : k + 0 ≡ k = omega arith in
      subst (Walked (z + 1)) f (none_more _ _ z k 0 (sym q) (λ m l t. omega arith) h)

  module _ (left best pat : ℕ) (S : Sofar (Tried N (blocks N low) f (rel_of reached)) (size_of b reached) 0 outs left best pat) where
    never : (z : ℕ) → z < 64 → out_of outs z ≡ true → z ≢ best → Passed outs best z → Sofar (Tried N (blocks N low) f (rel_of reached)) (size_of b reached) 0 outs left best pat
        → (m : ℕ) → m < size_of b reached z → ¬ Tried N (blocks N low) f (rel_of reached) z m
    never z l d g P (inl U) m h = U.none z m l d (digit_zero z) h
    never z l d g P (inr E) m h =
        let below : z < best = elim (dec_lt z best) [
          | yes y ↦ y
          | no n ↦ absurd (P best (omega arith) E.mine refl)
        ] in
        E.none z m below d (digit_zero z) h

    pub verdict_never : (z k n : ℕ) → z < 64 → out_of outs z ≡ true → z ≢ best → Passed outs best z → n ≡ 2 ^ width_of b reached z → Walked z k → Walked (z + 1) (k + n)
    verdict_never z k n l d g P e h = none_more _ _ z k n (e ∙ size_is z d) (λ m q. never z l d g P S m (omega (arith, size_is z d))) h

    pub verdict_hit : (z k : ℕ) → z < N.outs → z < 64 → out_of outs z ≡ true → z ≡ best → Walked z k
        → FirstHit N.outs (patterns (blocks N low) (out_of outs) (rel_of reached)) (Tried N (blocks N low) f (rel_of reached)) z pat (k + (pat + 1))
    verdict_hit z k o l d e h = hit S
      where
        hit : Sofar (Tried N (blocks N low) f (rel_of reached)) (size_of b reached) 0 outs left best pat
            → FirstHit N.outs (patterns (blocks N low) (out_of outs) (rel_of reached)) (Tried N (blocks N low) f (rel_of reached)) z pat (k + (pat + 1))
        hit (inl U) = absurd (omega (arith, U.best_is))
        hit (inr E) = none_hit _ _ N.outs z pat k o (omega (arith, E.number, size_is z d, ap (size_of b reached) e)) (rw e E.shows) (rw e E.first) h

-- what the walk keeps: for every fault of which the search found this
abbrev pub Counts : ℕ → ℕ → ℕ → ℕ → List ℕ → ℕ → ℕ → Type 0
Counts o outs best pat widths z k =
    (N : Netlist) (b : ℕ) (reached : List ℕ) (low : ℕ → ℕ) (fault : Fault) (left : ℕ) → o ≡ N.outs → b ≡ (blocks N low).count → Widths o b reached widths
    → Sofar (Tried N (blocks N low) (stuck fault) (rel_of reached)) (size_of b reached) 0 outs left best pat
    → NoHit z (patterns (blocks N low) (out_of outs) (rel_of reached)) (Tried N (blocks N low) (stuck fault) (rel_of reached)) k

pub counts_skip : (o outs best pat : ℕ) (widths : List ℕ) (z k : ℕ) → out_of outs z ≡ false → Counts o outs best pat widths z k → Counts o outs best pat widths (z + 1) k
counts_skip o outs best pat widths z k d h N b reached low fault left e c W S = walk_skip N (stuck fault) outs reached b low c z k d (h N b reached low fault left e c W S)

pub counts_more : (o outs best pat : ℕ) (widths : List ℕ) (z k n : ℕ) → z < o → z < 64 → out_of outs z ≡ true → z ≢ best → Passed outs best z → n ≡ 2 ^ get_or widths z 0
    → Counts o outs best pat widths z k → Counts o outs best pat widths (z + 1) (k + n)
counts_more o outs best pat widths z k n zo l d g P q h N b reached low fault left e c W S =
    verdict_never N (stuck fault) outs reached b low c left best pat S z k n l d g P (q ∙ ap (λ x. 2 ^ x) (W.at z zo)) (h N b reached low fault left e c W S)
