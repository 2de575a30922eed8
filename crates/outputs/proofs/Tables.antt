-- The outputs of each site, the widths and the outputs that a fault is looked for at, one entry at a time.
use Prim.Native.Nat.{ℕ, ◌+◌, ◌-◌, ◌^◌, ◌<◌}
use mathlib.Core.Path.{◌≡◌, sym, ap, ◌∙◌, subst}
use mathlib.Core.Logic.{◌⊎◌, ◌≢◌, inl, inr}
use mathlib.Core.Bool.{cond, false≢true}
use mathlib.Core.List.{List}
use native.Mathlib.Omega.{arith}
use native.Mathlib.Decide.{ℕ_discrete, dec_lt}
use borrow.Author.Tests.{eq-eqb, lt-ltb, le-ltb, eqb-true}
use lib.ListN.{length, get_or, set, length-set}
use lib.Seq.{get_or-set_same, get_or-set_other}
use lib.Bits.{bit_or}
use Rattle.chip.specs.Netlist.{Netlist, all_pins}
use Rattle.chip.specs.Class.{Reach}
use Rattle.chip.specs.Search.{digit, SiteReaches}
use Rattle.chip.specs.declared.Site.TheVariants.{Net, Pin}
use Rattle.chip.proofs.Basics.{reach_in}
use Rattle.words.proofs.Bits.{digit_zero, digit_one}
use Rattle.levels.specs.Levels.{Mask, ReachMasks}
use Rattle.levels.proofs.Masks.{mask_same, mask_zero, mask_or}
use Rattle.rows.proofs.Bits.{bit_l, bit_r, bit_either}
use Rattle.outputs.specs.Sites.{SiteMasks, WideWord}

-- ---- the sites

-- the outputs that a net reaches, gathered pin by pin
module _ (N : Netlist) (net : ℕ) where
  -- some pin of the first k that names the net reaches output z
  abbrev pub NamedBelow : ℕ → ℕ → Type 0
  NamedBelow k z = (p : ℕ) × (p < k) × (N.net p ≡ net) × ((e : ℕ) × Reach N z p e)

  named_zero : Mask N.outs 0 (NamedBelow 0)
  named_zero = mask_zero (λ z l s. omega (arith, s.1))

  named_skip : {k v : ℕ} → N.net k ≢ net → Mask N.outs v (NamedBelow k) → Mask N.outs v (NamedBelow (k + 1))
  named_skip {k} g m = mask_same (λ z l s. (s.0, omega (arith, s.1), s.2, s.3)) (λ z l s. from z s) m
    where
      from : (z : ℕ) → NamedBelow (k + 1) z → NamedBelow k z
      from z (p, l, q, r) = elim (ℕ_discrete p k) [ yes y ↦ absurd (g (rw y at q)) | no h ↦ (p, omega arith, q, r) ]

  named_more : {k v w : ℕ} → N.net k ≡ net → Mask N.outs v (NamedBelow k) → Mask N.outs w (λ z. (e : ℕ) × Reach N z k e)
      → Mask N.outs (bit_or v w) (NamedBelow (k + 1))
  named_more {k} q m r = mask_same (λ z l s. to z s) (λ z l s. from z s) (mask_or m r)
    where
      to : (z : ℕ) → NamedBelow k z ⊎ ((e : ℕ) × Reach N z k e) → NamedBelow (k + 1) z
      to z (inl s) = (s.0, omega (arith, s.1), s.2, s.3)
      to z (inr s) = (k, omega arith, q, s)

      from : (z : ℕ) → NamedBelow (k + 1) z → NamedBelow k z ⊎ ((e : ℕ) × Reach N z k e)
      from z (p, l, n, s) = elim (ℕ_discrete p k) [ yes y ↦ inr (rw y at s) | no g ↦ inl (p, omega arith, n, s) ]

  named_all : {w : ℕ} → Mask N.outs w (NamedBelow (all_pins N)) → Mask N.outs w (SiteReaches N (Net net))
  named_all m = mask_same (λ z l s. (s.0, s.3.0, s.2, s.3.1)) (λ z l s. (s.0, reach_in N z s.3, s.2, (s.1, s.3))) m

-- the outputs of the sites by the first k pins: what the pins that name a net reach, and what each pin reaches
pub record SitesTo (k base : ℕ) (N : Netlist) (cone sites : List ℕ) : Type 0 where
  pub net : (x : ℕ) → x < base → Mask N.outs (get_or sites x 0) (NamedBelow N x k)
  pub pin : (p : ℕ) → p < k → get_or sites (base + p) 0 ≡ get_or cone p 0

pub sites_none : (base : ℕ) (N : Netlist) (cone sites : List ℕ) → ((s : ℕ) → get_or sites s 0 ≡ 0) → SitesTo 0 base N cone sites
sites_none base N cone sites z = record { net = λ x l. rw (z x) (named_zero N x); pin = λ p l. absurd (omega arith) }

pub sites_more : (k base : ℕ) (N : Netlist) (cone sites : List ℕ) (x : ℕ) → SitesTo k base N cone sites → N.net k ≡ x → x < base → base + k < length sites
    → Mask N.outs (get_or cone k 0) (λ z. (e : ℕ) × Reach N z k e) → SitesTo (k + 1) base N cone (set (set sites x (bit_or (get_or sites x 0) (get_or cone k 0))) (base + k) (get_or cone k 0))
sites_more k base N cone sites x S e l h m =
    record {
      net = λ y yl. rw (get_or-set_other (set sites x both) (base + k) y (get_or cone k 0) 0 (λ q. omega arith)) (elim (ℕ_discrete y x) [
        | yes q ↦ rw (q, get_or-set_same sites x both 0 (omega arith)) (named_more N x e (S.net x l) m)
        | no g ↦ rw (get_or-set_other sites x y both 0 g) (named_skip N y (λ q. g (sym q ∙ e)) (S.net y yl))
      ]);
      pin = λ p pl. elim (ℕ_discrete p k) [
        | yes q ↦ rw q (get_or-set_same (set sites x both) (base + k) (get_or cone k 0) 0 (simp length-set h))
        | no g ↦
            get_or-set_other (set sites x both) (base + k) (base + p) (get_or cone k 0) 0 (λ q. g (omega arith))
            ∙ get_or-set_other sites x (base + p) both 0 (λ q. omega arith)
            ∙ S.pin p (omega arith)
      ];
    }
  where
    both : ℕ
    both = bit_or (get_or sites x 0) (get_or cone k 0)

pub sites_all : (N : Netlist) (cone sites : List ℕ) → length sites ≡ 5184 → ReachMasks N cone → SitesTo (all_pins N) (N.inputs + N.cells) N cone sites → SiteMasks N sites
sites_all N cone sites l M S =
    record {
      long = l;
      at = λ s h. elim (dec_lt s (N.inputs + N.cells)) [
        | yes b ↦ subst (λ t. Mask N.outs (get_or sites s 0) (SiteReaches N (cond t (Net s) (Pin (s - (N.inputs + N.cells)))))) (sym (lt-ltb s (N.inputs + N.cells) b)) (named_all N s (S.net s b))
        | no g ↦
            let p : ℕ = s - (N.inputs + N.cells) in
            let e : N.inputs + N.cells + p ≡ s = omega arith in
            let q : get_or sites s 0 ≡ get_or cone p 0 = ap (λ x. get_or sites x 0) (sym e) ∙ S.pin p (omega arith) in
            rw q (subst (λ t. Mask N.outs (get_or cone p 0) (SiteReaches N (cond t (Net s) (Pin p)))) (sym (le-ltb s (N.inputs + N.cells) (omega arith))) (M p (omega arith)))
      ];
    }

-- ---- the wide ones

pub wide_none : (widths : List ℕ) → WideWord 0 widths 0
wide_none widths = record { wide = λ z d. absurd (false≢true (sym (digit_zero z) ∙ d)); all = λ z l. absurd (omega arith) }

pub wide_skip : (k : ℕ) (widths : List ℕ) (r : ℕ) → WideWord k widths r → ¬ (16 < get_or widths k 0) → WideWord (k + 1) widths r
wide_skip k widths r W g =
    record {
      wide = λ z d. (omega (arith, (W.wide z d).0), (W.wide z d).1);
      all = λ z l h. elim (ℕ_discrete z k) [ yes q ↦ absurd (g (rw q at h)) | no f ↦ W.all z (omega arith) h ];
    }

pub wide_more : (k : ℕ) (widths : List ℕ) (r v : ℕ) → v ≡ 2 ^ k → WideWord k widths r → 16 < get_or widths k 0 → WideWord (k + 1) widths (bit_or r v)
wide_more k widths r v e W h =
    record {
      wide = λ z d. elim (bit_either r v z d) [
        | inl a ↦ (omega (arith, (W.wide z a).0), (W.wide z a).1)
        | inr a ↦
            let q : z ≡ k = eqb-true z k (sym (digit_one z k) ∙ ap (digit z) (sym e) ∙ a) in
            (omega arith, rw q h)
      ];
      all = λ z l b. elim (ℕ_discrete z k) [
        | yes q ↦ bit_r r v z (ap (digit z) e ∙ digit_one z k ∙ eq-eqb z k q)
        | no g ↦ bit_l r v z (W.all z (omega arith) b)
      ];
    }
