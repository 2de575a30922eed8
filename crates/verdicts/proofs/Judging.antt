-- The tables of words before the first group, what is looked for, and the answers from what was found.
use Prim.Native.Nat.{ℕ, ◌+◌, ◌-◌, ◌*◌, ◌/◌, ◌≤◌, ◌<◌}
use mathlib.Core.Path.{◌≡◌, sym, ap, ◌∙◌, subst}
use mathlib.Core.Bool.{true, false, cond, false≢true}
use mathlib.Core.List.{List}
use native.Mathlib.Omega.{arith}
use native.Mathlib.Decide.{ℕ_discrete, dec_lt}
use borrow.Author.Tests.{le-ltb}
use lib.ListN.{get_or}
use lib.Bits.{bit_and}
use Rattle.chip.specs.Netlist.{Netlist, out_pin, all_pins}
use Rattle.chip.specs.Inner.Limits.{InLimits}
use Rattle.chip.specs.Inner.Tables.{tabled}
use Rattle.chip.specs.Class.{Reach, here, on}
use Rattle.chip.specs.Search.{digit, SiteReaches}
use Rattle.chip.specs.declared.Site.TheVariants.{Net, Pin}
use Rattle.words.proofs.Bits.{digit_zero}
use Rattle.flip.proofs.Flips.{no_out}
use Rattle.slots.specs.Slots.{rel_of}
use Rattle.walk.specs.Walk.{width_of}
use Rattle.known.specs.Setting.{Shows}
use Rattle.outputs.specs.Groups.{Sofar}
use Rattle.outputs.specs.Sites.{SiteMasks, Widths, WideWord, Started, size_of}
use Rattle.outputs.proofs.Wide.{not_wide}
use Rattle.findings.specs.Answered.{Judged}
use Rattle.verdicts.specs.Verdicts.{Sought, AllSofar}

-- ---- what is looked for

-- an output's pin reaches its own output only
out_only : (N : Netlist) (y : ℕ) {z p e : ℕ} → p ≡ out_pin N y → Reach N z p e → z ≡ y
out_only N y q (here h) = omega arith
out_only N y {p = p} q (on {j = j} o n r) = absurd (no_out N j p y o q)

module _ (from to i c o n b wides : ℕ) (kinds counts nets reached sites widths left : List ℕ) (pins : n ≡ all_pins (tabled i c o kinds counts nets)) (M : SiteMasks (tabled i c o kinds counts nets) sites)
    (W : Widths o b reached widths) (D : WideWord o widths wides) (S : Started from to wides sites left) where
  -- a fault is looked for at outputs of its site, none of which is wide
  at_site : (f z : ℕ) → digit z (get_or left f 0) ≡ true → (digit z (get_or sites (f / 2) 0) ≡ true) × (bit_and (get_or sites (f / 2) 0) wides ≡ 0)
  at_site f z d = elim (dec_lt f from) [
    | yes l ↦ dark (S.before f l)
    | no g ↦ elim (dec_lt f to) [
      | yes l ↦ elim (ℕ_discrete (bit_and (get_or sites (f / 2) 0) wides) 0) [
        | yes e ↦ (ap (digit z) (sym (S.narrow f (omega arith) l e)) ∙ d, e)
        | no h ↦ dark (S.refused f (omega arith) l h)
      ]
      | no h ↦ dark (S.after f (omega arith))
    ]
  ]
    where
      dark : get_or left f 0 ≡ 0 → (digit z (get_or sites (f / 2) 0) ≡ true) × (bit_and (get_or sites (f / 2) 0) wides ≡ 0)
      dark e = absurd (false≢true (sym (digit_zero z) ∙ ap (digit z) (sym e) ∙ d))

  there : (f z : ℕ) → f < 2 * (i + c + n) → digit z (get_or left f 0) ≡ true → z < o
  there f z h d = elim (dec_lt z o) [
    | yes l ↦ l
    | no g ↦ absurd (false≢true (sym ((M.at (f / 2) (omega (arith, pins))).high z (omega arith)) ∙ (at_site f z d).0))
  ]

  narrow : (f z : ℕ) → f < 2 * (i + c + n) → digit z (get_or left f 0) ≡ true → width_of b reached z ≤ 16
  narrow f z h d =
      let (e, q) = at_site f z d in
      not_wide o b (get_or sites (f / 2) 0) wides reached widths W D z (there f z h d) e (ap (digit z) q ∙ digit_zero z)

  own_only : (f y : ℕ) → 2 * (i + c + n - o) ≤ f → f < 2 * (i + c + n) → digit y (get_or left f 0) ≡ true → y ≡ f / 2 - (i + c + n - o)
  own_only f y l h d =
      let s : f / 2 < i + c + all_pins (tabled i c o kinds counts nets) = omega (arith, pins) in
      let r : SiteReaches (tabled i c o kinds counts nets) (cond false (Net (f / 2)) (Pin (f / 2 - (i + c)))) y =
      subst (λ t. SiteReaches (tabled i c o kinds counts nets) (cond t (Net (f / 2)) (Pin (f / 2 - (i + c)))) y) (le-ltb (f / 2) (i + c) (omega (arith, pins))) ((M.at (f / 2) s).set y (there f y h d) (at_site f y d).0) in
      out_only (tabled i c o kinds counts nets) (f / 2 - (i + c + n - o)) (omega (arith, pins)) r.1

  pub sought : (best : List ℕ) → InLimits (tabled i c o kinds counts nets) → ((f : ℕ) → f < 10368 → get_or best f 0 ≡ 64) → Sought i c o n b reached left best
  sought best L B =
      record {
        outputs = λ f z h d. (there f z h d, narrow f z h d);
        none_yet = λ f h. B f (omega (arith, pins, L.few_inputs, L.few_cells, L.few_pins));
        only = own_only;
      }

  pub judged : (left' best pat : List ℕ) → to ≤ 2 * (i + c + n) → AllSofar i c o n b 0 kinds counts nets reached left left' best pat → (f : ℕ) → from ≤ f → f < to
      → Judged i c o n b f wides kinds counts nets reached sites widths best pat
  judged left' best pat t A f u v =
      record {
        a_fault = omega arith;
        sites_are = M;
        widths_are = W;
        wides_are = D;
        long_best = A.long.long_best;
        long_pat = A.long.long_pat;
        found = λ low l e. (
          get_or left' f 0,
          subst (λ whole. Sofar (Shows i c o kinds counts nets low (rel_of reached) f) (size_of b reached) 0 whole (get_or left' f 0) (get_or best f 0) (get_or pat f 0)) (S.narrow f u v e) (A.fault low l f (omega arith)),
        );
      }
