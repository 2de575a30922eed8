-- The marks say of which cells each block has copies.
use Prim.Native.Nat.{ℕ, ◌+◌, ◌*◌, ◌-◌, ◌≤◌, ◌<◌}
use mathlib.Core.Path.{◌≡◌, refl, sym, ap, ◌∙◌}
use mathlib.Core.Bool.{Bool, true, false, not, ◌&&◌}
use native.Mathlib.Omega.{arith}
use borrow.Author.Tests.{lt-ltb, le-leb, eq-eqb, ne_eqb, eqb-true, leb-true}
use lib.Dec.{eqb, leb, ltb}
use Rattle.chip.specs.Netlist.{Netlist, all_pins}
use Rattle.chip.specs.Inner.Limits.{InLimits}
use Rattle.chip.specs.Pads.{some, back, branch_of}
use Rattle.chip.specs.Class.{LoopFree, Blocks}
use Rattle.chip.specs.Transformed.{on_way, copied}
use Rattle.chip.proofs.Bools.{both_true, clash}
use Rattle.chip.proofs.Basics.{Counted}
use Rattle.chip.proofs.Loops.{ranked}
use Rattle.chip.proofs.Pads.{ltb_lt, some_yes, some_in, way_bound, back_named}
use Rattle.chip.proofs.Copies.{copied_of, is_copied, copied_buf}
use Rattle.copies.specs.Inner.Marks.{flat_way}

same_bool : (a b : Bool) → (a ≡ true → b ≡ true) → (b ≡ true → a ≡ true) → a ≡ b
same_bool true b f g = sym (f refl)
same_bool false true f g = g refl
same_bool false false f g = refl

module _ (N : Netlist) (L : InLimits N) (free : LoopFree N) (B : Blocks) (counted : Counted N B) where
  on_way_lem : (p j k : ℕ) → k < N.cells → back N k (N.net p) ≡ N.inputs + j → on_way N p j ≡ true
  unfolding on_way
  on_way_lem p j k l e = some_in (λ k. eqb (back N k (N.net p)) (N.inputs + j)) N.cells k l (eq-eqb (back N k (N.net p)) (N.inputs + j) e)

  pub way_on : (p j : ℕ) → on_way N p j ≡ true → (k : ℕ) × (k < N.cells) × (back N k (N.net p) ≡ N.inputs + j)
  unfolding on_way
  way_on p j e =
      let (k, l, t) = some_yes (λ k. eqb (back N k (N.net p)) (N.inputs + j)) N.cells e in
      (k, l, eqb-true (back N k (N.net p)) (N.inputs + j) t)

  pub flat_copied : (b j : ℕ) → j < N.cells → some (flat_way N B (1024 * b + j)) (all_pins N) ≡ copied N B b j
  flat_copied b j c = same_bool (some (flat_way N B (1024 * b + j)) (all_pins N)) (copied N B b j) to from
    where
      to : some (flat_way N B (1024 * b + j)) (all_pins N) ≡ true → copied N B b j ≡ true
      to e =
          let (p, l, t) = some_yes (flat_way N B (1024 * b + j)) (all_pins N) e in
          let (t₁, u) = both_true (ltb (branch_of N p) N.inputs) (not (eqb (B.first (branch_of N p)) (B.block p)) && (leb (1024 * B.block p) (1024 * b + j) && on_way N p (1024 * b + j - 1024 * B.block p))) t in
          let (t₂, v) = both_true (not (eqb (B.first (branch_of N p)) (B.block p))) (leb (1024 * B.block p) (1024 * b + j) && on_way N p (1024 * b + j - 1024 * B.block p)) u in
          let (t₃, t₄) = both_true (leb (1024 * B.block p) (1024 * b + j)) (on_way N p (1024 * b + j - 1024 * B.block p)) v in
          let i : branch_of N p < N.inputs = ltb_lt (branch_of N p) N.inputs t₁ in
          let (k, m, q) = way_on p (1024 * b + j - 1024 * B.block p) t₄ in
          let n : back N k (N.net p) < N.inputs + N.cells = back_named N L.sound (ranked N free) k (N.net p) (L.sound.named p l) in
          let g : 1024 * B.block p ≤ 1024 * b + j = leb-true (1024 * B.block p) (1024 * b + j) t₃ in
          let s : B.block p ≡ b = omega (arith, L.few_cells) in
          let d : 1024 * b + j - 1024 * B.block p ≡ j = omega (arith, s) in
          let own : B.input b ≡ branch_of N p = ap B.input (sym s) ∙ counted.own p l i in
          is_copied N B b j p k (λ r. clash t₂ (ap not (eq-eqb (B.first (branch_of N p)) (B.block p) (ap B.first (sym own) ∙ r ∙ sym s)))) l i s m (q ∙ ap (λ a. N.inputs + a) d)

      from : copied N B b j ≡ true → some (flat_way N B (1024 * b + j)) (all_pins N) ≡ true
      from e =
          let (g, t) = copied_of N B b j e in
          let (p, l, i, s, w) = t in
          let (k, q) = w in
          let own : B.input b ≡ branch_of N p = ap B.input (sym s) ∙ counted.own p l i in
          let m : k < N.cells = way_bound N L.sound (ranked N free) k (N.net p) j (L.sound.named p l) q (copied_buf N L.sound (ranked N free) B b j e) in
          let d : j ≡ 1024 * b + j - 1024 * B.block p = omega (arith, s) in
          let o : on_way N p (1024 * b + j - 1024 * B.block p) ≡ true = ap (on_way N p) (sym d) ∙ on_way_lem p j k m q in
          some_in (flat_way N B (1024 * b + j)) (all_pins N) p l
          (rw (lt-ltb (branch_of N p) N.inputs i, ne_eqb (B.first (branch_of N p)) (B.block p) (λ r. g (ap B.first own ∙ r ∙ s)), le-leb (1024 * B.block p) (1024 * b + j) (omega (arith, s)), o) refl)
