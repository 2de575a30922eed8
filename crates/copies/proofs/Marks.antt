-- The buffers on the way to a branch, and on the ways to all branches of further blocks, as marks: place 1024 * b + j stands for block b and cell j.
use Prim.Native.Nat.{ℕ, zero, suc, ◌+◌, ◌-◌, ◌≤◌, ◌<◌}
use mathlib.Core.Path.{◌≡◌, refl, sym, ap, ◌∙◌}
use mathlib.Core.Bool.{Bool, true, cond, ◌&&◌}
use mathlib.Core.List.{List}
use native.Mathlib.Decide.{dec_le, ℕ_discrete}
use native.Mathlib.Nat.{add-zero, add-suc}
use native.Mathlib.Numerals.{add-one}
use native.Mathlib.Omega.{arith}
use borrow.Author.Tests.{le-leb, lt-leb, eq-eqb, ne_eqb}
use lib.Dec.{eqb, leb}
use lib.ListN.{length, get_or, set, length-set}
use lib.Seq.{get_or-set_same, get_or-set_other}
use Rattle.chip.specs.Netlist.{Netlist, first_pin, all_pins}
use Rattle.chip.specs.Inner.Limits.{InLimits}
use Rattle.chip.specs.Pads.{some, is_buf, fed, back, source, branch_of}
use Rattle.chip.specs.Class.{LoopFree}
use Rattle.chip.specs.Transformed.{on_way}
use Rattle.chip.proofs.Bools.{or_no, or_yes}
use Rattle.chip.proofs.Basics.{Ranked}
use Rattle.chip.proofs.Loops.{ranked}
use Rattle.chip.proofs.Pads.{fed_input, fed_buf, pad_buf, branch_in, back_source, back_named}
use Rattle.copies.specs.Inner.Marks.{WayMarked}

-- among the first k steps back from the net of pin p is the net of the cell that place l stands for, if cell 0 has place base
abbrev pub hit : Netlist → ℕ → ℕ → ℕ → ℕ → Bool
hit N p base k l = leb base l && some (λ m. eqb (back N m (N.net p)) (N.inputs + (l - base))) k

-- after k steps back
pub record Walked (N : Netlist) (p base k : ℕ) (before : List ℕ) (net : ℕ) (after : List ℕ) : Type 0 where
  pub long : length after ≡ length before
  pub is : net ≡ back N k (N.net p)
  pub at : (l : ℕ) → get_or after l 0 ≡ cond (hit N p base k l) 1 (get_or before l 0)

pub walk_done : (N : Netlist) (p base k : ℕ) (before after : List ℕ) (net : ℕ) → k ≡ N.cells → Walked N p base k before net after → WayMarked N p base before after
unfolding on_way
walk_done N p base k before after net e K = record { long = K.long; at = λ l. rw e at (K.at l) }

module _ (N : Netlist) (L : InLimits N) (free : LoopFree N) (p base : ℕ) (h : p < all_pins N) (i : branch_of N p < N.inputs) where
  R : Ranked N
  R = ranked N free

  pub way_named : (k : ℕ) → back N k (N.net p) < N.inputs + N.cells
  way_named k = back_named N L.sound R k (N.net p) (L.sound.named p h)

  way_pad : (k : ℕ) → source N (back N k (N.net p)) < N.inputs
  way_pad k = let (_, s) = branch_in N p i in rw (back_source N L.sound R k (N.net p) (L.sound.named p h) (rw s i), s) i

  -- one step more
  hit_now : (k l : ℕ) → base ≤ l → back N k (N.net p) ≡ N.inputs + (l - base) → hit N p base (suc k) l ≡ true
  hit_now k l a e =
      rw (le-leb base l a) (or_yes (some (λ m. eqb (back N m (N.net p)) (N.inputs + (l - base))) k) (eqb (back N k (N.net p)) (N.inputs + (l - base))) (eq-eqb (back N k (N.net p)) (N.inputs + (l - base)) e))

  hit_not : (k l : ℕ) → (base ≤ l → back N k (N.net p) ≡ N.inputs + (l - base) → ⊥) → hit N p base (suc k) l ≡ hit N p base k l
  hit_not k l g = elim (dec_le base l) [
    | yes a ↦ ap (λ t. leb base l && t) (or_no (some (λ m. eqb (back N m (N.net p)) (N.inputs + (l - base))) k) (eqb (back N k (N.net p)) (N.inputs + (l - base))) (ne_eqb (back N k (N.net p)) (N.inputs + (l - base)) (g a)))
    | no f ↦ rw (lt-leb base l (omega arith)) refl
  ]

  module _ (k : ℕ) (before after : List ℕ) (net : ℕ) (K : Walked N p base k before net after) where
    pub walk_on : (j : ℕ) → net ≡ N.inputs + j → base + j < length after → Walked N p base (k + 1) before (N.net (first_pin N j)) (set after (base + j) 1)
    walk_on j e room =
        let q : back N k (N.net p) ≡ N.inputs + j = sym K.is ∙ e in
        let b : is_buf N j ≡ true = pad_buf N j (rw q at (way_pad k)) in
        rw (add-one k) (record {
          long = simp length-set K.long;
          is = sym (ap (fed N) q ∙ fed_buf N j b);
          at = λ l. elim (ℕ_discrete l (base + j)) [
            | yes a ↦ ap (λ m. get_or (set after (base + j) 1) m 0) a ∙ get_or-set_same after (base + j) 1 0 room ∙ ap (λ t. cond t 1 (get_or before l 0)) (sym (hit_now k l (omega arith) (omega (arith, q))))
            | no g ↦ get_or-set_other after (base + j) l 1 0 g ∙ K.at l ∙ ap (λ t. cond t 1 (get_or before l 0)) (sym (hit_not k l (λ a r. g (omega (arith, r, q)))))
          ];
        })

    walk_still : net < N.inputs → Walked N p base (suc k) before net after
    walk_still s =
        let q : back N k (N.net p) < N.inputs = rw K.is at s in
        record {
          long = K.long;
          is = K.is ∙ sym (fed_input N (back N k (N.net p)) q);
          at = λ l. K.at l ∙ ap (λ t. cond t 1 (get_or before l 0)) (sym (hit_not k l (λ a r. omega (arith, r))));
        }

  -- steps back from an input stay there
  stays : (d k : ℕ) (before after : List ℕ) (net : ℕ) → Walked N p base k before net after → net < N.inputs → Walked N p base (k + d) before net after
  stays zero k before after net K s = rw (add-zero k) K
  stays (suc d) k before after net K s = rw (add-suc k d) (walk_still (k + d) before after net (stays d k before after net K s) s)

  pub walk_end : (k : ℕ) (before after : List ℕ) (net : ℕ) → Walked N p base k before net after → net < N.inputs → k ≤ N.cells → WayMarked N p base before after
  walk_end k before after net K s c = walk_done N p base (k + (N.cells - k)) before after net (omega arith) (stays (N.cells - k) k before after net K s)
