-- What the inputs' nets tell of the branches: an input reaches what its branches reach.
use Prim.Native.Nat.{ℕ, ◌+◌, ◌≤◌, ◌<◌}
use mathlib.Core.Path.{◌≡◌, sym, ap, ◌∙◌}
use mathlib.Core.Logic.{◌⊎◌, inl, inr}
use mathlib.Core.List.{List}
use native.Mathlib.Omega.{arith}
use native.Mathlib.Decide.{ℕ_discrete, dec_lt}
use lib.ListN.{get_or}
use Rattle.chip.specs.Netlist.{Netlist}
use Rattle.chip.specs.Inner.Limits.{Sound}
use Rattle.chip.specs.Pads.{source}
use Rattle.chip.specs.Inner.Tables.{BranchTable}
use Rattle.chip.specs.Class.{Reach, Branch}
use Rattle.chip.proofs.Basics.{Ranked, reach_out}
use Rattle.chip.proofs.Pads.{source_input}
use Rattle.chip.proofs.Plain.{to_branch, from_branch}
use Rattle.levels.specs.Levels.{Mask, NetReach, NetMasks, NetsReach}
use Rattle.levels.proofs.Masks.{mask_same, mask_or, mask_empty}
use Rattle.balance.specs.Balance.{SeenAt, SeenMasks, InputsMet, LowestConflict}
use Rattle.balance.proofs.Laws.{met, unmet}

module _ (N : Netlist) (S : Sound N) (R : Ranked N) where
  -- an input's net reaches what a branch of the input does
  of_branch : (z x : ℕ) {p e : ℕ} → Branch N x p → Reach N z p e → NetReach N z x e
  of_branch z x b r = from_branch N S R z x b r

  at_branch : (z x : ℕ) {e : ℕ} → x < N.inputs → NetReach N z x e → (p : ℕ) × Branch N x p × Reach N z p e
  at_branch z x l (q, n, r) = to_branch N S R z x (ap (source N) n ∙ source_input N x l) l r

  -- where no input's net reaches an output, no branch does
  pub no_branch : (e : ℕ) → Mask N.outs 0 (NetsReach N e N.inputs) → (x z p : ℕ) → Branch N x p → ¬ Reach N z p e
  no_branch e m x z p b r = mask_empty m z (reach_out N r) (x, b.input, of_branch z x b r)

  module _ (e : ℕ) (branches : List ℕ) (T : BranchTable N branches) (reached : List ℕ) (M : NetMasks N e reached) (seen : List ℕ) (sm : SeenMasks N branches e seen)
      (few : N.inputs ≤ 64) (best : ℕ) (seen' : List ℕ) (r : ℕ) (m : InputsMet N.inputs reached seen best seen' r) where
    label_is : {x p : ℕ} → Branch N x p → get_or branches p 0 ≡ x
    label_is {x} {p} b = T p b.pin ∙ b.names

    pub inputs_conflict : LowestConflict N branches e best r
    inputs_conflict =
        record {
          upto = m.upto;
          conflict = λ l.
              let (i, g) = m.meets l in
              let (z, s, n) = met N.outs _ _ _ _ (sm r (omega arith)) (M r (omega arith)) g in
              let (p, b, h) = at_branch z r i n in
              record { pin = p; out = z; branch = b; reach = h; seen = rw (label_is b) s };
          none_below = λ x l k.
              unmet N.outs _ _ _ _ (sm x (omega (arith, k.branch.input))) (M x (omega (arith, k.branch.input))) (m.apart x k.branch.input l) k.out
              (reach_out N k.reach) (rw (label_is k.branch) at k.seen) (of_branch k.out x k.branch k.reach);
        }

    pub inputs_seen : SeenMasks N branches (e + 1) seen'
    inputs_seen l h = elim (dec_lt l N.inputs) [
      | yes i ↦ rw (m.grown l i) (mask_same (λ z _ s. more z i s) (λ z _ a. less z a (ℕ_discrete a.depth e)) (mask_or (sm l h) (M l (omega arith))))
      | no g ↦ rw (m.others l (omega arith)) (mask_same
          (λ z _ a. absurd (omega (arith, label_is a.branch, a.label, a.branch.input)))
          (λ z _ a. absurd (omega (arith, label_is a.branch, a.label, a.branch.input)))
          (sm l h))
    ]
      where
        more : (z : ℕ) → l < N.inputs → SeenAt N branches e l z ⊎ NetReach N z l e → SeenAt N branches (e + 1) l z
        more z i (inl a) = record { input = a.input; pin = a.pin; depth = a.depth; branch = a.branch; label = a.label; below = omega (arith, a.below); reach = a.reach }
        more z i (inr n) = let (p, b, r) = at_branch z l i n in record { input = l; pin = p; depth = e; branch = b; label = label_is b; below = omega arith; reach = r }

        less : (z : ℕ) (a : SeenAt N branches (e + 1) l z) → Dec (a.depth ≡ e) → SeenAt N branches e l z ⊎ NetReach N z l e
        less z a (yes q) =
            let y : a.input ≡ l = sym (label_is a.branch) ∙ a.label in
            inr (rw (y, q) at (of_branch z a.input a.branch a.reach))
        less z a (no g) = inl (record { input = a.input; pin = a.pin; depth = a.depth; branch = a.branch; label = a.label; below = omega (arith, a.below); reach = a.reach })
