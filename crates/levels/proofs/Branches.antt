-- The entries of a table of branches that are inputs, and the branches of the netlist.
use Prim.Native.Nat.{ℕ, ◌<◌}
use mathlib.Core.Path.{◌≡◌, sym, ◌∙◌}
use mathlib.Core.List.{List}
use native.Mathlib.Omega.{arith}
use lib.ListN.{get_or}
use Rattle.chip.specs.Netlist.{Netlist}
use Rattle.chip.specs.Class.{Branch}
use Rattle.levels.specs.Branches.{Branched}

module _ {N : Netlist} {i n : ℕ} {branches : List ℕ} (B : Branched N i n branches) where
  -- a pin whose entry is an input is a branch of it
  pub entry_branch : {x p : ℕ} → p < n → get_or branches p 0 ≡ x → x < i → Branch N x p
  entry_branch {x} {p} h e l = record { pin = omega (arith, B.pins); names = sym (B.table p (omega (arith, B.pins))) ∙ e; input = omega (arith, B.inputs) }

  -- a branch has its input as its entry
  pub branch_entry : {x p : ℕ} → Branch N x p → get_or branches p 0 ≡ x
  branch_entry {x} {p} b = B.table p b.pin ∙ b.names

  -- a pin whose entry is no input is no branch
  pub no_branch_entry : {x p : ℕ} → (get_or branches p 0 < i → ⊥) → ¬ Branch N x p
  no_branch_entry g b = g (omega (arith, branch_entry b, B.inputs, b.input))
