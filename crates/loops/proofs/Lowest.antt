-- The cells are tried upward: the first whose net reaches itself has the lowest net that does.
use Prim.Native.Nat.{ℕ, ◌+◌, ◌-◌, ◌≤◌, ◌<◌}
use native.Mathlib.Omega.{arith}
use native.Mathlib.Decide.{dec_lt}
use mathlib.Core.Path.{◌≡◌, subst}
use Rattle.chip.specs.Netlist.{Netlist}
use Rattle.chip.specs.Class.{Feeds}
use Rattle.chip.proofs.Loops.{fed_cell}
use Rattle.order.specs.Settled.{LoopFrom}
use Rattle.chip.specs.Refusals.{When9}

-- none of the cells from one to before another has a net that reaches itself
abbrev pub NoneTo : Netlist → ℕ → ℕ → Type 0
NoneTo N from j = (h : ℕ) → h < j → from ≤ h → ¬ Feeds N (N.inputs + h) (N.inputs + h)

module _ {N : Netlist} {from j : ℕ} (L : LoopFrom N from) (none : NoneTo N from j) where
  -- so none below the next cell's net does
  below : (m : ℕ) → m < N.inputs + j → ¬ Feeds N m m
  below m l f = elim (dec_lt m (N.inputs + from)) [
    | yes b ↦ L.none_below m b f
    | no g ↦
        let q : m ≡ N.inputs + (m - N.inputs) = omega arith in
        none (m - N.inputs) (omega arith) (omega arith) (subst (λ n. Feeds N n n) q f)
  ]

  pub lowest : Feeds N (N.inputs + j) (N.inputs + j) → When9 N (N.inputs + j)
  lowest f = record { holds = f; none_below = below }

  -- and the cells do not end before it is found
  pub found : N.cells ≤ j → ⊥
  found l = let (m, f) = L.some in let (h, a, b) = fed_cell f in below m (omega arith) f
