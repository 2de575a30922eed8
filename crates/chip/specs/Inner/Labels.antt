-- The blocks so far, as labels: the label of a pin is a pin of its block that is not above it.
use Rattle.std.specs.Prelude.{ℕ, ◌≤◌, ◌≡◌}
use Rattle.chip.specs.Netlist.{Netlist}
use Rattle.chip.specs.Class.{Branch, Together}

pub record Labels (N : Netlist) (low : ℕ → ℕ) : Type 0 where
  pub under : (p : ℕ) → low p ≤ p
  pub shares : (x p : ℕ) → Branch N x p → Together N x p (low p)
  pub alone : (p : ℕ) → ((x : ℕ) → ¬ Branch N x p) → low p ≡ p

-- pins that shared a label still do
abbrev pub Coarser : (ℕ → ℕ) → (ℕ → ℕ) → Type 0
Coarser low low' = (p q : ℕ) → low p ≡ low q → low' p ≡ low' q
