-- What theorems say beyond the contracts.
use Rattle.std.specs.Prelude.{ℕ, suc, ◌≤◌, ◌<◌, ◌≡◌, ◌↔◌, ◌≢◌, Bool, true, List}
use Rattle.chip.specs.Netlist.{Netlist, first_pin, is_flop}
use Rattle.chip.specs.Pads.{source}
use Rattle.chip.specs.Class.{Branch, Blocks, Joined}
use Rattle.chip.specs.Transformed.{transformed}
use Rattle.chip.specs.Faults.{Lines, Shown, Showable, play_of, IsPlay, transformed_lines}
use Rattle.chip.specs.Clocks.{Sets}

-- no flip-flop is fed by an input or a pad buffer
abbrev pub NoFlopAtPad : Netlist → Type 0
NoFlopAtPad N = (j : ℕ) → j < N.cells → is_flop (N.kind j) ≡ true → N.inputs ≤ source N (N.net (first_pin N j))

-- two branches are separable if no output is reached from both with an equal depth
abbrev pub Separable : Netlist → ℕ → ℕ → Type 0
Separable N p q = ¬ Joined N p q

-- a partition of the branches of input x, by a number for each part, in which branches of different parts are separable
abbrev pub Apart : Netlist → ℕ → (ℕ → ℕ) → Type 0
Apart N x part = (p q : ℕ) → Branch N x p → Branch N x q → part p ≢ part q → Separable N p q

-- and the finest such: what stands in one part of it, stands in one part of each of them
pub record Finest (N : Netlist) (x : ℕ) (part : ℕ → ℕ) : Type 0 where
  pub apart : Apart N x part
  pub finer : (other : ℕ → ℕ) → Apart N x other → (p q : ℕ) → Branch N x p → Branch N x q → part p ≡ part q → other p ≡ other q

-- The fact behind demand 3, without the limit of 16. It is proved for netlists of class 2 or 3 (`demand`).

-- the pattern shows the fault in the transformed circuit at output z
abbrev pub PatternShows : Netlist → Blocks → Lines → (ℕ → Bool) → ℕ → Type 0
PatternShows N B f pat z = Shown (transformed N B) (transformed_lines N B f) (λ _. pat) z 0

pub record Demand (N : Netlist) (d : ℕ) (B : Blocks) (f : Lines) : Type 0 where
  -- a fault can be shown by some play exactly if some pattern shows it in the transformed circuit
  pub exactly : Showable N f ↔ ((pat : ℕ → Bool) × (z : ℕ) × (z < N.outs) × PatternShows N B f pat z)
  -- and then the play set from that pattern, of d + 1 clocks, shows it on its last clock
  pub by_setting : (pat : ℕ → Bool) (z : ℕ) (bytes : List ℕ) → z < N.outs → PatternShows N B f pat z
      → IsPlay N.inputs bytes (suc d) → Sets N B d z pat (play_of N.inputs bytes) → Shown N f (play_of N.inputs bytes) z d
