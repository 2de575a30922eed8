-- What the faults are looked for on: slots 0 to 15 are the variables, slot 16 + j is cell j's, slot 1040 holds zeros.
use Rattle.std.specs.Prelude.{ℕ, ◌+◌, ◌≤◌, ◌<◌, ◌≡◌, ◌≢◌, Bool, true, false, List, get_or}
use Rattle.chip.specs.Netlist.{Netlist, all_pins, gate}
use Rattle.chip.specs.Inner.Limits.{InLimits}
use Rattle.chip.specs.Inner.Tables.{FirstPins}
use Rattle.chip.specs.Pads.{branch_of}
use Rattle.chip.specs.Class.{Lowest, Class23, blocks}
use Rattle.chip.specs.Faults.{ones}
use Rattle.chip.specs.Search.{digit, width}
use Rattle.order.specs.Order.{Ordered}
use Rattle.levels.specs.Levels.{ReachMasks}
use Rattle.slots.specs.Slots.{variable, in_cone}

-- the tables of a prepared chip for output z, with the slot that each pin looks at
pub record Bed (N : Netlist) (low : ℕ → ℕ) (rel : ℕ → ℕ → Bool) (z : ℕ) (firsts order cone good : List ℕ) : Type 0 where
  pub limits : InLimits N
  pub first_pins : FirstPins N firsts
  pub ordered : Ordered N order
  pub cones : ReachMasks N cone
  pub lowest : Lowest N low
  pub even : Class23 N
  pub output : z < N.outs
  pub few : width (blocks N low) rel z ≤ 16
  pub input_slot : (p : ℕ) → p < all_pins N → branch_of N p < N.inputs → get_or good p 0 ≡ variable (rel z) ((blocks N low).block p)
  pub cell_slot : (p j : ℕ) → p < all_pins N → ¬ (branch_of N p < N.inputs) → N.net p ≡ N.inputs + j → get_or good p 0 ≡ 16 + j
  pub idle_slot : (p : ℕ) → p < all_pins N → ¬ (branch_of N p < N.inputs) → N.net p < N.inputs → get_or good p 0 ≡ 1040

-- what cell j makes of what its pins see
abbrev pub made : Netlist → List ℕ → (ℕ → Bool) → ℕ → Bool
made N firsts see j = gate (N.kind j) (N.pins j) (ones see (get_or firsts j 0) (N.pins j))

-- one lane of the slots under pattern m: the variables hold its bits
pub record Start (w m : ℕ) (v : ℕ → Bool) : Type 0 where
  pub bits : (i : ℕ) → i < w → v i ≡ digit i m
  pub zeros : v 1040 ≡ false

-- each cell that reaches output z, but cell j₀, shows what it makes of what its pins see
pub record Rules (N : Netlist) (firsts cone : List ℕ) (z j₀ : ℕ) (see : ℕ → Bool) (v : ℕ → Bool) : Type 0 where
  pub cell : (j : ℕ) → j < N.cells → j ≢ j₀ → in_cone firsts cone z j ≡ true → v (16 + j) ≡ made N firsts see j
