-- The limits that every netlist that is read keeps: 1 to 64 inputs, at most 1,024 cells, 1 to 64 outputs, at most 4,096 pins.
use Rattle.std.specs.Prelude.{ℕ, ◌+◌, ◌≤◌, ◌<◌, ◌≡◌, true}
use Rattle.chip.specs.Netlist.{Netlist, all_pins, takes}

-- each cell has a pin, and each pin's net is there
pub record Sound (N : Netlist) : Type 0 where
  pub pinned : (j : ℕ) → j < N.cells → 0 < N.pins j
  pub named : (p : ℕ) → p < all_pins N → N.net p < N.inputs + N.cells

-- within the limits: each kind is one of the ten, each cell has the pins that its kind takes, and each pin's net is there
pub record InLimits (N : Netlist) : Type 0 where
  pub some_input : 1 ≤ N.inputs
  pub few_inputs : N.inputs ≤ 64
  pub few_cells : N.cells ≤ 1024
  pub some_output : 1 ≤ N.outs
  pub few_outputs : N.outs ≤ 64
  pub few_pins : all_pins N ≤ 4096
  pub kinds_known : (j : ℕ) → j < N.cells → N.kind j ≤ 9
  pub pins_taken : (j : ℕ) → j < N.cells → takes (N.kind j) (N.pins j) ≡ true
  pub sound : Sound N
