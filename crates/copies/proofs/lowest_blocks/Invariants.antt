use Prim.Native.Nat.{ℕ}
use mathlib.Core.Path.{◌≡◌}
use Rattle.chip.specs.Netlist.{Netlist, all_pins}
use Rattle.chip.specs.Class.{Lowest}
use Rattle.chip.specs.Inner.Tables.{BranchTable}
use Rattle.blocks.specs.Labels.{BlockTable}
use Rattle.copies.proofs.Firsts.{Firsts}
use Rattle.copies.proofs.lowest_blocks.Given as goal

abbrev pub invariant-loop-x : goal.invariant-loop-x
invariant-loop-x l =
    (N : Netlist) (low : ℕ → ℕ) → N.inputs ≡ l.z.inputs → l.z.pins ≡ all_pins N → BranchTable N l.branches → Lowest N low → BlockTable N low l.block → Firsts N low l.x l.at l.table
