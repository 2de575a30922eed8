-- What a prepared chip has: few blocks, and in class 2 or 3 they are laid by their lowest pins.
use Prim.Native.Nat.{ℕ, ◌≤◌}
use mathlib.Core.Path.{subst}
use mathlib.Core.Logic.{◌≢◌}
use mathlib.Core.List.{List}
use native.Mathlib.Omega.{arith}
use Rattle.chip.specs.Netlist.{Netlist}
use Rattle.chip.specs.Class.{Lowest}
use Rattle.chip.proofs.Theorem.{class_23}
use Rattle.chip.proofs.Unique.{one_low}
use Rattle.structure.specs.Inner.Shape.{Ready}
use Rattle.structure.specs.declared.Shape.{Shape}
use Rattle.structure.proofs.Preparing.{count_few}
use Rattle.slots.specs.Slots.{Laid}

module _ {N : Netlist} {n : ℕ} {s : Shape} {firsts order branches block reached : List ℕ} (R : Ready N n s firsts order branches block reached) where
  pub ready_few : s.blocks ≤ 4160
  ready_few =
      omega (arith, R.shaped.count, count_few N R.limits R.shaped.low R.shaped.prepared.lowest block s.blocks (record { count_is = R.shaped.count; block_is = R.shaped.block_table }))

  pub ready_laid : s.class ≢ 1 → (low : ℕ → ℕ) → Lowest N low → Laid N s.blocks block low
  ready_laid g low L =
      subst (Laid N s.blocks block) (one_low N R.shaped.low low R.shaped.prepared.lowest L)
      (record {
        lowest = R.shaped.prepared.lowest;
        even = class_23 N s.class R.shaped.prepared.classed g;
        count_is = R.shaped.count;
        table = R.shaped.block_table;
      })
