use Prim.Native.Nat.{ℕ}
use Rattle.order.specs.Sorted.{netlist_in}
use Rattle.chip.specs.Class.{Lowest, blocks}
use Rattle.levels.specs.Levels.{MasksBefore}
use Rattle.sweeps.proofs.Sweeping.{SetTo}
use Rattle.sweeps.proofs.lay_play.Given as goal

abbrev pub invariant-loop-e : goal.invariant-loop-e
invariant-loop-e l =
    MasksBefore (netlist_in l.cells) l.e l.before
    × ((low : ℕ → ℕ) → Lowest (netlist_in l.cells) low → SetTo (netlist_in l.cells) (blocks (netlist_in l.cells) low) l.d l.output l.e l.pattern l.initial.play l.play)
