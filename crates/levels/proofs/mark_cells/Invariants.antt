use Prim.Native.Nat.{ℕ}
use Rattle.order.specs.Sorted.{netlist_in}
use Rattle.levels.proofs.Cells.{CellsKept}
use Rattle.levels.proofs.mark_cells.Given as goal

-- the cells from place k of the order on are done, whatever the depth
abbrev pub invariant-loop-k : goal.invariant-loop-k
invariant-loop-k l =
    (e : ℕ) → CellsKept (netlist_in l.cells) e l.k l.cells.firsts.now l.cells.order.now l.before l.initial.pins l.initial.reached l.pins l.reached
