use Prim.Native.Nat.{ℕ}
use mathlib.Core.List.{List}
use Rattle.chip.specs.Class.{blocks}
use Rattle.chip.specs.Inner.Tables.{tabled}
use Rattle.blocks.specs.Labels.{BlockTable}
use Rattle.copies.specs.Inner.Marks.{Ways, FlatMarks, FirstBlocks}
use Rattle.copies.proofs.mark_copies.Given as goal

abbrev pub invariant-loop-p : goal.invariant-loop-p
invariant-loop-p l =
    (o : ℕ) (kinds counts : List ℕ) (low : ℕ → ℕ) → Ways (tabled l.z.inputs l.z.cells o kinds counts l.nets) l.z.pins l.firsts l.branches → BlockTable (tabled l.z.inputs l.z.cells o kinds counts l.nets) low l.block
    → FirstBlocks (tabled l.z.inputs l.z.cells o kinds counts l.nets) (blocks (tabled l.z.inputs l.z.cells o kinds counts l.nets) low) l.lowest
    → FlatMarks (tabled l.z.inputs l.z.cells o kinds counts l.nets) (blocks (tabled l.z.inputs l.z.cells o kinds counts l.nets) low) l.p l.marks
