use Prim.Native.Nat.{ℕ}
use mathlib.Core.List.{List}
use Rattle.chip.specs.Inner.Tables.{tabled}
use Rattle.copies.specs.Inner.Marks.{Way}
use Rattle.copies.proofs.Marks.{Walked}
use Rattle.copies.proofs.mark_way.Given as goal

abbrev pub invariant-loop : goal.invariant-loop
invariant-loop l = (o : ℕ) (kinds counts : List ℕ) → Way (tabled l.z.inputs l.z.cells o kinds counts l.nets) l.firsts l.p → Walked (tabled l.z.inputs l.z.cells o kinds counts l.nets) l.p l.base l.counter l.initial.marks l.net l.marks
