use Prim.Native.Nat.{◌≤◌}
use mathlib.Core.Path.{◌≡◌}
use Rattle.walk.specs.Walk.{width_of}
use Rattle.spots.specs.Marks.{Changed, RowMark}
use Rattle.spots.proofs.list_row.Given as goal

abbrev pub invariant-loop-k : goal.invariant-loop-k
invariant-loop-k l =
    (l.w ≤ l.k) × (l.w ≡ width_of l.k l.reached l.z) × Changed (RowMark l.k l.z l.reached) l.initial.lists l.lists
