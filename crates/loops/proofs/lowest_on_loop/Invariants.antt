use Prim.Native.Nat.{ℕ}
use mathlib.Core.List.{List}
use Rattle.chip.specs.Inner.Tables.{FirstPins, tabled}
use Rattle.loops.proofs.Lowest.{NoneTo}
use Rattle.loops.proofs.lowest_on_loop.Given as goal

abbrev pub invariant-loop-j : goal.invariant-loop-j
invariant-loop-j l =
    (o : ℕ) (kinds counts : List ℕ) → FirstPins (tabled l.i l.c o kinds counts l.nets) l.firsts → NoneTo (tabled l.i l.c o kinds counts l.nets) l.from l.j
