use Prim.Native.Nat.{◌-◌, ◌≤◌}
use mathlib.Core.Path.{◌≡◌}
use Rattle.std.specs.Prelude.{None}
use Rattle.chip.specs.Inner.Tables.{tabled}
use Rattle.chip.specs.Faults.{play_of}
use Rattle.running.proofs.Looking.{EachAhead, EachLooking}
use Rattle.running.proofs.run_clocks.Given as goal

abbrev pub invariant-loop-y : goal.invariant-loop-y
invariant-loop-y l =
    (l.y ≤ l.o) × (l.found ≡ None) × EachLooking (tabled l.i l.c l.o l.kinds l.counts l.nets) l.looks (play_of l.i l.play) l.d l.t l.y l.good l.bad

abbrev pub decreases-loop-y : goal.decreases-loop-y
decreases-loop-y l = l.o - l.y

abbrev pub invariant-clocks : goal.invariant-clocks
invariant-clocks l =
    (l.t ≤ l.n) × (l.found ≡ None) × EachAhead (tabled l.i l.c l.o l.kinds l.counts l.nets) l.looks (play_of l.i l.play) l.d l.t l.good l.bad

abbrev pub decreases-clocks : goal.decreases-clocks
decreases-clocks l = l.n - l.t
