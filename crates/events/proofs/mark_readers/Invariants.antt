use Rattle.events.specs.Events.{Marks}
use Prim.Native.Nat.{◌-◌, ◌≤◌}
use lib.ListN.{get_or}
use Rattle.events.proofs.mark_readers.Given as goal

abbrev pub invariant-loop-r : goal.invariant-loop-r
invariant-loop-r l =
    (get_or l.chip.heads.now l.x 0 ≤ l.r) × (l.r ≤ l.r-end) × Marks (get_or l.chip.heads.now l.x 0) l.r l.u l.readers l.reach l.initial.marks l.marks

abbrev pub decreases-loop-r : goal.decreases-loop-r
decreases-loop-r l = l.r-end - l.r
