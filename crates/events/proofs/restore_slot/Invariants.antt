use Rattle.rows.specs.Rows.{Filled}
use Prim.Native.Nat.{◌+◌, ◌-◌, ◌*◌, ◌≤◌}
use lib.ListN.{get_or}
use Rattle.events.proofs.restore_slot.Given as goal

abbrev pub invariant-loop-k : goal.invariant-loop-k
invariant-loop-k l =
    (16 * l.s ≤ l.k) × (l.k ≤ 16 * l.s + 16) × Filled (16 * l.s) (l.k - 16 * l.s) (λ k. get_or l.goods (16 * l.s + k) 0) l.initial.vals l.vals

abbrev pub decreases-loop-k : goal.decreases-loop-k
decreases-loop-k l = 16 * l.s + 16 - l.k
