use Prim.Native.Nat.{◌-◌, ◌≤◌}
use mathlib.Core.Path.{◌≡◌}
use Rattle.chip.specs.Class.{tally}
use Rattle.slots.specs.Slots.{rel_of}
use Rattle.benches.specs.Benches.{BlockList}
use Rattle.benches.proofs.block_list.Given as goal

abbrev pub invariant-loop-k : goal.invariant-loop-k
invariant-loop-k l =
    (l.k ≤ l.b) × (l.w ≡ tally (rel_of l.reached l.z) l.k) × BlockList l.k (rel_of l.reached l.z) l.list

abbrev pub decreases-loop-k : goal.decreases-loop-k
decreases-loop-k l = l.b - l.k
