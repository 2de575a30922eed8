use Prim.Native.Nat.{◌≤◌}
use Rattle.slots.specs.Slots.{rel_of, Variables}
use Rattle.slots.proofs.variables.Given as goal

abbrev pub invariant-loop-k : goal.invariant-loop-k
invariant-loop-k l = (l.w ≤ l.k) × Variables l.k (rel_of l.reached l.z) l.table l.w
