use Prim.Native.Nat.{◌-◌, ◌≤◌}
use Rattle.benches.specs.Benches.{BlockInputs}
use Rattle.benches.proofs.block_inputs.Given as goal

abbrev pub invariant-loop-p : goal.invariant-loop-p
invariant-loop-p l = (l.p ≤ l.n) × BlockInputs l.i l.p l.branches l.block l.input

abbrev pub decreases-loop-p : goal.decreases-loop-p
decreases-loop-p l = l.n - l.p
