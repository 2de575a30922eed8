use Prim.Native.Nat.{◌+◌, ◌-◌, ◌*◌, ◌≤◌}
use lib.ListN.{get_or}
use Rattle.alone.specs.Alone.{VarsPut}
use Rattle.alone.proofs.free_input.Given as goal

abbrev pub invariant-loop-k : goal.invariant-loop-k
invariant-loop-k l =
    (l.k ≤ l.group.width) × VarsPut l.k l.x l.group.variables.now l.chip.inputs.now (λ k j. get_or l.goods (16 * k + j) 0) l.initial.vals l.vals

abbrev pub decreases-loop-k : goal.decreases-loop-k
decreases-loop-k l = l.group.width - l.k
