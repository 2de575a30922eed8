use Prim.Native.Nat.{◌-◌, ◌≤◌}
use lib.ListN.{get_or}
use Rattle.alone.specs.Alone.{VarsPut, VarsMarked}
use Rattle.alone.proofs.set_input.Given as goal

abbrev pub invariant-loop-k : goal.invariant-loop-k
invariant-loop-k l =
    (l.k ≤ l.group.width) × VarsPut l.k l.x l.group.variables.now l.chip.inputs.now (λ k j. get_or l.acc j 0) l.initial.vals l.vals × VarsMarked l.k l.x l.u l.group.variables.now l.chip.inputs.now l.chip.heads.now l.chip.readers.now l.chip.reach.now l.initial.marks l.marks

abbrev pub decreases-loop-k : goal.decreases-loop-k
decreases-loop-k l = l.group.width - l.k
