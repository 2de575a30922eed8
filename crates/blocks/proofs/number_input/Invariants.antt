use Rattle.blocks.proofs.Numbers.{TablesNumbered}
use Rattle.blocks.proofs.number_input.Given as goal

abbrev pub invariant-loop-p : goal.invariant-loop-p
invariant-loop-p l = TablesNumbered l.n l.x l.from l.branches l.low l.p l.initial.block l.block l.next
