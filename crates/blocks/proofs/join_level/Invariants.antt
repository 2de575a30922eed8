use Rattle.blocks.proofs.Meeting.{TablesMet}
use Rattle.blocks.proofs.join_level.Given as goal

abbrev pub invariant-loop-p : goal.invariant-loop-p
invariant-loop-p l = TablesMet l.i l.o l.n l.branches l.pins l.initial.low l.p l.owners l.low
