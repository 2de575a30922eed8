use Rattle.balance.proofs.Laws.{TablesSeen}
use Rattle.balance.proofs.see.Given as goal

abbrev pub invariant-loop-p : goal.invariant-loop-p
invariant-loop-p l = TablesSeen l.i l.n l.branches l.pins l.labels l.initial.seen l.p l.seen
