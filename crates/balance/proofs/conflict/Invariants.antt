use Rattle.balance.proofs.Laws.{TablesPassed}
use Rattle.balance.proofs.conflict.Given as goal

abbrev pub invariant-loop-p : goal.invariant-loop-p
invariant-loop-p l = TablesPassed l.i l.n l.best l.branches l.pins l.labels l.seen l.p l.lowest
