use lib.ListN.{get_or}
use Rattle.rows.specs.Rows.{Filled}
use Rattle.rows.proofs.join.Given as goal

abbrev pub invariant-loop-k : goal.invariant-loop-k
invariant-loop-k g l = Filled 0 l.k (λ k. g.J.Join.op (get_or l.initial.acc k 0) (get_or l.words k 0)) l.initial.acc l.acc
