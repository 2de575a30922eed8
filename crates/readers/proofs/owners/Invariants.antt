use Rattle.readers.specs.Readers.{Owned}
use Rattle.readers.proofs.owners.Given as goal

abbrev pub invariant-loop-t : goal.invariant-loop-t
invariant-loop-t l = Owned l.t l.c l.counts l.firsts l.order l.owner
