use Rattle.readers.specs.Readers.{Reached}
use Rattle.readers.proofs.reaches.Given as goal

abbrev pub invariant-loop-t : goal.invariant-loop-t
invariant-loop-t l = Reached l.t l.firsts l.order l.cone l.initial.reach l.reach
