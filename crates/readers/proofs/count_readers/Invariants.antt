use Rattle.readers.specs.Readers.{pin_key, Counted}
use Rattle.readers.proofs.count_readers.Given as goal

abbrev pub invariant-loop-p : goal.invariant-loop-p
invariant-loop-p l = Counted l.p (pin_key l.pins) l.heads
