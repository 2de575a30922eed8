use Rattle.readers.specs.Readers.{pin_key, Put, Read}
use Rattle.readers.proofs.put_readers.Given as goal

abbrev pub invariant-loop-p : goal.invariant-loop-p
invariant-loop-p l = Put l.p l.n (pin_key l.pins) l.heads × Read l.p l.n l.c (pin_key l.pins) l.owner l.readers
