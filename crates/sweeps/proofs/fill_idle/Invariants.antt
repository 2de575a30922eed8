use Rattle.sweeps.specs.Copied.{IdleFilled}
use Rattle.sweeps.proofs.fill_idle.Given as goal

abbrev pub invariant-loop-byte : goal.invariant-loop-byte
invariant-loop-byte l = IdleFilled l.byte-index l.initial.byte-items l.byte-items
