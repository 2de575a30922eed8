use Rattle.chip.specs.Faults.{stuck}
use Rattle.faults.specs.Sources.{Sources}
use Rattle.faults.proofs.sources.Given as goal

abbrev pub invariant-loop-p : goal.invariant-loop-p
invariant-loop-p l =
    Sources (stuck l.fault) l.zeros l.p l.nets l.table
