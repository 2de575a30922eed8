use Rattle.chip.specs.Inner.Tables.{tabled}
use Rattle.chip.specs.Faults.{stuck}
use Rattle.faults.proofs.Settled.{Settled}
use Rattle.faults.proofs.decided_nets.Given as goal

abbrev pub invariant-loop-t : goal.invariant-loop-t
invariant-loop-t l =
    Settled (tabled l.i l.c l.o l.kinds l.counts l.nets) (stuck l.fault) l.order l.t l.table
