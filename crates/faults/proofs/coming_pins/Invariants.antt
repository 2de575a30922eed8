use Rattle.chip.specs.Inner.Tables.{tabled}
use Rattle.chip.specs.Faults.{Lines}
use Rattle.faults.specs.Decided.{StuckNets, DecidedNets, Coming}
use Rattle.faults.proofs.coming_pins.Given as goal

abbrev pub invariant-loop-p : goal.invariant-loop-p
invariant-loop-p l =
    (f : Lines) → StuckNets f l.own → DecidedNets (tabled l.i l.c l.o l.kinds l.counts l.nets) f l.seen → Coming (tabled l.i l.c l.o l.kinds l.counts l.nets) f l.p l.table
