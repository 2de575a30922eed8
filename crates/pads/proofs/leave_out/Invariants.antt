use Rattle.order.specs.Sorted.{netlist_in}
use Rattle.pads.proofs.Laws.{LeftOut}
use Rattle.pads.proofs.leave_out.Given as goal

abbrev pub invariant-loop-j : goal.invariant-loop-j
invariant-loop-j l = LeftOut (netlist_in l.cells) l.j l.table
