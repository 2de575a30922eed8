use Rattle.order.specs.Sorted.{netlist_in}
use Rattle.pads.proofs.Laws.{Sourced}
use Rattle.pads.proofs.cell_sources.Given as goal

abbrev pub invariant-loop-cell : goal.invariant-loop-cell
invariant-loop-cell l = Sourced (netlist_in l.cells) l.cells.order.now l.cell-index l.table
