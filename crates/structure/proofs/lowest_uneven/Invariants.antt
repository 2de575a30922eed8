use Rattle.order.specs.Sorted.{netlist_in}
use Rattle.structure.proofs.Evenness.{Evening}
use Rattle.structure.proofs.lowest_uneven.Given as goal

abbrev pub invariant-loop-e : goal.invariant-loop-e
invariant-loop-e l = Evening (netlist_in l.cells) l.labels l.e l.before l.seen l.lowest
