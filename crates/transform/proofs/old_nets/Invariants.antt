use Rattle.opening.specs.Open.{netlist_of}
use Rattle.transform.specs.Inner.New.{blocks_in, Copied, OldNets}
use Rattle.transform.proofs.old_nets.Given as goal

abbrev pub invariant-loop-p : goal.invariant-loop-p
invariant-loop-p l = (K : Copied l.opened l.found) → OldNets (netlist_of l.opened) (blocks_in K.is_open) l.found.count l.p l.table
