use Prim.Native.Nat.{◌-◌, ◌≤◌}
use Rattle.order.specs.Sorted.{netlist_in}
use Rattle.blocks.specs.Labels.{label_of}
use Rattle.structure.proofs.Joining.{Joining}
use Rattle.structure.proofs.Evenness.{Evening}
use Rattle.structure.proofs.join_blocks.Given as goal

abbrev pub invariant-loop-before : goal.invariant-loop-before
invariant-loop-before l =
    (l.e ≤ 256)
    × Joining (netlist_in l.cells) (label_of (netlist_in l.cells) l.low) l.e l.before
    × Evening (netlist_in l.cells) l.branches l.e l.before l.seen l.lowest

abbrev pub decreases-loop-before : goal.decreases-loop-before
decreases-loop-before l = 256 - l.e
