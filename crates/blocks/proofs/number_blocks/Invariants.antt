use Rattle.chip.specs.Netlist.{Netlist}
use Rattle.chip.specs.Class.{Lowest}
use Rattle.levels.specs.Branches.{Branched}
use Rattle.blocks.specs.Labels.{label_of}
use Rattle.blocks.proofs.Numbers.{Counted}
use Rattle.blocks.proofs.number_blocks.Given as goal

abbrev pub invariant-loop-x : goal.invariant-loop-x
invariant-loop-x l =
    (N : Netlist) → Branched N l.i l.n l.branches → Lowest N (label_of N l.low) → Counted N (label_of N l.low) l.x l.block l.next
