use Rattle.chip.specs.Inner.Tables.{sized}
use Rattle.levels.specs.Levels.{MasksBefore}
use Rattle.spots.specs.Marks.{Changed, DepthMark}
use Rattle.spots.proofs.put_depths.Given as goal

abbrev pub invariant-loop-e : goal.invariant-loop-e
invariant-loop-e l =
    MasksBefore (sized l.z l.kinds l.counts l.nets) l.e l.before
    × Changed (DepthMark (sized l.z l.kinds l.counts l.nets) l.d l.e l.outs l.block l.lists) l.initial.spots l.spots
