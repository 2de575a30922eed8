use Rattle.spots.specs.Marks.{Changed, LevelMark}
use Rattle.spots.proofs.put_level.Given as goal

abbrev pub invariant-loop-p : goal.invariant-loop-p
invariant-loop-p l =
    Changed (LevelMark l.z.inputs l.z.outputs l.p l.from l.outs l.branches l.block l.words l.lists) l.initial.spots l.spots
