use Rattle.spots.specs.Marks.{Changed, PinMark}
use Rattle.spots.proofs.put_outputs.Given as goal

abbrev pub invariant-loop-z : goal.invariant-loop-z
invariant-loop-z l = Changed (PinMark l.z l.word l.s l.place l.lists) l.initial.spots l.spots
