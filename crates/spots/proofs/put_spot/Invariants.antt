use Rattle.spots.specs.Marks.{Changed, SpotMark}
use Rattle.spots.proofs.put_spot.Given as goal

abbrev pub invariant-loop-k : goal.invariant-loop-k
invariant-loop-k l = Changed (SpotMark l.k l.z l.s l.place l.lists) l.initial.spots l.spots
