use Rattle.spots.specs.Marks.{Changed, OneMark}
use Rattle.spots.proofs.put_ones.Given as goal

abbrev pub invariant-loop-k : goal.invariant-loop-k
invariant-loop-k l = Changed (OneMark l.k l.z l.m l.spots) l.initial.play l.play
