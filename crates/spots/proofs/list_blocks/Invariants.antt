use Rattle.spots.specs.Marks.{Changed, ListMark}
use Rattle.spots.proofs.list_blocks.Given as goal

abbrev pub invariant-loop-z : goal.invariant-loop-z
invariant-loop-z l = Changed (ListMark l.b l.z l.outs l.reached) l.initial.lists l.lists
