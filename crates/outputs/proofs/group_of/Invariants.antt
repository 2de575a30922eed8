use Rattle.outputs.specs.Groups.{Alike}
use Rattle.outputs.proofs.group_of.Given as goal

abbrev pub invariant-loop-word : goal.invariant-loop-word
invariant-loop-word l = Alike l.word-index l.z l.reached l.g
