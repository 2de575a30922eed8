use Rattle.outputs.specs.Sites.{Widths}
use Rattle.outputs.proofs.all_widths.Given as goal

abbrev pub invariant-loop-z : goal.invariant-loop-z
invariant-loop-z l = Widths l.z l.b l.reached l.widths
