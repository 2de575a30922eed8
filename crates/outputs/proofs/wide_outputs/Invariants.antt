use Rattle.outputs.specs.Sites.{WideWord}
use Rattle.outputs.proofs.wide_outputs.Given as goal

abbrev pub invariant-loop-z : goal.invariant-loop-z
invariant-loop-z l = WideWord l.z l.widths l.wides
