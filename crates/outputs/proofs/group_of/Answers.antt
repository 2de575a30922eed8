-- Before the first block g has all outputs, and each part keeps output z.
use Rattle.outputs.proofs.Words.{alike_none}
use Rattle.outputs.proofs.group_of.Goals as goal

pub loop-word-init : goal.loop-word-init
loop-word-init c = alike_none _ _ c.requires.0
