-- An open chip holds its class and depth as prepared, and the number in its shape is that of its blocks.
use Rattle.opening.proofs.Answers.{class_is_on}
use Rattle.opening.proofs.class_on.Goals as goal

pub returns : goal.returns
returns c = class_is_on _ c.requires
