-- With output z in the word, anding keeps the outputs in it, else anding with the complement keeps those outside.
use mathlib.Core.Path.{sym, ◌∙◌}
use native.Mathlib.Omega.{arith}
use Rattle.outputs.proofs.Words.{parted_in, parted_out}
use Rattle.outputs.proofs.part.Goals as goal

pub returns-then-has_bit : goal.returns-then-has_bit
returns-then-has_bit c = parted_in _ _ _ (sym c.has_bit.ensures ∙ c.if-has_bit.true)

pub returns : goal.returns
returns c = parted_out _ _ _ (omega arith) (omega arith) (sym c.has_bit.ensures ∙ c.if-has_bit.false)
