-- If the two words have no common bit no output of the fault is wide, and otherwise the lowest common bit is the first that is.
use native.Mathlib.Omega.{arith}
use Rattle.outputs.proofs.Wide.{wide_in_none, wide_first}
use Rattle.outputs.proofs.first_wide.Goals as goal

pub returns-then-both-eq0 : goal.returns-then-both-eq0
returns-then-both-eq0 c = let a = c.args in λ b reached widths W D. wide_in_none a.o b a.outs a.wides reached widths W D c.if-both-eq0.true

pub returns : goal.returns
returns c = let a = c.args in λ b reached widths W D. wide_first a.o b a.outs a.wides reached widths W D c.lowest_bit.result (omega arith) c.if-both-eq0.false c.lowest_bit.ensures
