-- No net of a cell from `from` up to j reaches itself, and none below does, so the first that does is the lowest.
use native.Mathlib.Omega.{arith}
use borrow.Author.Count.{below_more}
use Rattle.loops.proofs.Lowest.{lowest, found}
use Rattle.loops.proofs.lowest_on_loop.Goals as goal

pub returns-then-on_loop : goal.returns-then-on_loop
returns-then-on_loop c o kinds counts F L = lowest L (c.loop-j.invariant o kinds counts F) ((c.on_loop.ensures o kinds counts F).is c.if-on_loop.true)

pub loop-j-preserved : goal.loop-j-preserved
loop-j-preserved c o kinds counts F = below_more _ c.loop-j.j (c.loop-j.invariant o kinds counts F) (λ _. (c.on_loop.ensures o kinds counts F).is_not c.if-on_loop.false)

pub returns : goal.returns
returns c o kinds counts F L = absurd (found L (c.loop-j.invariant o kinds counts F) (omega (arith, c.loop-j-test.false)))
