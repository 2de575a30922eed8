-- Words differ from the good ones only at changed places from at on, and a jump to the next set bit passes over none of these.
use Rattle.events.proofs.Running.{restore_step}
use native.Mathlib.Omega.{arith}
use Rattle.events.proofs.restore.Goals as goal

pub loop-at-preserved-then-l-lt64 : goal.loop-at-preserved-then-l-lt64
loop-at-preserved-then-l-lt64 c = let a = c.args in let l = c.loop-at in (restore_step a.from a.c a.order.now a.goods.now a.changed.now a.vals.now c.requires.by_index c.requires.by_index_2.0 l.at l.vals l.invariant.0 c.low_mark-l.result c.low_mark-l.ensures _ c.from.result c.if-l-lt64.true c.from.ensures c.restore_slot.ensures, omega (arith, c.requires.from_le_c, c.loop-at-test.true))
