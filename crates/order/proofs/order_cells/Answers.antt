-- The n cells placed stand after those that drive them, and where a pass places none the cells left wait for each other in a loop.
use mathlib.Core.Path.{refl}
use Rattle.std.proofs.Common.{rules}
use native.Mathlib.Omega.{arith}
use lib.ListN.{get_or-replicate}
use Rattle.order.proofs.Order.{none_placed, ordered, looped}
use Rattle.order.proofs.order_cells.Goals as goal

pub loop-n-init : goal.loop-n-init
loop-n-init c = none_placed _ _ _ _ _ _ (search rules) refl (λ j l. get_or-replicate 1024 j 0 0 (omega (arith, c.requires.few_cells)))

pub returns-then-m-n : goal.returns-then-m-n
returns-then-m-n c o kinds counts F = looped c.args.i c.args.c o kinds counts c.args.firsts.now c.args.nets.now F c.requires (rw c.if-m-n.true at c.pass-m.ensures) c.loop-n-test.true c.first_left.ensures

pub returns : goal.returns
returns c o kinds counts F = ordered c.args.i c.args.c o kinds counts c.args.firsts.now c.args.nets.now F c.loop-n.invariant c.loop-n-test.false
