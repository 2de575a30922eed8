-- After j cells p is the sum of their pin counts, which stays within that of all.
use native.Mathlib.Omega.{arith}
use Rattle.order.proofs.Order.{sum_within}
use Rattle.order.proofs.first_pins.Goals as goal

pub overflow_add-p : goal.overflow_add-p
overflow_add-p c = omega (arith, c.requires.c_bound_2, sum_within c.args.counts.now c.loop-j.j c.args.c c.loop-j-test.true)

pub overflow_cast-firsts : goal.overflow_cast-firsts
overflow_cast-firsts c = omega (arith, c.requires.c_bound_2, sum_within c.args.counts.now c.loop-j.j c.args.c c.loop-j-test.true)
