use Rattle.order.specs.Placed.{Passed}
use Rattle.order.proofs.pass.Given as goal

abbrev pub invariant-loop-j : goal.invariant-loop-j
invariant-loop-j l = Passed l.i l.c l.firsts l.nets l.order l.places l.before l.n l.j
