use Rattle.loops.specs.Walk.{Followed}
use Rattle.loops.proofs.follow.Given as goal

abbrev pub invariant-loop-p : goal.invariant-loop-p
invariant-loop-p l = Followed l.i l.c l.firsts l.nets l.j l.initial.list l.before l.list l.places l.n l.p
