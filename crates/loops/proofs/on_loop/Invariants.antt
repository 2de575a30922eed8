use Prim.Native.Nat.{◌-◌}
use Rattle.loops.specs.Walk.{Walked}
use Rattle.loops.proofs.on_loop.Given as goal

abbrev pub invariant-loop-k : goal.invariant-loop-k
invariant-loop-k l = Walked l.i l.c l.firsts l.nets l.own l.list l.places l.n l.k

abbrev pub decreases-loop-k : goal.decreases-loop-k
decreases-loop-k l = l.c - l.k
