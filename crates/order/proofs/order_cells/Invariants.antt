use Prim.Native.Nat.{◌-◌}
use Rattle.order.specs.Placed.{Placed}
use Rattle.order.proofs.order_cells.Given as goal

abbrev pub invariant-loop-n : goal.invariant-loop-n
invariant-loop-n l = Placed l.i l.c l.firsts l.nets l.order l.places l.n

abbrev pub decreases-loop-n : goal.decreases-loop-n
decreases-loop-n l = l.c - l.n
