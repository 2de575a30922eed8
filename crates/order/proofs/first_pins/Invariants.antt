use mathlib.Core.Path.{◌≡◌}
use lib.ListN.{get_or, length}
use Rattle.chip.specs.Netlist.{sum_below}
use Rattle.order.proofs.Order.{FirstsTo}
use Rattle.order.proofs.first_pins.Given as goal

abbrev pub invariant-loop-j : goal.invariant-loop-j
invariant-loop-j l =
    (l.p ≡ sum_below (λ k. get_or l.counts k 0) l.j) × FirstsTo l.j l.counts l.firsts × (length l.firsts ≡ 1025)
