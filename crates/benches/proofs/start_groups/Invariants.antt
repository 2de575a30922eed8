use Prim.Native.Nat.{◌-◌, ◌≤◌}
use Rattle.benches.specs.Benches.{Begun}
use Rattle.benches.proofs.start_groups.Given as goal

abbrev pub invariant-loop-t : goal.invariant-loop-t
invariant-loop-t l = (l.t ≤ l.opened.sizes.cells) × Begun l.t l.opened.sizes.inputs l.opened.sizes.cells l.opened.counts l.opened.firsts l.opened.order l.sources l.left l.groups

abbrev pub decreases-loop-t : goal.decreases-loop-t
decreases-loop-t l = l.opened.sizes.cells - l.t
