-- `structure::see_all` keeps its contract: the pins have what they reach at any depth, which is what the branches reach at the depths up to d.
use Prim.Native.Nat.{suc, ◌+◌}
use mathlib.Core.Path.{◌≡◌}
use native.Mathlib.Omega.{arith}
use Rattle.chip.proofs.Plain.{within_branches}
use Rattle.order.proofs.Order.{ranked_of}
use Rattle.structure.proofs.Evenness.{seen_start, span_all}
use Rattle.structure.proofs.see_all.Goals as goal

pub see-requires : goal.see-requires
see-requires c =
    let P = c.requires in
    (omega (arith, P.in_order.sorted.limits.few_pins, P.in_order.branched.pins), P.few_labels)

pub returns : goal.returns
returns c =
    λ d w.
    let T = c.requires.in_order in
    let pins = c.reach_masks.new.cone in
    let deep = (within_branches _ T.sorted.limits.sound (ranked_of T.sorted.ordered) d).0 w in
    let e : suc d ≡ d + 1 = omega arith in
    rw e (c.see.ensures _ 0 (d + 1) (omega arith) T.branched (span_all _ d pins deep c.reach_masks.ensures) (seen_start _ _ c.args.seen.now c.requires.by_index))
