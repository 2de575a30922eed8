-- After each pin its net is an input or on the list, and a cell without a place on the list leaves room for one more.
use Prim.Native.Nat.{◌+◌, ◌-◌, ◌<◌}
use mathlib.Core.Path.{◌≡◌}
use mathlib.Core.Bool.{false}
use native.Mathlib.Omega.{arith}
use lib.ListN.{get_or}
use Rattle.order.specs.Placed.{PinAt, fed}
use Rattle.order.proofs.Listed.{free}
use Rattle.order.proofs.Order.{fed_false}
use Rattle.loops.proofs.Walk.{follow_kept, follow_more}
use Rattle.loops.proofs.follow.Goals as goal
use Rattle.loops.proofs.follow.Goals.{At-loop-p, then-not-is_fed, else-not-is_fed}

-- the pin that is followed is one of cell j's
own : (l : At-loop-p) → l.loop-p.p < l.from-p-end.result → PinAt l.args.firsts.now l.args.j l.loop-p.p
own l t = record { from = omega arith; to = omega arith }

-- its net is that of a cell without a place, for which a place is free
pub bounds-list-n : goal.bounds-list-n
bounds-list-n c =
    let W = c.requires.wired in
    let K = c.loop-p.invariant.listed in
    let net = get_or c.args.nets.now c.loop-p.p 0 in
    let un : fed c.args.i c.loop-p.places net ≡ false = cc (c.is_fed.ensures, c.if-not-is_fed.true, c.from-net.ensures) in
    let (a, z) = fed_false c.args.i net c.loop-p.places un in
    let low : net < c.args.i + c.args.c = W.named c.args.j c.loop-p.p c.requires.j_lt_c (own (goal.at.bounds-list-n c).At-loop-p c.loop-p-test.true) in
    omega (arith, W.few_cells, K.entries, free K (net - c.args.i) (omega arith) z)

pub loop-p-preserved : goal.loop-p-preserved
loop-p-preserved c = elim c.if-not-is_fed.branch [
  | then-not-is_fed w ↦
      rw (w.list-is, w.places-is, w.n-is, c.from-net.ensures)
      (follow_more c.loop-p.invariant c.requires.wired c.requires.j_lt_c (own (goal.at.loop-p-preserved c).At-loop-p c.loop-p-test.true) (cc (c.is_fed.ensures, w.if-not-is_fed.true, c.from-net.ensures)))
  | else-not-is_fed w ↦
      rw (w.list-is, w.places-is, w.n-is) (follow_kept c.loop-p.invariant (cc (c.is_fed.ensures, w.if-not-is_fed.false, c.from-net.ensures)))
]
