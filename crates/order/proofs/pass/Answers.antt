-- A cell takes the next place only once its pins are fed, and if none takes one, each cell without a place has a pin that is not fed.
use native.Mathlib.Omega.{arith}
use Rattle.order.proofs.Listed.{free}
use Rattle.order.proofs.Order.{one_more, pass_kept, pass_more}
use Rattle.order.proofs.pass.Goals as goal
use Rattle.order.proofs.pass.Goals.{then-places-j-eq0+then-ready, else-places-j-eq0, else-places-j-eq0-via-then-places-j-eq0+else-ready, else-places-j-eq0-via-else-places-j-eq0}

pub bounds-order-n : goal.bounds-order-n
bounds-order-n c =
    let P = c.loop-j.invariant.placed.listed in
    omega (arith, P.entries, c.requires.wired.few_cells, free P c.loop-j.j c.loop-j-test.true c.if-places-j-eq0.true)

pub loop-j-preserved : goal.loop-j-preserved
loop-j-preserved c =
    let l = c.loop-j in
    let K = l.invariant in
    elim c.if-places-j-eq0.branch [
      | then-places-j-eq0+then-ready w ↦
          let P = one_more K.placed c.requires.wired l.j c.loop-j-test.true w.if-places-j-eq0.true (λ p o. w.ready.ensures.all w.if-ready.true p (omega (arith, o.from)) (omega (arith, o.to))) in
          rw (w.order-is, w.places-is, w.n-is) (pass_more K P)
      | else-places-j-eq0 w ↦ rw (w.order-is, w.places-is, w.n-is)
          (elim w.else-places-j-eq0.branch [
            | else-places-j-eq0-via-then-places-j-eq0+else-ready v ↦
                let (p, a, b, e) = v.ready.ensures.not_all v.if-ready.false in
                pass_kept K (λ z. record { pin = p; own = record { from = omega arith; to = omega arith }; unfed = e })
            | else-places-j-eq0-via-else-places-j-eq0 v ↦ pass_kept K (λ z. absurd (omega arith))
          ])
    ]
