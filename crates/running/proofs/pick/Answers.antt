-- The list takes each cell of the order that is of the kind asked for, once and in the order, and no other.
use mathlib.Core.Path.{◌≡◌, sym, ◌∙◌}
use mathlib.Core.Bool.{true, false, beq}
use native.Mathlib.Omega.{arith}
use lib.ListN.{get_or, take, length-set, length-replicate}
use Prim.Native.Nat.{ℕ, ◌<◌}
use Rattle.std.proofs.lemmas.List.{get_or-take}
use Rattle.chip.specs.Netlist.{is_flop}
use Rattle.running.proofs.Lists.{picked_none, picked_skip, picked_more}
use Rattle.chip.proofs.Bools.{same_true, same_false}
use Rattle.running.proofs.pick.Goals as goal
use Rattle.running.proofs.pick.Goals.{else-is_flop-flop, then-is_flop-flop}

pub loop-j-init : goal.loop-j-init
loop-j-init c = (picked_none _ _ _ _, length-replicate {A = ℕ} 1024 0)

pub loop-j-preserved : goal.loop-j-preserved
loop-j-preserved c =
    let a = c.args in
    let l = c.loop-j in
    let h : l.j-index < a.c = omega arith in
    let e : get_or (take a.c a.order.now) l.j-index 0 ≡ get_or a.order.now l.j-index 0 = get_or-take a.c a.order.now l.j-index 0 h in
    let q : is_flop (get_or a.kinds.now (get_or a.order.now l.j-index 0) 0) ≡ c.is_flop.result = rw (c.from.ensures ∙ e) at (sym c.is_flop.ensures) in
    elim c.if-is_flop-flop.branch [
      | then-is_flop-flop w ↦ let t : beq c.is_flop.result a.flop ≡ true = w.if-is_flop-flop.true in
          rw (w.cells-is, w.count-is, e) (picked_more (λ j. get_or a.kinds.now j 0) a.order.now a.flop l.cells l.j-index l.count (omega (arith, l.invariant.0.few)) (q ∙ same_true _ _ t) l.invariant.0, simp length-set l.invariant.1)
      | else-is_flop-flop w ↦ let t : beq c.is_flop.result a.flop ≡ false = w.if-is_flop-flop.false in
          rw (w.cells-is, w.count-is) (picked_skip (λ j. get_or a.kinds.now j 0) a.order.now a.flop l.cells l.j-index l.count (λ e. same_false _ _ t (sym q ∙ e)) l.invariant.0, l.invariant.1)
    ]
