-- Each label has its outputs of the pins passed, and a branch adds those of its word to its label's.
use Prim.Native.Nat.{◌<◌}
use native.Mathlib.Omega.{arith}
use lib.ListN.{get_or}
use Rattle.balance.proofs.Laws.{see_skip, see_more, see_all}
use Rattle.balance.proofs.see.Goals as goal
use Rattle.balance.proofs.see.Goals.{then-from-i, else-from-i}

pub loop-p-preserved : goal.loop-p-preserved
loop-p-preserved c =
    let T = c.loop-p.invariant in
    let named = c.from.ensures in
    elim c.if-from-i.branch [
      | then-from-i w ↦
          let low : get_or c.args.branches.now c.loop-p.p 0 < c.args.i = omega arith in
          rw (w.seen-is, w.from-then-from-i.ensures) (see_more _ _ _ _ _ _ _ _ T (omega arith) low (c.requires.1 c.loop-p.p (omega arith) low) (omega arith))
      | else-from-i w ↦ rw w.seen-is (see_skip _ _ _ _ _ _ _ _ T (omega arith) (λ h. omega (arith, w.if-from-i.false, named, h)))
    ]

pub returns : goal.returns
returns c = see_all _ _ _ _ _ _ _ _ c.loop-p.invariant (omega arith)
