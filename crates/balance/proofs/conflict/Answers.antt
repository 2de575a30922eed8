-- The lowest conflict among the pins passed is known, and a branch whose word meets its label's may lower it.
use Prim.Native.Nat.{◌<◌}
use native.Mathlib.Omega.{arith}
use lib.ListN.{get_or}
use Rattle.balance.proofs.Laws.{pass_over, pass_apart, pass_found, pass_all}
use Rattle.balance.proofs.conflict.Goals as goal
use Rattle.balance.proofs.conflict.Goals.{then-x-i+then-seen-from-ne0, else-x-i, else-x-i-via-then-x-i+else-seen-from-ne0, else-x-i-via-else-x-i}

pub loop-p-preserved : goal.loop-p-preserved
loop-p-preserved c =
    let T = c.loop-p.invariant in
    let named = c.from-x.ensures in
    let few = c.requires.1 c.loop-p.p (omega arith) in
    elim c.if-x-i.branch [
      | then-x-i+then-seen-from-ne0 w ↦
          let low : get_or c.args.branches.now c.loop-p.p 0 < c.args.i = omega arith in
          rw (w.lowest-is, w.min-lowest.ensures, named) (pass_found _ _ _ _ _ _ _ _ _ T (omega arith) low (few low) (rw w.from.ensures at w.if-seen-from-ne0.true))
      | else-x-i w ↦ rw w.lowest-is
          (elim w.else-x-i.branch [
            | else-x-i-via-then-x-i+else-seen-from-ne0 v ↦
                let low : get_or c.args.branches.now c.loop-p.p 0 < c.args.i = omega arith in
                pass_apart _ _ _ _ _ _ _ _ _ T (omega arith) low (few low) (rw v.from.ensures at v.if-seen-from-ne0.false)
            | else-x-i-via-else-x-i v ↦ pass_over _ _ _ _ _ _ _ _ _ T (omega arith) (λ h. absurd (omega (arith, v.if-x-i.false, named, h)))
          ])
    ]

pub returns : goal.returns
returns c = pass_all _ _ _ _ _ _ _ _ _ c.loop-p.invariant (omega arith)
