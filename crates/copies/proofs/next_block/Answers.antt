-- `next` stands behind block `at` and behind the blocks of the branches of x among the first p pins, as each pin keeps it.
use mathlib.Core.Path.{◌≡◌, sym, ◌∙◌}
use native.Mathlib.Omega.{arith}
use lib.ListN.{get_or}
use Rattle.copies.proofs.Firsts.{next_skip, next_more, next_start}
use Rattle.copies.proofs.next_block.Goals as goal
use Rattle.copies.proofs.next_block.Goals.{then-from-x, else-from-x}

pub loop-p-init : goal.loop-p-init
loop-p-init c = (omega arith, next_start _ _ _ _)

pub loop-p-preserved : goal.loop-p-preserved
loop-p-preserved c =
    let l = c.loop-p in
    elim c.if-from-x.branch [
      | then-from-x w ↦
          let b : get_or c.args.branches.now l.p 0 ≡ c.args.x = sym c.from.ensures ∙ w.if-from-x.true in (
            omega (arith, w.next-is, w.max-next.ensures, w.from-then-from-x.ensures, c.requires.2 l.p c.loop-p-test.true b),
            next_more _ _ _ _ _ _ _ l.invariant.1 b (omega (arith, w.next-is, w.max-next.ensures, w.from-then-from-x.ensures)),
          )
      | else-from-x w ↦ (omega (arith, w.next-is), next_skip _ _ _ _ _ _ _ l.invariant.1 (λ e. w.if-from-x.false (c.from.ensures ∙ e)) w.next-is)
    ]
