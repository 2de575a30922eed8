-- A branch that is its block's lowest pin takes the next number, and another has the number of that pin, which is below it.
use mathlib.Core.Path.{sym, ◌∙◌}
use native.Mathlib.Omega.{arith}
use Rattle.blocks.proofs.Numbers.{walk_skip, walk_lead, walk_follow, walk_all}
use Rattle.blocks.proofs.number_input.Goals as goal
use Rattle.blocks.proofs.number_input.Goals.{then-from-x+then-l-p, then-from-x+else-l-p, else-from-x}

pub loop-p-preserved : goal.loop-p-preserved
loop-p-preserved c =
    let W = c.loop-p.invariant in
    let named = c.from.ensures in
    elim c.if-from-x.branch [
      | then-from-x+then-l-p w ↦ rw (w.block-is, w.next-is) (walk_lead _ _ _ _ _ _ _ _ _ W (omega arith) c.requires.1 (sym named ∙ w.if-from-x.true) (sym w.from-l.ensures ∙ w.if-l-p.true))
      | then-from-x+else-l-p w ↦ rw (w.block-is, w.next-is) (walk_follow _ _ _ _ _ _ _ _ _ W (omega arith) c.requires.1 (sym named ∙ w.if-from-x.true) w.from-l.result w.from-l.ensures w.if-l-p.false)
      | else-from-x w ↦ rw (w.block-is, w.next-is) (walk_skip _ _ _ _ _ _ _ _ _ W (omega arith) (λ e. w.if-from-x.false (named ∙ e)))
    ]

pub returns : goal.returns
returns c = walk_all _ _ _ _ _ _ _ _ _ c.loop-p.invariant (omega arith) _ (omega arith)
