-- Each pin passed is joined to the pins before it that reach an output of its word, and one that is no branch or reaches none has nothing to join.
use mathlib.Core.Path.{sym}
use native.Mathlib.Omega.{arith}
use Rattle.blocks.proofs.Meeting.{level_none, level_pin, level_still, level_inner, level_all}
use Rattle.blocks.proofs.join_level.Goals as goal
use Rattle.blocks.proofs.join_level.Goals.{then-x-i+then-word-ne0, else-x-i, else-x-i-via-then-x-i+else-word-ne0, else-x-i-via-else-x-i}

pub loop-p-init : goal.loop-p-init
loop-p-init c = level_none _ _ _ _ _ _

pub loop-p-preserved : goal.loop-p-preserved
loop-p-preserved c =
    let l = c.loop-p in
    let named = c.from-x.ensures in
    elim c.if-x-i.branch [
      | then-x-i+then-word-ne0 w ↦ rw (w.low-is, w.owners-is) (level_pin _ _ _ _ _ _ _ _ _ l.invariant (omega arith) _ _ _ (sym named) w.if-x-i.true w.join_pin.ensures)
      | else-x-i w ↦ rw (w.low-is, w.owners-is)
          (elim w.else-x-i.branch [
            | else-x-i-via-then-x-i+else-word-ne0 v ↦ level_still _ _ _ _ _ _ _ _ _ l.invariant (omega arith) v.if-word-ne0.false
            | else-x-i-via-else-x-i v ↦ level_inner _ _ _ _ _ _ _ _ _ l.invariant (omega arith) (λ h. omega (arith, v.if-x-i.false, named))
          ])
    ]

pub returns : goal.returns
returns c = level_all _ _ _ _ _ _ _ _ _ c.loop-p.invariant (omega arith)
