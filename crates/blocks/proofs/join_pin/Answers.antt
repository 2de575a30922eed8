-- At each output of the word the pin meets the pins that reached it before, and at the others there is nothing to join.
use mathlib.Core.Path.{sym, ◌∙◌}
use native.Mathlib.Omega.{arith}
use Rattle.blocks.proofs.Meeting.{pin_joined_hit, pin_joined_miss, pin_joined_all}
use Rattle.blocks.proofs.join_pin.Goals as goal
use Rattle.blocks.proofs.join_pin.Goals.{else-has_bit, then-has_bit}

pub loop-z-preserved : goal.loop-z-preserved
loop-z-preserved c =
    let J = c.loop-z.invariant in
    elim c.if-has_bit.branch [
      | then-has_bit w ↦ rw (w.owners-is, w.low-is) (pin_joined_hit _ _ _ _ _ _ _ _ _ J _ _ (omega arith) (sym c.has_bit.ensures ∙ w.if-has_bit.true) w.meet.ensures)
      | else-has_bit w ↦ rw (w.owners-is, w.low-is) (pin_joined_miss _ _ _ _ _ _ _ _ _ J (omega arith) (sym c.has_bit.ensures ∙ w.if-has_bit.false))
    ]

pub returns : goal.returns
returns c = pin_joined_all _ _ _ _ _ _ _ _ _ c.loop-z.invariant (omega arith)
