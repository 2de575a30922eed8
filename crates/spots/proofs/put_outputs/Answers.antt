-- The outputs below z that are in the word have the place, and a word without bits marks none.
use mathlib.Core.Path.{sym, ◌∙◌}
use Rattle.spots.proofs.Changing.{pin_zero, pin_yes, pin_no}
use Rattle.spots.proofs.put_outputs.Goals as goal
use Rattle.spots.proofs.put_outputs.Goals.{else-has_bit, then-has_bit}

pub returns-then-word-eq0 : goal.returns-then-word-eq0
returns-then-word-eq0 c = pin_zero _ _ _ _ _ _ c.if-word-eq0.true

pub loop-z-preserved : goal.loop-z-preserved
loop-z-preserved c =
    let l = c.loop-z in
    elim c.if-has_bit.branch [ then-has_bit w ↦ (rw w.spots-is (pin_yes _ _ _ _ l.z _ _ _ (sym c.has_bit.ensures ∙ w.if-has_bit.true) w.put_spot.ensures l.invariant)) | else-has_bit w ↦ (rw w.spots-is (pin_no _ _ _ _ l.z _ _ (sym c.has_bit.ensures ∙ w.if-has_bit.false) l.invariant)) ]
