-- After z outputs the blocks of those among them that are in the word are listed, and no other entry has changed.
use mathlib.Core.Path.{sym, ◌∙◌}
use Rattle.spots.proofs.Changing.{list_yes, list_no}
use Rattle.spots.proofs.list_blocks.Goals as goal
use Rattle.spots.proofs.list_blocks.Goals.{else-has_bit, then-has_bit}

pub loop-z-preserved : goal.loop-z-preserved
loop-z-preserved c =
    let l = c.loop-z in
    elim c.if-has_bit.branch [ then-has_bit w ↦ (rw w.lists-is (list_yes _ _ _ l.z _ _ _ (sym c.has_bit.ensures ∙ w.if-has_bit.true) w.list_row.ensures l.invariant)) | else-has_bit w ↦ (rw w.lists-is (list_no _ _ _ l.z _ _ (sym c.has_bit.ensures ∙ w.if-has_bit.false) l.invariant)) ]
