-- After p pins each branch among them has its place in the rows of the outputs of its word that are in outs, and no other entry has changed.
use mathlib.Core.Path.{refl}
use native.Mathlib.Omega.{arith}
use Rattle.spots.proofs.Changing.{level_yes, level_no}
use Rattle.spots.proofs.put_level.Goals as goal
use Rattle.spots.proofs.put_level.Goals.{else-x-i, then-x-i}

pub loop-p-preserved : goal.loop-p-preserved
loop-p-preserved c =
    let l = c.loop-p in
    elim c.if-x-i.branch [ then-x-i w ↦ (rw w.spots-is (level_yes _ _ _ _ _ _ _ _ l.p _ _ _ _ _ _ (omega (arith, c.from-x.ensures, w.if-x-i.true)) refl w.from.ensures (omega (arith, c.from-x.ensures)) w.put_outputs.ensures l.invariant)) | else-x-i w ↦ (rw w.spots-is (level_no _ _ _ _ _ _ _ _ l.p _ _ (omega (arith, c.from-x.ensures, w.if-x-i.false)) l.invariant)) ]
