-- The first p places that reach an output of u obey their rules, and no cell looks at a later one, so a new word spoils none.
use Rattle.events.proofs.Running.{worked_skip, worked_more}
use native.Mathlib.Omega.{arith}
use Rattle.events.proofs.good_cells.Goals as goal
use Rattle.events.proofs.good_cells.Goals.{else-chip-p-ne0, then-chip-p-ne0}

pub loop-p-preserved : goal.loop-p-preserved
loop-p-preserved c = let C = c.requires.by_index.2 in let l = c.loop-p in elim c.if-chip-p-ne0.branch [ then-chip-p-ne0 x ↦ (omega arith, rw x.goods-is (worked_more _ _ _ _ _ _ _ _ _ C _ _ l.goods _ _ _ l.p _ (omega arith) x.from-j.ensures x.cell_row.ensures x.store.ensures l.invariant.1)) | else-chip-p-ne0 x ↦ (omega arith, rw x.goods-is (worked_skip _ _ _ _ _ _ _ _ _ C _ _ l.goods l.p x.if-chip-p-ne0.false l.invariant.1)) ]
