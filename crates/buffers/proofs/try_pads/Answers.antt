-- After j cells the faults of the pad buffers among them went on, and a cell that is none is passed over.
use native.Mathlib.Omega.{arith}
use Rattle.buffers.proofs.Faults.{pads_more, pads_skip}
use Rattle.buffers.proofs.try_pads.Goals as goal
use Rattle.buffers.proofs.try_pads.Goals.{then-from-i, else-from-i}

pub loop-j-preserved : goal.loop-j-preserved
loop-j-preserved c =
    let a = c.args in
    let T = c.requires.tables in
    let l = c.loop-j in
    elim c.if-from-i.branch [
      | then-from-i w ↦ rw (w.vals-is, w.known-is) (omega arith, w.try_pad.ensures.vals_after, pads_more _ _ _ _ _ _ _ _ _ _ _ _ _ _ _ _ T a.chip.sources.now _ _ _ _ _ _ l.j l.invariant.2 _ _ _ (omega arith) (omega (arith, c.from.ensures, w.if-from-i.true)) w.try_pad.ensures.went)
      | else-from-i w ↦ rw (w.vals-is, w.known-is) (omega arith, l.invariant.1, pads_skip _ _ _ _ _ _ _ _ _ _ _ _ _ _ _ _ T a.chip.sources.now _ _ _ _ _ _ l.j l.invariant.2 (omega (arith, c.from.ensures, w.if-from-i.false)))
    ]
