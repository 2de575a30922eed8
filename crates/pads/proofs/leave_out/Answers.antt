-- After j cells the first pins of the pad buffers among them have no input's number, and every other pin its net's source.
use native.Mathlib.Omega.{arith}
use Rattle.pads.proofs.Laws.{first_low, left_all}
use Rattle.pads.proofs.leave_out.Goals as goal

pub bounds-table-from : goal.bounds-table-from
bounds-table-from c =
    let l = c.loop-j in
    omega (arith, l.invariant.long, c.requires.sorted.first_pins l.j (omega arith), first_low _ c.requires.sorted.limits l.j c.loop-j-test.true)

pub returns : goal.returns
returns c = let l = c.loop-j in left_all _ l.j l.table (omega arith) l.invariant
