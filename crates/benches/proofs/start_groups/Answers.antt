-- After t places each has the word of its cell: 0 for a pad buffer, else one that covers all that is left to the cell's faults.
use native.Mathlib.Omega.{arith}
use Rattle.benches.proofs.Tables.{pins_few}
use Rattle.benches.proofs.start_groups.Goals as goal

pub open_of-requires-clause-j_bound : goal.open_of-requires-clause-j_bound
open_of-requires-clause-j_bound c =
    let l = c.loop-t in
    let (o, kinds, nets, L, F, O, S) = c.requires.by_index in
    let h = O.cell l.t (omega arith) in rw c.from.ensures (pins_few c.args.opened.now.sizes.inputs c.args.opened.now.sizes.cells o kinds c.args.opened.now.counts c.args.opened.now.firsts nets L F _ h)
