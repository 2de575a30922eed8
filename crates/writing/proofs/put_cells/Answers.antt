-- After j cells p is the first pin of cell j and the bytes stored are the pieces of those cells, after their number.
use Prim.Native.Nat.{suc, ◌+◌, ◌≤◌}
use mathlib.Core.Path.{refl}
use native.Mathlib.Numerals.{add-one}
use native.Mathlib.Omega.{arith}
use lib.ListN.{get_or}
use Rattle.chip.specs.Netlist.{sum_below}
use Rattle.chip.proofs.Basics.{sum_up}
use Rattle.chip.specs.File.{cells_file}
use Rattle.chip.specs.Inner.Tables.{tabled}
use Rattle.writing.proofs.Lengths.{cell_file, cells_long}
use Rattle.writing.proofs.Puts.{put_more, put_length}
use Rattle.writing.proofs.put_cells.Goals as goal
use Rattle.writing.proofs.put_cells.Goals.{In-loop-j}

-- the pins of cell j are within the limit
pins_fit : (c : In-loop-j) → c.loop-j.p + get_or c.args.counts.now c.loop-j.j 0 ≤ sum_below (λ k. get_or c.args.counts.now k 0) c.args.c
pins_fit c =
    let l = c.loop-j in
    let a = c.args in
    let up = sum_up (λ k. get_or a.counts.now k 0) (suc l.j) a.c c.loop-j-test.true in
    omega (arith, l.invariant.0)

pub put_cell-at-requires : goal.put_cell-at-requires
put_cell-at-requires c =
    let l = c.loop-j in
    let N = tabled 0 c.args.c 0 c.args.kinds.now c.args.counts.now c.args.nets.now in
    let w = c.put_word-at.ensures in
    let up = pins_fit (goal.at.put_cell-at-requires c).In-loop-j in (
      omega (arith, c.requires.c_bound.1),
      omega (arith, l.invariant.0, (l.invariant.1 0 0).next, cells_long N l.j, w.next, put_length (l.invariant.1 0 0), put_length w, c.requires.c_in_bounds),
    )

pub overflow_add-p : goal.overflow_add-p
overflow_add-p c = omega (arith, pins_fit (goal.at.overflow_add-p c).In-loop-j, c.from-p.ensures, c.requires.c_bound.1)

pub loop-j-preserved : goal.loop-j-preserved
loop-j-preserved c =
    let a = c.args in
    let l = c.loop-j in (
      rw add-one (omega (arith, l.invariant.0, c.from-p.ensures)),
      λ i o.
          let N = tabled i a.c o a.kinds.now a.counts.now a.nets.now in
          put_more (cells_file N) (cell_file N) (λ n. refl) (l.invariant.1 i o) (rw l.invariant.0 at (c.put_cell-at.ensures i a.c o a.kinds.now a.counts.now)),
    )
