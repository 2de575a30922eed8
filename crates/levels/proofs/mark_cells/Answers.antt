-- The cells from place k of the order on are done, so all readers of the next cell's net are, and its mask is complete.
use mathlib.Core.Path.{◌≡◌, sym, ◌∙◌, subst}
use mathlib.Core.Logic.{inl, inr}
use Prim.Native.Nat.{ℕ, suc, ◌-◌, ◌<◌}
use native.Mathlib.Omega.{arith}
use Rattle.order.specs.Sorted.{netlist_in}
use Rattle.levels.specs.Marking.{Done}
use Rattle.levels.proofs.Cells.{From, level_done, cell_done}
use Rattle.levels.proofs.mark_cells.Goals as goal
use Rattle.levels.proofs.mark_cells.Goals.{then-kinds-j-lt8, else-kinds-j-lt8}

pub loop-k-preserved : goal.loop-k-preserved
loop-k-preserved c e L F O B d =
    let l = c.loop-k in
    let a = c.args in
    let N = netlist_in a.cells in
    let y : l.k ≡ suc (l.k - 1) = omega arith in
    let h : l.k - 1 < a.cells.sizes.cells = omega arith in
    cell_done N L a.cells.order.now O e (l.k - 1) c.from-j.result h (sym c.from-j.ensures) a.before.now B
    (subst (λ (k : ℕ). Done N e (From N O.place k) l.pins l.reached) y (l.invariant e L F O B d)) c.if-kinds-j-lt8.word
    c.from-from.result c.from-n.result
    (c.from-from.ensures ∙ F c.from-j.result (omega (arith, c.from-j.ensures, O.cell (l.k - 1) h)))
    c.from-n.ensures
    (elim c.if-kinds-j-lt8.branch [ then-kinds-j-lt8 s ↦ inr (s.if-kinds-j-lt8.true, s.word-is) | else-kinds-j-lt8 s ↦ inl (s.if-kinds-j-lt8.false, s.word-is) ])
    c.mark_cell.ensures.at_pins_lem c.mark_cell.ensures.at_nets

pub returns : goal.returns
returns c e L F O B d = let y : c.loop-k.k ≡ 0 = omega arith in level_done _ L _ O e (rw y at (c.loop-k.invariant e L F O B d))
