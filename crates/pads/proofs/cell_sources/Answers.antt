-- The inputs and the first k cells of the order have their sources, and what feeds the next cell is one of these.
use Prim.Native.Nat.{◌<◌}
use mathlib.Core.Path.{◌≡◌, ◌∙◌}
use native.Mathlib.Omega.{arith}
use lib.ListN.{get_or}
use Rattle.std.proofs.lemmas.List.{get_or-take}
use Rattle.std.proofs.lemmas.Grind.{common_steps}
use Rattle.chip.specs.Netlist.{first_pin}
use Rattle.order.specs.Sorted.{netlist_in}
use Rattle.pads.proofs.Laws.{first_low, feed_low, sourced_more, sourced_all}
use Rattle.pads.proofs.cell_sources.Goals as goal
use Rattle.pads.proofs.cell_sources.Goals.{After-from, After-from-j, After-from-p}

-- the cell is the next one of the order
next : (a : After-from-j) → (a.loop-cell.cell-index < a.args.cells.sizes.cells) × (a.from-j.result ≡ get_or a.args.cells.order.now a.loop-cell.cell-index 0)
next a =
    let l : a.loop-cell.cell-index < a.args.cells.sizes.cells = grind (arith, common_steps) in
    (l, rw (get_or-take a.args.cells.sizes.cells a.args.cells.order.now a.loop-cell.cell-index 0 l) at a.from-j.ensures)

-- its first pin
pin_is : (b : After-from-p) → b.from-p.result ≡ first_pin (netlist_in b.args.cells) b.from-j.result
pin_is b =
    let (l, e) = next (goal.at.After-from-p b).After-from-j in
    b.from-p.ensures ∙ b.requires.sorted.first_pins b.from-j.result (omega (arith, b.requires.sorted.ordered.cell _ l))

-- and the net that feeds it
feed_is : (d : After-from) → d.from.result ≡ get_or d.args.cells.nets.now (first_pin (netlist_in d.args.cells) (get_or d.args.cells.order.now d.loop-cell.cell-index 0)) 0
feed_is d =
    let (l, e) = next (goal.at.After-from d).After-from-j in
    cc (d.from.ensures, pin_is (goal.at.After-from d).After-from-p)

pub bounds-nets-p : goal.bounds-nets-p
bounds-nets-p c =
    let (l, e) = next (goal.at.bounds-nets-p c).After-from-j in
    omega (arith, pin_is (goal.at.bounds-nets-p c).After-from-p, first_low _ c.requires.sorted.limits c.from-j.result (omega (arith, c.requires.sorted.ordered.cell _ l)))

pub bounds-table-from : goal.bounds-table-from
bounds-table-from c =
    let l = c.loop-cell in
    let L = c.requires.sorted.limits in
    let h = (next (goal.at.bounds-table-from c).After-from-j).0 in
    omega (arith, feed_is (goal.at.bounds-table-from c).After-from, feed_low _ L _ c.requires.sorted.ordered l.cell-index l.table l.invariant h, L.few_inputs, L.few_cells, l.invariant.long)

pub overflow_cast-i : goal.overflow_cast-i
overflow_cast-i c =
    let (l, e) = next (goal.at.overflow_cast-i c).After-from-j in
    omega (arith, c.requires.sorted.limits.few_inputs, c.requires.sorted.limits.few_cells, c.requires.sorted.ordered.cell _ l)

pub loop-cell-preserved : goal.loop-cell-preserved
loop-cell-preserved c =
    let l = c.loop-cell in
    let (h, e) = next (goal.at.loop-cell-preserved c).After-from-j in
    rw e (sourced_more _ c.requires.sorted.limits _ c.requires.sorted.ordered l.cell-index l.table l.invariant h c.cell_source.result (cc (c.cell_source.ensures, feed_is (goal.at.loop-cell-preserved c).After-from, e)))

pub returns : goal.returns
returns c = let l = c.loop-cell in sourced_all _ _ c.requires.sorted.ordered l.cell-index l.table (grind (arith, common_steps)) l.invariant
