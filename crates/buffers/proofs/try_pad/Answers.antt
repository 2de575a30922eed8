-- After e of the four faults those went on, and the good words stand again after each.
use Prim.Native.Nat.{◌+◌}
use mathlib.Core.Path.{◌≡◌}
use mathlib.Core.Logic.{⊎_elim}
use native.Mathlib.Omega.{arith}
use Rattle.buffers.proofs.Slots.{pin_low}
use Rattle.buffers.proofs.Faults.{site_of, site_more, site_all}
use Rattle.buffers.proofs.try_pad.Goals as goal

pub bounds-chip-j : goal.bounds-chip-j
bounds-chip-j c =
    let T = c.requires.tables in
    let (t, at) = T.ordered.placed _ c.requires.j_lt_cells in
    omega (arith, at, T.chip.2.first _ t)

pub number-requires : goal.number-requires
number-requires c =
    let T = c.requires.tables in
    let l = c.requires.j_lt_cells in
    (omega arith, omega (arith, l, T.limits.few_inputs, T.limits.few_cells), omega (arith, c.from.ensures, pin_low T _ l, T.pins, T.limits.few_inputs, T.limits.few_cells, T.limits.few_pins))

pub try_fault-requires-clause-f_bound : goal.try_fault-requires-clause-f_bound
try_fault-requires-clause-f_bound c =
    let l = c.requires.j_lt_cells in
    ⊎_elim (λ a. omega (arith, c.number.ensures, a, l)) (λ a. omega (arith, c.number.ensures, a, c.from.ensures, pin_low c.requires.tables _ l))
    (site_of c.loop-e.e (c.args.chip.sizes.inputs + c.args.j) (c.args.chip.sizes.inputs + c.args.chip.sizes.cells + c.from.result) (omega arith))

pub loop-e-preserved : goal.loop-e-preserved
loop-e-preserved c = (omega arith, c.try_fault.ensures.vals_after, site_more _ _ _ _ _ _ _ _ _ _ _ _ _ _ _ _ c.requires.tables _ _ (omega (arith, c.requires.j_lt_cells)) _ _ _ _ _ _ _ _ _ _ _ c.number.ensures c.loop-e.invariant.2 c.try_fault.ensures.went)

pub returns-clause-went : goal.returns-clause-went
returns-clause-went c =
    let e : c.loop-e.e ≡ 4 = omega arith in
    rw c.from.ensures at (site_all _ _ _ _ _ _ _ _ _ _ _ _ _ _ _ _ c.requires.tables _ _ _ _ _ _ _ _ (rw e at c.loop-e.invariant.2))
