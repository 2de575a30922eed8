-- `structure::lowest_uneven` keeps its contract: the lowest conflict of the depths passed is known, and at the end no branch reaches an output any deeper.
use Prim.Native.Nat.{ℕ}
use native.Mathlib.Omega.{arith}
use lib.ListN.{replicate}
use Rattle.order.specs.Sorted.{netlist_in}
use Rattle.chip.proofs.Basics.{zero_at}
use Rattle.chip.proofs.Plain.{within_branches}
use Rattle.levels.proofs.Masks.{first_before}
use Rattle.order.proofs.Order.{ranked_of}
use Rattle.structure.proofs.Evenness.{evening_start, evening_more, evening_done}
use Rattle.structure.proofs.lowest_uneven.Goals as goal

pub loop-e-init : goal.loop-e-init
loop-e-init c =
    let a = c.args in
    let first = first_before (netlist_in a.cells) (replicate {A = ℕ} 1088 0) (λ n _. zero_at 1088 n) in
    evening_start _ _ c.requires.one_input _ _ first c.requires.by_index

pub uneven_at-lowest-requires : goal.uneven_at-lowest-requires
uneven_at-lowest-requires c =
    let P = c.requires in
    (P.in_order.sorted.limits.few_inputs, omega (arith, P.in_order.sorted.limits.few_pins, P.in_order.branched.pins), P.few_labels)

pub overflow_add-i : goal.overflow_add-i
overflow_add-i c = let L = c.requires.in_order.sorted.limits in omega (arith, L.few_inputs, L.few_cells)

pub keep-requires : goal.keep-requires
keep-requires c = let L = c.requires.in_order.sorted.limits in omega (arith, L.few_inputs, L.few_cells)

pub loop-e-preserved : goal.loop-e-preserved
loop-e-preserved c =
    let P = c.requires in
    let T = P.in_order in
    let masks = c.level.ensures in
    let seen = c.uneven_at-lowest.ensures _ c.loop-e.e _ T.sorted.limits T.sorted.ordered T.branched masks c.loop-e.invariant.seen_masks in
    evening_more _ _ P.one_input _ _ _ _ _ _ _ c.loop-e.invariant (λ n h. rw (c.keep.ensures n h) (masks.nets n h)) seen.lowest seen.seen_now

pub returns : goal.returns
returns c =
    let P = c.requires in
    evening_done _ _ P.one_input _ c.loop-e.e _ _ _ ((within_branches _ P.in_order.sorted.limits.sound (ranked_of P.in_order.sorted.ordered) _).0 P.d_bound.1) (omega arith) c.loop-e.invariant
