-- `structure::join_blocks` keeps its contract: the depths passed are joined and their conflicts known, and the first depth that nothing reaches is one more than the depth.
use Prim.Native.Nat.{ℕ, ◌-◌, ◌^◌, ◌<◌}
use mathlib.Core.Path.{refl}
use native.Mathlib.Omega.{arith}
use borrow.Author.Rules.{rules}
use lib.ListN.{replicate}
use Rattle.order.specs.Sorted.{netlist_in}
use Rattle.chip.proofs.Basics.{zero_at}
use Rattle.chip.proofs.Plain.{within_branches}
use Rattle.order.proofs.Order.{ranked_of}
use Rattle.levels.proofs.Masks.{first_before}
use Rattle.blocks.proofs.Labels.{single_labels}
use Rattle.balance.proofs.Inputs.{inputs_conflict, inputs_seen}
use Rattle.structure.proofs.Joining.{joining_start, joining_kept, joining_more, joining_later, joining_depth, joining_deep}
use Rattle.structure.proofs.Evenness.{evening_start, evening_more, evening_done, branches_own}
use Rattle.structure.proofs.join_blocks.Goals as goal
use Rattle.structure.proofs.join_blocks.Goals.{After-deeper-outs, After-keep}

pub loop-before-init : goal.loop-before-init
loop-before-init c =
    let a = c.args in
    let T = c.requires in
    let first = first_before (netlist_in a.cells) (replicate {A = ℕ} 1088 0) (λ n _. zero_at 1088 n) in
    (omega arith, joining_start _ _ _ first (single_labels _ _ c.single_labels.ensures T.sorted.limits.few_pins), evening_start _ _ (branches_own _ a.branches.now T.branched.table) _ _ first (λ l _. zero_at 64 l))

pub deeper-outs-requires : goal.deeper-outs-requires
deeper-outs-requires c = record { in_order = c.requires; masks_before = c.loop-before.invariant.1.before; labels = c.loop-before.invariant.1.labels }

pub overflow_sub-result : goal.overflow_sub-result
overflow_sub-result c = joining_later _ _ _ _ _ _ _ c.loop-before.invariant.1 c.deeper-outs.ensures c.requires.sorted.limits c.if-outs-eq0.true

pub returns-then-outs-eq0 : goal.returns-then-outs-eq0
returns-then-outs-eq0 c =
    let T = c.requires in
    let e = c.loop-before.e in
    let later = joining_later _ _ _ _ _ _ _ c.loop-before.invariant.1 c.deeper-outs.ensures T.sorted.limits c.if-outs-eq0.true in
    let D = joining_depth _ _ _ _ _ _ _ c.loop-before.invariant.1 c.deeper-outs.ensures T.sorted.limits _ T.sorted.ordered c.loop-before.invariant.0 c.if-outs-eq0.true in
    (D, (evening_done _ _ (branches_own _ c.args.branches.now T.branched.table) (e - 1) e _ _ _ ((within_branches _ T.sorted.limits.sound (ranked_of T.sorted.ordered) _).0 D.depth.within) (omega arith) c.loop-before.invariant.2).lowest)

-- the outputs reached are a word
outs_fit : (c : After-deeper-outs) → c.deeper-outs.result < 2 ^ 64
outs_fit c = search rules

pub returns-then-e-eq256 : goal.returns-then-e-eq256
returns-then-e-eq256 c =
    let T = c.requires in
    rw c.at.ensures (refl, joining_deep _ _ _ _ _ _ T.sorted.limits _ T.sorted.ordered (rw c.if-e-eq256.true at c.deeper-outs.ensures) c.if-outs-eq0.false (outs_fit (goal.at.returns-then-e-eq256 c).After-deeper-outs) c.lowest_bit.ensures)

pub meet_inputs-lowest-requires : goal.meet_inputs-lowest-requires
meet_inputs-lowest-requires c = c.requires.sorted.limits.few_inputs

pub overflow_add-i : goal.overflow_add-i
overflow_add-i c = let L = c.requires.sorted.limits in omega (arith, L.few_inputs, L.few_cells)

pub keep-requires : goal.keep-requires
keep-requires c = let L = c.requires.sorted.limits in omega (arith, L.few_inputs, L.few_cells)

-- the loop is left at depth 256
not_last : (c : After-keep) → c.loop-before.e < 256
not_last c = omega (arith, c.loop-before.invariant.0, c.if-e-eq256.false)

pub overflow_add-e : goal.overflow_add-e
overflow_add-e c = omega (arith, not_last (goal.at.overflow_add-e c).After-keep)

pub loop-before-smaller : goal.loop-before-smaller
loop-before-smaller c = omega (arith, not_last (goal.at.loop-before-smaller c).After-keep)

pub loop-before-preserved : goal.loop-before-preserved
loop-before-preserved c =
    let T = c.requires in
    let D = c.deeper-outs.ensures in
    let R = ranked_of T.sorted.ordered in
    let ev = c.loop-before.invariant.2 in
    let met = c.meet_inputs-lowest.ensures in (
      omega (arith, not_last (goal.at.loop-before-preserved c).After-keep),
      joining_kept _ _ _ _ _ (λ n h. c.keep.ensures n h) (joining_more _ _ _ _ _ _ _ c.loop-before.invariant.1 D c.if-outs-eq0.false (outs_fit (goal.at.loop-before-preserved c).After-deeper-outs)),
      evening_more _ _ (branches_own _ c.args.branches.now T.branched.table) _ _ _ _ _ _ _ ev (λ n h. rw (c.keep.ensures n h) (D.next n h))
          (inputs_conflict _ T.sorted.limits.sound R c.loop-before.e c.args.branches.now T.branched.table _ D.next _ ev.seen_masks T.sorted.limits.few_inputs _ _ _ met)
          (inputs_seen _ T.sorted.limits.sound R c.loop-before.e c.args.branches.now T.branched.table _ D.next _ ev.seen_masks T.sorted.limits.few_inputs _ _ _ met),
    )
