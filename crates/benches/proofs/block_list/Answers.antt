-- w counts the blocks below k that reach output z, so block k goes to entry w, and the tally of all b keeps w below 16.
use mathlib.Core.Path.{◌≡◌, sym, ◌∙◌}
use mathlib.Core.Bool.{true, false}
use native.Mathlib.Omega.{arith}
use Rattle.chip.proofs.Blocks.{tally_most, tally_past}
use Rattle.slots.specs.Slots.{rel_of}
use Rattle.walk.proofs.Widths.{tally_yes, tally_no}
use Rattle.benches.proofs.Tables.{list_more, list_skip}
use Rattle.benches.proofs.block_list.Goals as goal
use Rattle.benches.proofs.block_list.Goals.{else-has_bit, then-has_bit}

pub offset_bounds-list-w : goal.offset_bounds-list-w
offset_bounds-list-w c = omega (arith, c.loop-k.invariant.1, tally_most (rel_of c.args.reached.now c.args.z) c.loop-k.k)

pub bounds-list-w : goal.bounds-list-w
bounds-list-w c =
    let l = c.loop-k in
    let e : rel_of c.args.reached.now c.args.z l.k ≡ true = sym c.has_bit.ensures ∙ c.if-has_bit.true in
    omega (arith, l.invariant.1, l.invariant.2.long, c.requires.2, tally_past (rel_of c.args.reached.now c.args.z) l.k c.args.b (omega arith) e)

pub overflow_add-w : goal.overflow_add-w
overflow_add-w c = omega (arith, c.loop-k.invariant.1, tally_most (rel_of c.args.reached.now c.args.z) c.loop-k.k)

pub loop-k-preserved : goal.loop-k-preserved
loop-k-preserved c =
    let l = c.loop-k in
    let rel = rel_of c.args.reached.now c.args.z in
    let e : c.has_bit.result ≡ rel l.k = c.has_bit.ensures in
    elim c.if-has_bit.branch [
      | then-has_bit x ↦ let r : rel l.k ≡ true = sym e ∙ x.if-has_bit.true in
          (omega arith, rw x.w-is (tally_yes rel l.w l.k l.invariant.1 r), rw x.list-is (list_more l.k l.w rel l.list l.invariant.1 l.invariant.2 (omega (arith, l.invariant.1, c.requires.2, tally_past rel l.k c.args.b (omega arith) r)) r))
      | else-has_bit x ↦ let r : rel l.k ≡ false = sym e ∙ x.if-has_bit.false in
          (omega arith, rw x.w-is (tally_no rel l.w l.k l.invariant.1 r), rw x.list-is (list_skip l.k l.w rel l.list l.invariant.1 l.invariant.2 r))
    ]
