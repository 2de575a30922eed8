-- After x inputs each of them has its lowest block, and the number after its last block is the lowest of the next input.
use Prim.Native.Nat.{◌≤◌, ◌<◌}
use mathlib.Core.Path.{◌≡◌, refl, sym, ◌∙◌}
use native.Mathlib.Omega.{arith}
use lib.ListN.{length}
use Rattle.chip.specs.Netlist.{all_pins}
use Rattle.chip.proofs.Blocks.{counted}
use Rattle.chip.specs.Pads.{branch_of}
use Rattle.copies.proofs.Firsts.{firsts_start, firsts_more, first_small, next_is}
use Rattle.copies.proofs.lowest_blocks.Goals as goal
use Rattle.copies.proofs.lowest_blocks.Goals.{In-loop-x, Start}

few_inputs : (s : Start) → s.args.z.inputs ≤ 64
few_inputs s = let (_, i, _, L, _, _) = s.requires.value in omega (arith, i, L.few_inputs)

-- the block that comes next is one of 64
at_low : (c : In-loop-x) → c.loop-x.at ≤ 64
at_low c =
    let l = c.loop-x in
    let (N, i, e, _, T, F) = c.requires.value in
    omega (arith, (l.invariant N F.low i e T F.lowest F.table).is, first_small N F.low l.x (omega (arith, i)), F.few)

pub loop-x-init : goal.loop-x-init
loop-x-init c N low i e T W t = firsts_start N low c.args.table.now

pub overflow_cast-table : goal.overflow_cast-table
overflow_cast-table c = omega (arith, at_low (goal.at.overflow_cast-table c).In-loop-x)

pub next_block-at-requires : goal.next_block-at-requires
next_block-at-requires c =
    let (N, i, e, L, T, F) = c.requires.value in
    let K = counted N F.low F.lowest in (
      omega (arith, e, L.few_pins),
      at_low (goal.at.next_block-at-requires c).In-loop-x,
      λ p h b.
          let l : p < all_pins N = omega (arith, h, e) in
          let q : branch_of N p ≡ c.loop-x.x = sym (T p l) ∙ b in
          let j : branch_of N p < N.inputs = omega (arith, q, c.loop-x-test.true, i) in
          omega (arith, F.table (branch_of N p) p (record { pin = l; names = refl; input = j }), K.in_block p l j, F.few),
    )

pub loop-x-preserved : goal.loop-x-preserved
loop-x-preserved c =
    let l = c.loop-x in
    let t = c.loop-x-test.true in
    let room : l.x < length l.table = omega (arith, t, few_inputs (goal.at.loop-x-preserved c).Start) in
    λ N low i e T W U.
    let K = l.invariant N low i e T W U in
    firsts_more N low l.x l.at c.next_block-at.result l.table K room
    (next_is N low W c.args.branches.now c.args.block.now T U l.x l.at c.args.z.pins c.next_block-at.result (omega (arith, t, i)) e K.is c.next_block-at.ensures)
