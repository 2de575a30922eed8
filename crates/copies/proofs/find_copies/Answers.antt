-- The lowest blocks tell which marks are made, these are the copies, and the marks before a place are the number of its copy.
use Prim.Native.Nat.{ℕ, ◌<◌}
use mathlib.Core.Path.{refl}
use mathlib.Core.List.{List}
use native.Mathlib.Omega.{arith}
use lib.ListN.{get_or}
use Rattle.chip.specs.Netlist.{Netlist, all_pins}
use Rattle.chip.specs.Inner.Tables.{tabled}
use Rattle.chip.specs.Pads.{some, branch_of}
use Rattle.chip.specs.Class.{blocks}
use Rattle.chip.proofs.Bools.{bit_low}
use Rattle.chip.proofs.Blocks.{counted}
use Rattle.copies.specs.Inner.Marks.{flat_way, Ways, LowestBlocks}
use Rattle.copies.proofs.Counts.{found_copies}
use Rattle.copies.proofs.find_copies.Goals as goal
use Rattle.copies.proofs.find_copies.Goals.{Start}

abbrev net_of : Start → ℕ → List ℕ → List ℕ → Netlist
net_of s o kinds counts = tabled s.args.z.inputs s.args.z.cells o kinds counts s.args.nets.now

-- blocks of branches are among the 64
block_low : {N : Netlist} {n : ℕ} {firsts branches block : List ℕ} → Ways N n firsts branches → LowestBlocks N block → (p : ℕ) → p < n → branch_of N p < N.inputs → get_or block p 0 < 64
block_low {N} W F p h i =
    let l : p < all_pins N = omega (arith, W.pins) in
    omega (arith, F.table (branch_of N p) p (record { pin = l; names = refl; input = i }), (counted N F.low F.lowest).in_block p l i, F.few)

pub mark_copies-requires : goal.mark_copies-requires
mark_copies-requires c =
    let (o, kinds, counts, W, F) = c.requires.by_index in
    record { by_index = (o, kinds, counts, W, block_low W F); marks_len = (c.requires.none_yet.marks_long, c.requires.none_yet.unmarked) }

pub number_copies-found-requires : goal.number_copies-found-requires
number_copies-found-requires c =
    let (o, kinds, counts, W, F) = c.requires.by_index in
    let N = net_of (goal.at.number_copies-found-requires c).Start o kinds counts in
    let L = c.lowest_blocks.ensures N F.low refl W.pins W.branch_table F.lowest F.table in
    let K = c.mark_copies.ensures o kinds counts F.low W F.table L in
    (omega (arith, c.requires.b_bound), K.long, c.requires.none_yet.numbers_long, λ l. rw (K.at l) (bit_low (some (flat_way N (blocks N F.low) l) c.args.z.pins)))

pub returns : goal.returns
returns c =
    let long = c.number_copies-found.ensures.numbers_len in
    let (few, e, h) = c.number_copies-found.ensures.upper_bound in record {
      upper_bound = omega (arith, few, c.requires.b_bound);
      by_index_3 = λ o kinds counts low W L D.
          let N = net_of (goal.at.returns c).Start o kinds counts in
          let F = c.lowest_blocks.ensures N low refl W.pins W.branch_table L D.block_is in
          let K = c.mark_copies.ensures o kinds counts low W D.block_is F in
          found_copies N W.limits W.loop_free low L c.args.b c.args.block.now _ D F (rw W.pins at K) long e h;
    }
