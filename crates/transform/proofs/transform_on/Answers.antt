-- The four tests are the guards 17, 2, 7 and 15 in their order, and behind them the copies fit and the file has that length.
use Prim.Native.Nat.{◌≤◌}
use native.Mathlib.Omega.{arith}
use mathlib.Core.Path.{refl}
use Rattle.chip.specs.Refusals.{prepared, refuses, goes_on}
use Rattle.copies.specs.Inner.Marks.{Ways, CopiesOf, LowestBlocks}
use Rattle.opening.specs.Open.{netlist_of, IsOpen}
use Rattle.opening.specs.declared.Chip.{Chip}
use Rattle.transform.specs.Inner.New.{blocks_in, Copied}
use Rattle.transform.proofs.Answers.{writable_on, writes_on}
use Rattle.transform.proofs.Filled.{totalled, fits, circuit_long}
use Rattle.transform.proofs.transform_on.Goals as goal
use Rattle.transform.proofs.transform_on.Goals.{After-find_copies, Else-pins-gt4096}

-- what the copies are found from
ways_of : {t : Chip} → IsOpen t → Ways (netlist_of t) t.sizes.pins t.firsts t.branches
ways_of h =
    let S = h.ready.shaped in
    record { limits = h.ready.limits; loop_free = S.prepared.loop_free; first_pins = S.first_pins; branch_table = S.branch_table; pins = h.ready.pins }

lowest_of : {t : Chip} → IsOpen t → t.shape.blocks ≤ 64 → LowestBlocks (netlist_of t) t.block
lowest_of h few = let S = h.ready.shaped in record { low = S.low; lowest = S.prepared.lowest; table = S.block_table; few = omega (arith, few, S.count) }

copies_of : (c : After-find_copies) → CopiesOf (netlist_of c.args.opened.now) (blocks_in c.requires) c.find_copies.new.found
copies_of c =
    let t = c.args.opened.now in
    let S = c.requires.ready.shaped in
    c.find_copies.ensures.by_index_3 t.sizes.outputs t.kinds t.counts S.low (ways_of c.requires) S.prepared.lowest (record { count_is = S.count; block_is = S.block_table })

pub returns-then-b-gt64 : goal.returns-then-b-gt64
returns-then-b-gt64 c =
    let S = c.requires.ready.shaped in
    rw c.at.ensures (prepared S.prepared (refuses (record { there = S.count; holds = omega (arith, c.if-b-gt64.true, S.count) })))

pub find_copies-requires : goal.find_copies-requires
find_copies-requires c =
    let t = c.args.opened.now in
    let few : t.shape.blocks ≤ 64 = omega (arith, c.if-b-gt64.false) in
    record { by_index = (t.sizes.outputs, t.kinds, t.counts, ways_of c.requires, lowest_of c.requires few); b_bound = few; none_yet = c.none-found.ensures }

pub returns-then-cells-gt1024 : goal.returns-then-cells-gt1024
returns-then-cells-gt1024 c =
    let S = c.requires.ready.shaped in
    let C = copies_of (goal.at.returns-then-cells-gt1024 c).After-find_copies in
    rw c.at-then-cells-gt1024.ensures (prepared S.prepared
    (goes_on (λ p w. omega (arith, c.if-b-gt64.false, S.count, w.holds)) (refuses (record { there = refl; holds = omega (arith, C.count_is, c.if-cells-gt1024.true) }))))

pub returns-then-pins-gt4096 : goal.returns-then-pins-gt4096
returns-then-pins-gt4096 c =
    let S = c.requires.ready.shaped in
    let C = copies_of (goal.at.returns-then-pins-gt4096 c).After-find_copies in
    rw c.at-then-pins-gt4096.ensures (prepared S.prepared
    (goes_on (λ p w. omega (arith, c.if-b-gt64.false, S.count, w.holds))
    (goes_on (λ p w. omega (arith, C.count_is, c.if-cells-gt1024.false, w.holds)) (refuses (record { there = refl; holds = omega (arith, C.count_is, c.if-pins-gt4096.true, c.requires.ready.pins) })))))

-- one file can hold the chip with its copies
abbrev held : (c : Else-pins-gt4096) → Copied c.args.opened.now c.find_copies.new.found
held c = record {
  is_open = c.requires;
  copies_are = copies_of (goal.at.Else-pins-gt4096 c).After-find_copies;
  few_blocks = omega (arith, c.if-b-gt64.false);
  few_cells = omega (arith, c.if-cells-gt1024.false);
  few_pins = omega (arith, c.if-pins-gt4096.false);
}

pub returns-then-out-length : goal.returns-then-out-length
returns-then-out-length c =
    let K = held (goal.at.returns-then-out-length c).Else-pins-gt4096 in
    rw c.at-then-out-length.ensures (prepared c.requires.ready.shaped.prepared
    (writable_on _ _ _ (fits (totalled K)) (refuses (record { there = circuit_long (totalled K); holds = omega (arith, circuit_long (totalled K), c.if-out-length.true) }))))

pub put_tables-requires : goal.put_tables-requires
put_tables-requires c = record { copied = held (goal.at.put_tables-requires c).Else-pins-gt4096; room = omega (arith, c.if-out-length.false) }

pub returns : goal.returns
returns c =
    let K = held (goal.at.returns c).Else-pins-gt4096 in
    prepared c.requires.ready.shaped.prepared (rw (circuit_long (totalled K)) (writes_on _ _ _ (fits (totalled K)) (c.put_tables.ensures K)))
