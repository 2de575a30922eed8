-- After k steps back the cells passed are marked and no other place is, in every netlist that has these nets and first pins.
use Prim.Native.Nat.{ℕ, ◌+◌, ◌-◌, ◌≤◌, ◌<◌}
use mathlib.Core.Path.{◌≡◌, refl, ap, ◌∙◌}
use mathlib.Core.List.{List}
use native.Mathlib.Omega.{arith}
use lib.ListN.{length, get_or}
use Rattle.chip.specs.Netlist.{Netlist, first_pin}
use Rattle.chip.specs.Inner.Tables.{tabled, FirstPins}
use Rattle.chip.proofs.Basics.{pin_in, first_pin_lem}
use Rattle.copies.proofs.Marks.{walk_on, walk_end, walk_done, way_named}
use Rattle.copies.proofs.mark_way.Goals as goal
use Rattle.copies.proofs.mark_way.Goals.{After-from, Else-net-z, Start}

abbrev net_of : Start → ℕ → List ℕ → List ℕ → Netlist
net_of s o kinds counts = tabled s.args.z.inputs s.args.z.cells o kinds counts s.args.nets.now

-- some netlist has the tables
abbrev some_net : Start → Netlist
some_net s = net_of s s.requires.by_index.0 s.requires.by_index.1 s.requires.by_index.2

few : (s : Start) → (s.args.z.inputs ≤ 64) × (s.args.z.cells ≤ 1024)
few s = let W = s.requires.by_index.3 in (W.limits.few_inputs, W.limits.few_cells)

-- the cell that is marked
cell_low : (c : Else-net-z) → c.loop.net - c.args.z.inputs < c.args.z.cells
cell_low c =
    let l = c.loop in
    let W = c.requires.by_index.3 in
    omega (arith, way_named (some_net (goal.at.Else-net-z c).Start) W.limits W.loop_free c.args.p c.args.base W.pin W.input l.counter, (l.invariant c.requires.by_index.0 c.requires.by_index.1 c.requires.by_index.2 W).is, c.if-net-z.false)

room : (c : Else-net-z) → c.args.base + (c.loop.net - c.args.z.inputs) < length c.loop.marks
room c = omega (arith, cell_low c, c.requires.c_in_bounds.0)

pub overflow_add-marks : goal.overflow_add-marks
overflow_add-marks c = omega (arith, room (goal.at.overflow_add-marks c).Else-net-z, c.requires.c_in_bounds.1)

pub bounds-marks-base : goal.bounds-marks-base
bounds-marks-base c = room (goal.at.bounds-marks-base c).Else-net-z

pub offset_bounds-firsts-j : goal.offset_bounds-firsts-j
offset_bounds-firsts-j c = omega (arith, cell_low (goal.at.offset_bounds-firsts-j c).Else-net-z, few (goal.at.offset_bounds-firsts-j c).Start)

pub bounds-firsts-j : goal.bounds-firsts-j
bounds-firsts-j c = omega (arith, cell_low (goal.at.bounds-firsts-j c).Else-net-z, few (goal.at.bounds-firsts-j c).Start)

-- its pin
first_is : (b : After-from) (N : Netlist) → N.cells ≡ b.args.z.cells
    → FirstPins N b.args.firsts.now
    → b.from.result ≡ first_pin N (b.loop.net - b.args.z.inputs)
first_is b N e F =
    b.from.ensures ∙ F (b.loop.net - b.args.z.inputs) (omega (arith, cell_low (goal.at.After-from b).Else-net-z))

first_low : (b : After-from) → b.from.result < 4096
first_low b =
    let N = some_net (goal.at.After-from b).Start in
    let W = b.requires.by_index.3 in
    let j = b.loop.net - b.args.z.inputs in
    omega (arith, first_is b N refl W.first_pins, W.limits.few_pins, pin_in N j (first_pin N j) (first_pin_lem N W.limits.sound j (cell_low (goal.at.After-from b).Else-net-z)))

pub bounds-nets-from : goal.bounds-nets-from
bounds-nets-from c = first_low (goal.at.bounds-nets-from c).After-from

pub loop-preserved : goal.loop-preserved
loop-preserved c =
    let l = c.loop in
    let j = l.net - c.args.z.inputs in
    λ o kinds counts W.
    let N = net_of (goal.at.loop-preserved c).Start o kinds counts in
    let n : c.from-net-in-loop.result ≡ N.net (first_pin N j) = c.from-net-in-loop.ensures ∙ ap (λ q. get_or c.args.nets.now q 0) (first_is (goal.at.loop-preserved c).After-from N refl W.first_pins) in
    rw n (walk_on N W.limits W.loop_free c.args.p c.args.base W.pin W.input l.counter c.args.marks.now l.marks l.net (l.invariant o kinds counts W) j (omega (arith, c.if-net-z.false)) (room (goal.at.loop-preserved c).Else-net-z))

pub returns-then-net-z : goal.returns-then-net-z
returns-then-net-z c o kinds counts W =
    let l = c.loop in
    walk_end (net_of (goal.at.returns-then-net-z c).Start o kinds counts) W.limits W.loop_free c.args.p c.args.base W.pin W.input l.counter c.args.marks.now l.marks l.net (l.invariant o kinds counts W) c.if-net-z.true (omega arith)

pub returns : goal.returns
returns c o kinds counts W =
    let l = c.loop in
    walk_done (net_of (goal.at.returns c).Start o kinds counts) c.args.p c.args.base l.counter c.args.marks.now l.marks l.net (omega arith) (l.invariant o kinds counts W)
