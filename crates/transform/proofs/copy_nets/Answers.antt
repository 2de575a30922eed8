-- After l marks the copies passed have their nets, each at its own number, and no pin of an old cell or output is written.
use Prim.Native.Nat.{ℕ, ◌+◌, ◌*◌, ◌/◌, ◌%◌, ◌≤◌, ◌<◌}
use mathlib.Core.Path.{◌≡◌, ap, ◌∙◌}
use mathlib.Core.Logic.{◌⊎◌, inl, inr, ◌≢◌}
use native.Mathlib.Omega.{arith}
use lib.ListN.{get_or}
use lib.Seq.{get_or-set_other}
use Rattle.chip.specs.Netlist.{Netlist, first_pin, out_pin, all_pins}
use Rattle.chip.specs.Transformed.{net_for}
use Rattle.chip.proofs.Basics.{pin_in, first_pin_lem}
use Rattle.opening.specs.Open.{netlist_of}
use Rattle.transform.specs.Inner.New.{blocks_in}
use Rattle.transform.proofs.New.{copied_net, cell_marked, number_low, copy_more, copy_skip}
use Rattle.transform.proofs.copy_nets.Goals as goal
use Rattle.transform.proofs.copy_nets.Goals.{In-loop-l, else-found-l-eq1, then-found-l-eq1}

-- the netlist
abbrev net_here : In-loop-l → Netlist
net_here c = netlist_of c.args.opened.now

-- the place stands for a block and for a cell, of which there is a copy where the place is marked
block_low : (c : In-loop-l) → c.loop-l.l / 1024 < c.args.opened.now.shape.blocks
block_low c = omega (arith, c.loop-l-test.true)

abbrev Marked : In-loop-l → Type 0
Marked c = get_or c.args.found.now.marks c.loop-l.l 0 ≡ 1

cell_low : (c : In-loop-l) → Marked c → c.loop-l.l % 1024 < c.args.opened.now.sizes.cells
cell_low c m =
    let l = c.loop-l in
    let K = c.requires.copied in
    cell_marked (copied_net K) (l.l / 1024) (l.l % 1024) l.l (block_low c) (omega arith) (omega arith) l.table (l.invariant.0 K) m

-- what was read is the first pin of the cell
first_is : (c : In-loop-l) → Marked c → (p : ℕ) → p ≡ get_or c.args.opened.now.firsts (c.loop-l.l % 1024) 0 → p ≡ first_pin (net_here c) (c.loop-l.l % 1024)
first_is c m p e = e ∙ c.requires.copied.is_open.ready.shaped.first_pins (c.loop-l.l % 1024) (omega (arith, cell_low c m))

pin_in_all : (c : In-loop-l) → Marked c → (p : ℕ) → p ≡ get_or c.args.opened.now.firsts (c.loop-l.l % 1024) 0 → p < all_pins (net_here c)
pin_in_all c m p e =
    let j = c.loop-l.l % 1024 in
    let N = net_here c in
    omega (arith, first_is c m p e, pin_in N j (first_pin N j) (first_pin_lem N c.requires.copied.is_open.ready.limits.sound j (cell_low c m)))

pub bounds-opened-p : goal.bounds-opened-p
bounds-opened-p c = omega (arith, pin_in_all (goal.at.bounds-opened-p c).In-loop-l c.if-found-l-eq1.true _ c.from-p.ensures, c.requires.copied.is_open.ready.limits.few_pins)

pub net_for-net-requires : goal.net_for-net-requires
net_for-net-requires c =
    let K = c.requires.copied in
    record { copied = K; block = (block_low (goal.at.net_for-net-requires c).In-loop-l, omega (arith, c.from.ensures, K.is_open.ready.limits.sound.named c.from-p.result (pin_in_all (goal.at.net_for-net-requires c).In-loop-l c.if-found-l-eq1.true _ c.from-p.ensures))) }

-- the number of the copy, and its pin's place
number_small : (c : In-loop-l) → Marked c → (n : ℕ) → n ≡ get_or c.args.found.now.numbers c.loop-l.l 0 → n < c.args.found.now.count
number_small c m n e =
    let l = c.loop-l in
    let K = c.requires.copied in
    omega (arith, e, number_low (copied_net K) (l.l / 1024) (l.l % 1024) l.l (block_low c) (omega arith) (omega arith) l.table (l.invariant.0 K) m)

place_low : (c : In-loop-l) → Marked c → (n : ℕ) → n ≡ get_or c.args.found.now.numbers c.loop-l.l 0 → c.args.first + n < 4096
place_low c m n e =
    let K = c.requires.copied in
    omega (arith, number_small c m n e, c.requires.first_out.0, K.is_open.ready.pins, K.few_pins)

pub bounds-table-first : goal.bounds-table-first
bounds-table-first c = omega (arith, place_low (goal.at.bounds-table-first c).In-loop-l c.if-found-l-eq1.true _ c.from-then-found-l-eq1.ensures)

-- pins of old cells and of outputs are no copies'
outside : {first m r : ℕ} (p : ℕ) → (p < first) ⊎ (first + m ≤ p) → r < m → p ≢ first + r
outside p (inl h) l e = omega arith
outside p (inr h) l e = omega arith

pub loop-l-preserved : goal.loop-l-preserved
loop-l-preserved c =
    let g = c.args in
    let l = c.loop-l in
    let k = l.l / 1024 in
    let j = l.l % 1024 in
    let q : l.l < 1024 * g.opened.now.shape.blocks = c.loop-l-test.true in
    elim c.if-found-l-eq1.branch [
      | then-found-l-eq1 w ↦
          let t = (goal.at.loop-l-preserved c).In-loop-l in
          let m = w.if-found-l-eq1.true in
          rw w.table-is (
            (λ K.
                let N : Netlist = netlist_of g.opened.now in
                let n : w.net_for-net.result ≡ net_for N (blocks_in K.is_open) k (N.net (first_pin N j)) =
                w.net_for-net.ensures K ∙ ap (net_for N (blocks_in K.is_open) k) (w.from.ensures ∙ ap (λ p. get_or g.opened.now.nets p 0) (first_is t m _ w.from-p.ensures)) in
                let at : g.first + w.from-then-found-l-eq1.result ≡ out_pin N 0 + get_or g.found.now.numbers l.l 0 = omega (arith, w.from-then-found-l-eq1.ensures, c.requires.first_out.0) in
                rw at (copy_more (copied_net K) k j l.l (block_low t) (omega arith) (omega arith) l.table
                (l.invariant.0 K) w.net_for-net.result m (omega (arith, at, place_low t m _ w.from-then-found-l-eq1.ensures)) n)),
            λ p h. get_or-set_other l.table (g.first + w.from-then-found-l-eq1.result) p w.net_for-net.result 0 (outside p h (number_small t m _ w.from-then-found-l-eq1.ensures)) ∙ l.invariant.1 p h,
          )
      | else-found-l-eq1 w ↦ rw w.table-is (
        (λ K. copy_skip (copied_net K) k j l.l (omega arith) (omega arith) (omega arith) l.table (l.invariant.0 K) w.if-found-l-eq1.false),
        l.invariant.1,
      )
    ]

pub returns : goal.returns
returns c =
    let l = c.loop-l in
    let e : l.l ≡ 1024 * c.args.opened.now.shape.blocks = omega arith in
    record { nets = (λ K. rw e at (l.invariant.0 K)); others = l.invariant.1 }
