-- After t places the nets of their cells are settled, and a BUF looks at a net that was settled before it.
use Prim.Native.Nat.{ℕ, ◌<◌}
use mathlib.Core.Path.{◌≡◌, ap, ◌∙◌}
use native.Mathlib.Omega.{arith}
use lib.ListN.{get_or}
use Rattle.chip.specs.Netlist.{Netlist, first_pin}
use Rattle.chip.specs.Inner.Tables.{tabled}
use Rattle.chip.specs.Faults.{stuck}
use Rattle.chip.proofs.Basics.{pin_in, first_pin_lem}
use Rattle.faults.proofs.Settled.{settled_skip, settled_more, settled_all, cell_low}
use Rattle.faults.proofs.decided_nets.Goals as goal
use Rattle.faults.proofs.decided_nets.Goals.{After-from, After-from-j, After-from-p, Start, else-kinds-j-eq0, then-kinds-j-eq0}

abbrev net_of : Start → Netlist
net_of s = tabled s.args.i s.args.c s.args.o s.args.kinds.now s.args.counts.now s.args.nets.now

-- the cell
cell_is : (a : After-from-j) → a.from-j.result < a.args.c
cell_is a =
    let l = a.loop-t in
    omega (arith, a.from-j.ensures, cell_low (net_of (goal.at.After-from-j a).Start) a.requires.in_limits (stuck a.args.fault) a.args.order.now a.requires.ordered l.t l.table l.invariant a.loop-t-test.true)

-- its first pin
pin_is : (b : After-from-p) → b.from-p.result ≡ first_pin (net_of (goal.at.After-from-p b).Start) b.from-j.result
pin_is b =
    b.from-p.ensures ∙ b.requires.first_pins b.from-j.result (omega (arith, cell_is (goal.at.After-from-p b).After-from-j))

pin_low : (b : After-from-p) → b.from-p.result < 4096
pin_low b =
    let N = net_of (goal.at.After-from-p b).Start in
    omega (arith, pin_is b, b.requires.in_limits.few_pins, pin_in N b.from-j.result (first_pin N b.from-j.result) (first_pin_lem N b.requires.in_limits.sound b.from-j.result (cell_is (goal.at.After-from-p b).After-from-j)))

pub bounds-nets-p : goal.bounds-nets-p
bounds-nets-p c = omega (arith, pin_low (goal.at.bounds-nets-p c).After-from-p)

pub loop-t-preserved : goal.loop-t-preserved
loop-t-preserved c =
    let l = c.loop-t in
    let N = net_of (goal.at.loop-t-preserved c).Start in
    let j : ℕ = get_or c.args.order.now l.t 0 in
    let q : c.from-j.result ≡ j = c.from-j.ensures in
    elim c.if-kinds-j-eq0.branch [
      | then-kinds-j-eq0 w ↦ let pin : w.from-p.result ≡ first_pin N j = w.from-p.ensures ∙ c.requires.first_pins c.from-j.result (omega (arith, cell_is (goal.at.loop-t-preserved c).After-from-j)) ∙ ap (first_pin N) q in
          let feed : w.from.result ≡ N.net (first_pin N j) = w.from.ensures ∙ ap (λ (p : ℕ). N.net p) pin in
          let zero : N.kind j ≡ 0 = rw q at w.if-kinds-j-eq0.true in
          rw (w.table-is, q) (settled_more N c.requires.in_limits (stuck c.args.fault) c.args.order.now c.requires.ordered l.t l.table l.invariant c.loop-t-test.true zero w.decided_buf.result
          (λ b. rw (← feed, ← pin, ← q) (w.decided_buf.ensures b)))
      | else-kinds-j-eq0 w ↦
          rw w.table-is (settled_skip N c.requires.in_limits (stuck c.args.fault) c.args.order.now c.requires.ordered l.t l.table l.invariant c.loop-t-test.true (rw q at w.if-kinds-j-eq0.false))
    ]

pub returns : goal.returns
returns c = let l = c.loop-t in settled_all (net_of (goal.at.returns c).Start) (stuck c.args.fault) c.args.order.now c.requires.ordered l.t l.table (omega arith) l.invariant
