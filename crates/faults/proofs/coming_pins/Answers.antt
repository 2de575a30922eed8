-- After p pins each has what comes to it, as the entries of its net tell: `seen` for a branch, `own` for any other pin.
use Prim.Native.Nat.{◌+◌, ◌≤◌, ◌<◌}
use mathlib.Core.Path.{◌≡◌}
use mathlib.Core.Bool.{Bool}
use native.Mathlib.Omega.{arith}
use lib.ListN.{get_or}
use Rattle.chip.specs.Netlist.{Netlist, all_pins}
use Rattle.chip.specs.Inner.Tables.{tabled}
use Rattle.chip.specs.Inner.Direct.{through, comes}
use Rattle.faults.specs.Decided.{decided_to}
use Rattle.chip.proofs.Entries.{entry_more}
use Rattle.faults.proofs.Settled.{pin_comes}
use Rattle.faults.proofs.coming_pins.Goals as goal
use Rattle.faults.proofs.coming_pins.Goals.{After-from-net, Start}

abbrev net_of : Start → Netlist
net_of s = tabled s.args.i s.args.c s.args.o s.args.kinds.now s.args.counts.now s.args.nets.now

few : (s : Start) → (s.args.i ≤ 64) × (s.args.c ≤ 1024) × (s.args.n ≤ 4096)
few s = (s.requires.in_limits.few_inputs, s.requires.in_limits.few_cells, omega (arith, s.requires.n_value, s.requires.in_limits.few_pins))

-- the net that the pin names
net_low : (a : After-from-net) → a.from-net.result < a.args.i + a.args.c
net_low a =
    omega (arith, a.from-net.ensures, a.requires.in_limits.sound.named a.loop-p.p (omega (arith, a.requires.n_value, a.loop-p-test.true)))

pub loop-p-preserved : goal.loop-p-preserved
loop-p-preserved c =
    let l = c.loop-p in
    let N = net_of (goal.at.loop-p-preserved c).Start in
    let h : l.p < all_pins N = omega (arith, c.requires.n_value, c.loop-p-test.true) in
    λ f A D.
    let own : (b : Bool) → f.net (N.net l.p) b ≡ decided_to (get_or c.args.own.now c.from-net.result 0) b =
    rw (← c.from-net.ensures) (A.at c.from-net.result (omega (arith, net_low (goal.at.loop-p-preserved c).After-from-net, few (goal.at.loop-p-preserved c).Start))) in
    let seen : (b : Bool) → through N f N.cells (N.net l.p) b ≡ decided_to (get_or c.args.seen.now c.from-net.result 0) b =
    rw (← c.from-net.ensures) (D c.from-net.result (net_low (goal.at.loop-p-preserved c).After-from-net)) in
    entry_more (λ y e. (b : Bool) → comes N f y b ≡ decided_to e b) l.table l.p _ (omega (arith, few (goal.at.loop-p-preserved c).Start))
    (rw c.coming.ensures (pin_comes N f l.p (get_or c.args.branches.now l.p 0) _ _ (c.requires.branch_table l.p h) own seen)) (l.invariant f A D)
