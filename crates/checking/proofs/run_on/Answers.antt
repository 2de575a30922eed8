-- An open chip is all that the clocks are run on, and its gates and flip-flops are listed in its order.
use Prim.Native.Nat.{ℕ, ◌≤◌, ◌<◌}
use native.Mathlib.Omega.{arith}
use lib.ListN.{get_or}
use Rattle.checking.proofs.run_on.Goals as goal
use Rattle.checking.proofs.run_on.Goals.{Start}

-- the cells of the order are cells of the chip, of which there are few
ordered_cells : (s : Start) → (s.args.opened.now.sizes.cells ≤ 1024) × ((k : ℕ) → k < s.args.opened.now.sizes.cells → get_or s.args.opened.now.order k 0 < 1024)
ordered_cells s =
    let o = s.requires.fact.ready in
    (o.limits.few_cells, λ k l. omega (arith, o.limits.few_cells, o.shaped.ordered.cell k l))

pub pick-gates-requires : goal.pick-gates-requires
pick-gates-requires c = ordered_cells (goal.at.pick-gates-requires c).Start

pub pick-flops-requires : goal.pick-flops-requires
pick-flops-requires c = ordered_cells (goal.at.pick-flops-requires c).Start

pub run_clocks-requires : goal.run_clocks-requires
run_clocks-requires c =
    let o = c.requires.fact.ready in
    record { fact = (o.limits, o.pins, o.shaped.first_pins, o.shaped.prepared.depth.within); listed = record { order = _; ordered = o.shaped.ordered; the_gates = c.pick-gates.ensures; the_flops = c.pick-flops.ensures }; play = c.requires.fault_in.1 }
