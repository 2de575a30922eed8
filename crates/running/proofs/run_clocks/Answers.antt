-- The loops keep that no output so far shows the fault, and that both chips' slots are those of runs; so the first difference met is the first that there is.
use Prim.Native.Nat.{ℕ, ◌+◌, ◌≤◌, ◌<◌}
use mathlib.Core.Path.{◌≡◌, refl, sym, ◌∙◌}
use mathlib.Core.Bool.{beq}
use mathlib.Core.List.{List}
use Rattle.std.specs.Prelude.{Some, None}
use native.Mathlib.Omega.{arith}
use borrow.Author.Tests.{not-true, not-false}
use Rattle.chip.specs.Netlist.{Netlist, first_pin, all_pins}
use Rattle.chip.specs.Inner.Tables.{sized}
use Rattle.chip.specs.Faults.{Lines, good, stuck}
use Rattle.chip.proofs.Pins.{on_pins}
use Rattle.chip.proofs.Bools.{same_true, same_false}
use Rattle.order.proofs.Order.{ranked_of}
use Rattle.running.proofs.Chips.{Looks, good_looks, bad_looks}
use Rattle.running.proofs.Runs.{Bench, from_zeros, gates_fit, flops_fit, at_place, part_long, worked, next}
use Rattle.running.proofs.Looking.{look_first, look_more, look_next, look_found, look_none, shown_here, not_here, of_fault}
use Rattle.running.proofs.run_clocks.Goals as goal
use Rattle.running.proofs.run_clocks.Goals.{Start, After-from-outs, After-sources, In-loop-y}

pub bounds-firsts-c : goal.bounds-firsts-c
bounds-firsts-c c = omega (arith, c.requires.fact.0.few_cells)

abbrev netlist : Start → Netlist
netlist c = let a = c.args in sized a.z a.kinds.now a.counts.now a.nets.now

-- the pin of output 0
outs_pin : (c : After-from-outs) → c.from-outs.result ≡ first_pin (netlist (goal.at.After-from-outs c).Start) c.args.z.cells
outs_pin c = c.from-outs.ensures ∙ c.requires.fact.2 c.args.z.cells (omega arith)

pub sources-requires : goal.sources-requires
sources-requires c = omega (arith, c.requires.fact.1, c.requires.fact.0.few_pins)

-- a chip with these lines, whose pins look at what the table says
abbrev BenchOf : Start → List ℕ → Lines → Type 0
BenchOf c table f =
    let a = c.args in
    Bench a.z.inputs a.z.cells a.z.outputs a.kinds.now a.counts.now a.nets.now a.firsts.now table a.gates.cells a.gates.count a.flops.cells a.flops.count f a.play.now a.n

bench : (c : Start) (table : List ℕ) (f : Lines) → Looks (netlist c) f table → BenchOf c table f
bench c table f K = record { limits = c.requires.fact.0; first_pins = c.requires.fact.2; looks = K; listed = c.requires.listed; clocks = c.requires.play }

good_bench : (c : Start) → BenchOf c c.args.nets.now good
good_bench c = let a = c.args in bench c a.nets.now good (good_looks a.z.inputs a.z.cells a.z.outputs a.kinds.now a.counts.now a.nets.now)

abbrev own : Start → Lines
own c = on_pins (netlist c) (stuck c.args.fault)

own_looks : (c : After-sources) → Looks (netlist (goal.at.After-sources c).Start) (own (goal.at.After-sources c).Start) c.sources.new.table
own_looks c =
    let a = c.args in
    bad_looks a.z.inputs a.z.cells a.z.outputs a.kinds.now a.counts.now a.nets.now (stuck a.fault) a.z.pins c.sources.new.table c.requires.fact.1 c.sources.ensures

own_bench : (c : After-sources) → BenchOf (goal.at.After-sources c).Start c.sources.new.table (own (goal.at.After-sources c).Start)
own_bench c = bench (goal.at.After-sources c).Start c.sources.new.table _ (own_looks c)

pub clocks-init : goal.clocks-init
clocks-init c =
    let R = ranked_of c.requires.listed.ordered in (
      omega arith,
      refl,
      λ f K. record {
        the_good = from_zeros _ c.requires.fact.0 R good (λ n x. refl) _;
        the_bad = from_zeros _ c.requires.fact.0 R f K.plain _;
        none = λ t y l m o. absurd (omega arith);
      },
    )

pub settle_both-requires : goal.settle_both-requires
settle_both-requires c =
    let at = goal.at.settle_both-requires c in
    record { i_in_bounds = (part_long (good_bench at.Start) _ c.clocks-test.true, omega (arith, c.requires.fact.0.few_inputs)); list_fits = gates_fit (good_bench at.Start); list_fits_2 = (gates_fit (own_bench at.After-sources)).0 }

pub loop-y-init : goal.loop-y-init
loop-y-init c =
    let i = c.clocks in
    let s = (goal.at.loop-y-init c).Start in
    let e = c.first_looked-y.ensures in (
      e.0,
      i.invariant.1,
      λ f K. look_first (i.invariant.2 f K) (worked (good_bench s) i.t i.good _ c.clocks-test.true (i.invariant.2 f K).the_good c.settle_both.ensures.ran)
          (worked (bench s _ f K) i.t i.bad _ c.clocks-test.true (i.invariant.2 f K).the_bad c.settle_both.ensures.ran_2) e.1 e.2,
    )

-- an output's pin is one of the pins
out_pin : (c : In-loop-y) → c.from-outs.result + c.loop-y.y < all_pins (netlist (goal.at.In-loop-y c).Start)
out_pin c = omega (arith, outs_pin (goal.at.In-loop-y c).After-from-outs, c.loop-y-test.true)

few_pins : (c : In-loop-y) → all_pins (netlist (goal.at.In-loop-y c).Start) ≤ 4096
few_pins c = c.requires.fact.0.few_pins

pub overflow_add-outs : goal.overflow_add-outs
overflow_add-outs c = let l = (goal.at.overflow_add-outs c).In-loop-y in omega (arith, out_pin l, few_pins l)

pub at_pin-requires : goal.at_pin-requires
at_pin-requires c =
    let at = goal.at.at_pin-requires c in
    (omega (arith, out_pin at.In-loop-y, few_pins at.In-loop-y), at_place (good_bench at.Start) _ (out_pin at.In-loop-y))

pub overflow_add-outs-in-loop-y : goal.overflow_add-outs-in-loop-y
overflow_add-outs-in-loop-y c = let l = (goal.at.overflow_add-outs-in-loop-y c).In-loop-y in omega (arith, out_pin l, few_pins l)

pub at_pin-requires-in-loop-y : goal.at_pin-requires-in-loop-y
at_pin-requires-in-loop-y c =
    let at = goal.at.at_pin-requires-in-loop-y c in
    (omega (arith, out_pin at.In-loop-y, few_pins at.In-loop-y), at_place (own_bench at.After-sources) _ (out_pin at.In-loop-y))

pub overflow_step-y : goal.overflow_step-y
overflow_step-y c = let l = (goal.at.overflow_step-y c).In-loop-y in omega (arith, out_pin l, few_pins l)

pub loop-y-preserved : goal.loop-y-preserved
loop-y-preserved c =
    let at = goal.at.loop-y-preserved c in
    let s = at.Start in
    let taken = c.loop-y-test.true in
    let same : c.at_pin.result ≡ c.at_pin-in-loop-y.result = same_true _ _ (not-false (beq c.at_pin.result c.at_pin-in-loop-y.result) c.if-at_pin.false) in (
      omega (arith, taken),
      c.loop-y.invariant.1,
      λ f K. look_more (c.loop-y.invariant.2 f K)
          (not_here (good_bench s) (bench s _ f K) (c.loop-y.invariant.2 f K) taken (rw (outs_pin at.After-from-outs) at (sym c.at_pin.ensures ∙ same ∙ c.at_pin-in-loop-y.ensures))),
    )

pub advance-requires : goal.advance-requires
advance-requires c = flops_fit (good_bench (goal.at.advance-requires c).Start)

pub advance-requires-in-clocks : goal.advance-requires-in-clocks
advance-requires-in-clocks c = flops_fit (own_bench (goal.at.advance-requires-in-clocks c).After-sources)

pub clocks-preserved : goal.clocks-preserved
clocks-preserved c =
    let s = (goal.at.clocks-preserved c).Start in (
      omega (arith, c.clocks-test.true),
      c.loop-y.invariant.1,
      λ f K. let A = c.loop-y.invariant.2 f K in
          look_next A (omega (arith, c.loop-y-test.false)) _ _ (next (good_bench s) c.clocks.t _ A.the_good _ c.advance.ensures)
          (next (bench s _ f K) c.clocks.t _ A.the_bad _ c.advance-in-clocks.ensures),
    )

pub returns-after-clocks : goal.returns-after-clocks
returns-after-clocks c =
    let at = goal.at.returns-after-clocks c in
    let a = c.args in
    rw c.clocks.invariant.1
    (of_fault _ c.requires.fact.0 (ranked_of c.requires.listed.ordered) (stuck a.fault) a.play.now a.d a.n c.requires.fact.3 None
    (look_none (c.clocks.invariant.2 _ (own_looks at.After-sources)) (omega (arith, c.clocks-test.false))))

pub returns-then-at_pin : goal.returns-then-at_pin
returns-then-at_pin c =
    let at = goal.at.returns-then-at_pin c in
    let a = c.args in
    let A = c.loop-y.invariant.2 _ (own_looks at.After-sources) in
    let taken = c.loop-y-test.true in
    let differ = same_false _ _ (not-true (beq c.at_pin.result c.at_pin-in-loop-y.result) c.if-at_pin.true) in
    of_fault _ c.requires.fact.0 (ranked_of c.requires.listed.ordered) (stuck a.fault) a.play.now a.d a.n c.requires.fact.3
    (Some (record { clock = c.clocks.t; output = c.loop-y.y }))
    (look_found A taken c.clocks-test.true
    (shown_here (good_bench at.Start) (own_bench at.After-sources) A taken c.requires.fact.3
    (λ e. differ (rw (outs_pin at.After-from-outs) at c.at_pin.ensures ∙ e ∙ sym (rw (outs_pin at.After-from-outs) at c.at_pin-in-loop-y.ensures)))))
