-- Each test that refuses is the one that the reply asks for at its place, and behind all of them the pattern is read from the window of the play that ends with the clock.
use Prim.Native.Nat.{suc, ◌*◌, ◌-◌, ◌≤◌, ◌<◌}
use mathlib.Core.Logic.{inl, inr}
use native.Mathlib.Omega.{arith}
use native.Mathlib.Nat.{mul-le-mul_right}
use lib.ListN.{length}
use Rattle.plays.proofs.Parts.{clock_up}
use Rattle.clocks.proofs.Answers.{read_13, read_11, read_14, read_18, read_19, read_15, read_done}
use Rattle.clocks.proofs.Window.{window_long, window_bits, window_read}
use Rattle.clocks.proofs.read_on.Goals as goal
use Rattle.clocks.proofs.read_on.Goals.{Else-pattern-s, then-clock-s-via-then-clock-s, then-clock-s-via-else-clock-s+then-n-clock}

pub returns-then-z-output : goal.returns-then-z-output
returns-then-z-output c = rw c.at.ensures (read_13 _ c.requires _ _ _ _ c.if-z-output.true)

pub returns-then-s-eq1 : goal.returns-then-s-eq1
returns-then-s-eq1 c = rw c.at-then-s-eq1.ensures (read_11 _ c.requires _ _ _ _ (omega (arith, c.if-z-output.false)) c.if-s-eq1.true)

pub clock_count-requires : goal.clock_count-requires
clock_count-requires c = c.requires.ready.limits.some_input

pub returns-in_default : goal.returns-in_default
returns-in_default c = rw c.at-in_default.ensures (read_14 _ c.requires _ _ _ _ (omega (arith, c.if-z-output.false)) c.if-s-eq1.false c.in_default.ensures)

pub returns-in-Some-first_above_one : goal.returns-in-Some-first_above_one
returns-in-Some-first_above_one c = rw c.at-in-Some-first_above_one.ensures (read_18 _ c.requires _ _ _ _ (omega (arith, c.if-z-output.false)) c.if-s-eq1.false _ c.in-Some.ensures _ c.in-Some-first_above_one.ensures)

pub returns-then-clock-s : goal.returns-then-clock-s
returns-then-clock-s c =
    rw c.at-then-clock-s.ensures (read_19 _ c.requires _ _ _ _ (omega (arith, c.if-z-output.false)) c.if-s-eq1.false _ c.in-Some.ensures c.in_default-first_above_one.ensures
    (elim c.then-clock-s.branch [ then-clock-s-via-then-clock-s w ↦ inl w.if-clock-s.true | then-clock-s-via-else-clock-s+then-n-clock w ↦ inr w.if-n-clock.true ]))

pub returns-then-pattern-s : goal.returns-then-pattern-s
returns-then-pattern-s c =
    rw c.at-then-pattern-s.ensures (read_15 _ c.requires _ _ _ _ (omega (arith, c.if-z-output.false)) c.if-s-eq1.false _ c.in-Some.ensures c.in_default-first_above_one.ensures
    (omega (arith, c.if-clock-s.false)) c.if-n-clock.false c.if-pattern-s.true)

-- the play has the clock, and the window begins in it
clock_there : (f : Else-pattern-s) → suc f.args.clock * f.args.opened.now.sizes.inputs
    ≤ length f.args.play.now
clock_there f =
    let u : f.args.clock < f.in-Some.n = f.if-n-clock.false in
    omega (arith, mul-le-mul_right f.args.opened.now.sizes.inputs u, (f.in-Some.ensures).long)

begins : (f : Else-pattern-s) → (f.args.clock - f.args.opened.now.shape.depth) * f.args.opened.now.sizes.inputs
    ≤ length f.args.play.now
begins f =
    omega (arith, clock_up f.args.opened.now.sizes.inputs (f.args.clock - f.args.opened.now.shape.depth) (suc f.args.clock) (omega arith), clock_there f)

pub overflow_mul-from : goal.overflow_mul-from
overflow_mul-from c = omega (arith, begins (goal.at.overflow_mul-from c).Else-pattern-s, c.well_formed)

pub slice_bounds-read_play-count : goal.slice_bounds-read_play-count
slice_bounds-read_play-count c = omega (arith, begins (goal.at.slice_bounds-read_play-count c).Else-pattern-s)

pub read_play-requires : goal.read_play-requires
read_play-requires c =
    let late : c.args.opened.now.shape.depth ≤ c.args.clock = omega (arith, c.if-clock-s.false) in record {
      by_index = ((_, c.requires.ready), c.if-s-eq1.false);
      output_lt_outputs = (
        omega (arith, c.if-z-output.false),
        window_bits _ _ _ c.args.play.now late (clock_there (goal.at.read_play-requires c).Else-pattern-s) c.in_default-first_above_one.ensures,
        window_long _ _ _ c.args.play.now late (clock_there (goal.at.read_play-requires c).Else-pattern-s),
        omega (arith, c.if-pattern-s.false),
      );
    }

pub returns : goal.returns
returns c =
    read_done _ c.requires _ _ _ _ (omega (arith, c.if-z-output.false)) c.if-s-eq1.false _ c.in-Some.ensures c.in_default-first_above_one.ensures
    (omega (arith, c.if-clock-s.false)) c.if-n-clock.false _ (omega (arith, c.if-pattern-s.false))
    (λ low L. window_read c.requires.ready c.if-s-eq1.false low L (omega (arith, c.if-clock-s.false)) (c.read_play.ensures low L))
