-- Each test that refuses is the one that the reply asks for at its place, and behind all of them the pattern is set as a sweep sets it.
use Prim.Native.Nat.{◌+◌, ◌≤◌}
use native.Mathlib.Nat.{mul-le-mul}
use native.Mathlib.Omega.{arith}
use native.Mathlib.Numerals.{add-one}
use Rattle.clocks.proofs.Answers.{set_13, set_11, set_14, set_18, set_15, set_done}
use Rattle.clocks.proofs.set_on.Goals as goal

pub returns-then-z-output : goal.returns-then-z-output
returns-then-z-output c = rw c.at.ensures (set_13 _ c.requires _ _ _ c.if-z-output.true)

pub returns-then-s-eq1 : goal.returns-then-s-eq1
returns-then-s-eq1 c = rw c.at-then-s-eq1.ensures (set_11 _ c.requires _ _ _ (omega (arith, c.if-z-output.false)) c.if-s-eq1.true)

pub returns-then-pattern-s : goal.returns-then-pattern-s
returns-then-pattern-s c = rw c.at-then-pattern-s.ensures (set_14 _ c.requires _ _ _ (omega (arith, c.if-z-output.false)) c.if-s-eq1.false c.if-pattern-s.true)

pub returns-in-Some : goal.returns-in-Some
returns-in-Some c = rw c.at-in-Some.ensures (set_18 _ c.requires _ _ _ (omega (arith, c.if-z-output.false)) c.if-s-eq1.false c.if-pattern-s.false _ c.in-Some.ensures)

pub overflow_mul-long : goal.overflow_mul-long
overflow_mul-long c =
    let h : c.args.opened.now.shape.depth + 1 ≤ 256 = omega (arith, c.requires.ready.shaped.shallow) in
    let l : c.args.opened.now.sizes.inputs ≤ 64 = c.requires.ready.limits.few_inputs in
    omega (arith, mul-le-mul h l)

pub returns-then-play-long : goal.returns-then-play-long
returns-then-play-long c = rw (c.at-then-play-long.ensures, add-one c.args.opened.now.shape.depth) (set_15 _ c.requires _ _ _ (omega (arith, c.if-z-output.false)) c.if-s-eq1.false c.if-pattern-s.false (c.in_default.ensures) (rw (add-one c.args.opened.now.shape.depth) at c.if-play-long.true))

pub set_play-requires : goal.set_play-requires
set_play-requires c = record { by_index = ((_, c.requires.ready), c.if-s-eq1.false); output_lt_outputs = (omega (arith, c.if-z-output.false), omega (arith, c.if-pattern-s.false), c.in_default.ensures, rw (add-one c.args.opened.now.shape.depth) at c.if-play-long.false) }

pub returns : goal.returns
returns c =
    rw (add-one c.args.opened.now.shape.depth) (set_done _ c.requires _ _ _ (omega (arith, c.if-z-output.false)) c.if-s-eq1.false c.if-pattern-s.false _ (c.in_default.ensures)
    (rw (add-one c.args.opened.now.shape.depth) at c.if-play-long.false) c.set_play.ensures)
