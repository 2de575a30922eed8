-- No output of the word below z is the best, so each was tried on all its patterns, and `tries` is the sum of these.
use Prim.Native.Nat.{ℕ, ◌*◌, ◌%◌, ◌^◌, ◌≤◌, ◌<◌}
use mathlib.Core.Path.{◌≡◌, sym, ◌∙◌}
use mathlib.Core.Bool.{true, false}
use native.Mathlib.Omega.{arith}
use native.Mathlib.Nat.{one-mul}
use lib.ListN.{get_or, take}
use lib.Pow.{pow_mono, shl_exact}
use Rattle.std.proofs.lemmas.List.{get_or-take, length-take}
use Rattle.chip.specs.Faults.{stuck}
use Rattle.walk.specs.Walk.{out_of}
use Rattle.outputs.proofs.Answers.{passed_skip, passed_more, counts_skip, counts_more, verdict_hit}
use Rattle.outputs.proofs.verdict.Goals as goal
use Rattle.outputs.proofs.verdict.Goals.{In-loop-z, Then-has_bit, else-has_bit, then-has_bit+else-z-best}

-- the output at hand is in the word
it_is : (c : Then-has_bit) → out_of c.args.outs c.loop-z.z ≡ true
it_is c = sym c.has_bit.ensures ∙ c.if-has_bit.true

pub returns-then-z-best : goal.returns-then-z-best
returns-then-z-best c =
    λ N b reached low fault left e q W S.
    let l = c.loop-z in
    verdict_hit N (stuck fault) _ reached b low q left _ _ S l.z l.tries (omega arith) (omega (arith, c.requires.o_bound.0)) (it_is (goal.at.returns-then-z-best c).Then-has_bit) c.if-z-best.true (l.invariant.2 N b reached low fault left e q W S)

-- what is added to the tries is the number of the output's patterns, 2 ^ 16 at most
shifted : (c : In-loop-z) → out_of c.args.outs c.loop-z.z ≡ true → let n = 1 * 2 ^ get_or (take c.args.o c.args.widths.now) c.loop-z.z 0 % 2 ^ 64 in (n ≡ 2 ^ get_or c.args.widths.now c.loop-z.z 0) × (n ≤ 65536)
shifted c d =
    let W = c.requires.by_index in
    let z = c.loop-z.z in
    let l : z < c.args.o = omega (arith, length-take {A = ℕ}) in
    let few : get_or c.args.widths.now z 0 ≤ 16 = omega (arith, W.2.at z l, W.3 z l d) in
    let e = shl_exact {a = 1} 1 (get_or c.args.widths.now z 0) 64 (omega arith) (omega arith) ∙ one-mul (2 ^ get_or c.args.widths.now z 0) in
    rw (get_or-take c.args.o c.args.widths.now z 0 l) (e, omega (arith, e, pow_mono few))

pub overflow_add-tries : goal.overflow_add-tries
overflow_add-tries c =
    let p = goal.at.overflow_add-tries c in
    omega (arith, (shifted p.In-loop-z (it_is p.Then-has_bit)).1, c.loop-z.invariant.0)

pub loop-z-preserved : goal.loop-z-preserved
loop-z-preserved c =
    let l = c.loop-z in
    elim c.if-has_bit.branch [
      | then-has_bit+else-z-best w ↦
          let d : out_of c.args.outs l.z ≡ true = sym c.has_bit.ensures ∙ w.if-has_bit.true in
          let s = shifted (goal.at.loop-z-preserved c).In-loop-z d in
          let o : l.z < c.args.o = omega (arith, length-take {A = ℕ}) in (
            omega (arith, w.tries-is, s.1, l.invariant.0),
            passed_more _ _ _ w.if-z-best.false l.invariant.1,
            rw w.tries-is (counts_more _ _ _ _ _ l.z l.tries _ o (omega (arith, o, c.requires.o_bound.0)) d w.if-z-best.false l.invariant.1 s.0 l.invariant.2),
          )
      | else-has_bit w ↦ let e : out_of c.args.outs l.z ≡ false = sym c.has_bit.ensures ∙ w.if-has_bit.false in (
        omega (arith, w.tries-is, l.invariant.0),
        passed_skip _ _ _ e l.invariant.1,
        rw w.tries-is (counts_skip _ _ _ _ _ l.z l.tries e l.invariant.2),
      )
    ]

pub returns : goal.returns
returns c = λ N b reached low fault left e q W S. let l = c.loop-z in let f : l.z ≡ N.outs = omega arith in rw f at (l.invariant.2 N b reached low fault left e q W S)
