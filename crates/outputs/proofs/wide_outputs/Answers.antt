-- After z outputs the word has just the wide ones among them, since a bit is set exactly where the width is above 16.
use Prim.Native.Nat.{ℕ}
use native.Mathlib.Omega.{arith}
use Rattle.std.proofs.lemmas.List.{length-take}
use Rattle.std.proofs.lemmas.List.{get_or-take}
use Rattle.outputs.proofs.Tables.{wide_none, wide_skip, wide_more}
use Rattle.outputs.proofs.wide_outputs.Goals as goal
use Rattle.outputs.proofs.wide_outputs.Goals.{else-w-gt16, then-w-gt16}

pub loop-z-init : goal.loop-z-init
loop-z-init c = wide_none _

pub loop-z-preserved : goal.loop-z-preserved
loop-z-preserved c =
    let W = c.loop-z.invariant in
    let e = get_or-take c.args.o c.args.widths.now c.loop-z.z 0 (omega (arith, length-take {A = ℕ})) in
    elim c.if-w-gt16.branch [
      | then-w-gt16 x ↦ rw x.wides-is (wide_more _ _ _ _ x.one_bit-wides.ensures W (rw e at x.if-w-gt16.true))
      | else-w-gt16 x ↦ rw x.wides-is (wide_skip _ _ _ W (λ h. omega (arith, rw e at x.if-w-gt16.false)))
    ]
