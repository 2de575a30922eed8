-- After z outputs 3 z bytes stand behind their number, a pad and a net for each, and three more are within the buffer.
use Prim.Native.Nat.{◌+◌}
use mathlib.Core.Path.{◌≡◌, refl}
use native.Mathlib.Omega.{arith}
use Rattle.chip.specs.File.{outputs_file}
use Rattle.chip.specs.Inner.Tables.{tabled}
use Rattle.writing.proofs.Lengths.{output_file}
use Rattle.writing.proofs.Puts.{put_byte, put_both, put_more}
use Rattle.writing.proofs.put_outputs.Goals as goal
use Rattle.writing.proofs.put_outputs.Goals.{In-loop-z}

pub loop-z-preserved : goal.loop-z-preserved
loop-z-preserved c =
    let a = c.args in
    let l = c.loop-z in
    let w = c.put_word-at-in-loop-z.ensures in (
      omega (arith, l.invariant.0, w.next),
      λ i c' kinds counts e.
          let N = tabled i c' a.o kinds counts a.nets.now in
          put_more (outputs_file N (λ z. a.b + 1 + z)) (output_file N (λ z. a.b + 1 + z)) (λ n. refl) (l.invariant.1 i c' kinds counts e)
          (put_both (put_byte l.at (a.b + 1 + l.z) l.out) (rw e at w)),
    )

pub returns : goal.returns
returns c i c' kinds counts f =
    let e : c.loop-z.z ≡ c.args.o = omega arith in
    put_both c.put_word-at.ensures (rw e at (c.loop-z.invariant.1 i c' kinds counts f))
