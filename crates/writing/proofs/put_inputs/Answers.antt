-- After k inputs their pads are stored behind the number of inputs, one byte each, so the place is 2 + k.
use Prim.Native.Nat.{◌+◌}
use mathlib.Core.Path.{◌≡◌, refl}
use mathlib.Core.List.{[], ◌∷◌}
use native.Mathlib.Omega.{arith}
use Rattle.chip.specs.File.{inputs_file}
use Rattle.writing.proofs.Puts.{put_byte, put_more}
use Rattle.writing.proofs.put_inputs.Goals as goal

pub loop-k-preserved : goal.loop-k-preserved
loop-k-preserved c =
    let l = c.loop-k in
    let at = c.put_word-at.result in
    let e : at + l.k + 1 ≡ at + (l.k + 1) = omega arith in
    rw e at (put_more (inputs_file (λ k. k + 1)) (λ k. (k + 1) ∷ []) (λ n. refl) l.invariant (put_byte (at + l.k) (l.k + 1) l.out))
