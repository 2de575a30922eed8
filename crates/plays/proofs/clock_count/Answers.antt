-- A play of n clocks is n times i bytes long: i divides its length, and n is the quotient.
use Prim.Native.Nat.{◌*◌}
use mathlib.Core.Path.{ap}
use native.Mathlib.Omega.{arith}
use native.Mathlib.Nat.{div-add-mod'}
use lib.ListN.{length}
use Rattle.plays.proofs.Bytes.{clocks_quotient}
use Rattle.plays.proofs.clock_count.Goals.{else-play-i-eq0-via-then-play-i-eq0+else-n-le1024, else-play-i-eq0-via-else-play-i-eq0}
use Rattle.plays.proofs.clock_count.Goals as goal

pub returns : goal.returns
returns c n K =
    let a = c.args in
    let q = clocks_quotient a.i a.play.now n c.requires K in
    elim c.else-play-i-eq0.branch [
      | else-play-i-eq0-via-then-play-i-eq0+else-n-le1024 w ↦ omega (arith, q, K.few, w.if-n-le1024.false)
      | else-play-i-eq0-via-else-play-i-eq0 w ↦ w.if-play-i-eq0.false (omega (arith, div-add-mod' (length a.play.now) a.i, K.long, ap (λ k. k * a.i) q))
    ]
