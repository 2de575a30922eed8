-- The faults of the net and of its pins are joined by or, and that loses no output.
use borrow.Author.Rules.{rules}
use Prim.Native.Nat.{ℕ, ◌+◌, ◌*◌, ◌-◌}
use mathlib.Core.Path.{◌≡◌}
use native.Mathlib.Omega.{arith}
use lib.ListN.{get_or, take, drop}
use lib.Bits.{bit_or}
use Rattle.std.specs.List.{fold}
use Rattle.stages.proofs.Covering.{covered}
use Rattle.stages.proofs.left_at.Goals as goal

pub returns : goal.returns
returns c =
    let a = c.args in
    let m : ℕ = 2 * (a.pin + a.n) - 2 * a.pin in
    let e : c.fold.result ≡ fold bit_or (bit_or (get_or a.left.now (2 * a.net) 0) (get_or a.left.now (2 * a.net + 1) 0)) (take m (drop (2 * a.pin) a.left.now)) = search rules in
    rw e (covered a.net a.pin a.n m a.left.now (omega arith) (omega (arith, c.requires)))
