use mathlib.Core.Path.{◌≡◌}
use Prim.Native.Nat.{ℕ, ◌<◌}
use mathlib.Core.Bool.{false}
use lib.ListN.{get_or}
use Rattle.homes.specs.Homes.{lane_at}
use Rattle.homes.proofs.Lanes.{Passed}
use Rattle.homes.proofs.look.Given as goal

abbrev pub invariant-loop-z : goal.invariant-loop-z
invariant-loop-z l =
    (l.known ≡ l.initial.known)
    × Passed l.u l.z-iterator.rest (λ z. (i : ℕ) → i < 1024 → lane_at l.t (get_or l.run.outs.now z 0) (get_or l.run.ends.now z 0) l.run.goods.now l.run.vals.now i ≡ false)
