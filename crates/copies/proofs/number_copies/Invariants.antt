-- The count is the sum of the marks passed, so it is the number that the next place gets.
use Prim.Native.Nat.{ℕ, ◌≤◌, ◌<◌}
use mathlib.Core.Path.{◌≡◌}
use lib.ListN.{get_or}
use Rattle.chip.specs.Netlist.{sum_below}
use Rattle.copies.proofs.number_copies.Given as goal

abbrev pub invariant-loop-l : goal.invariant-loop-l
invariant-loop-l l =
    (l.count ≤ l.l)
    × (l.count ≡ sum_below (λ k. get_or l.marks k 0) l.l)
    × ((k : ℕ) → k < l.l → get_or l.numbers k 0 ≡ sum_below (λ m. get_or l.marks m 0) k)
