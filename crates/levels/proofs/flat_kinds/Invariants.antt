use Prim.Native.Nat.{ℕ, ◌≤◌, ◌<◌}
use mathlib.Core.Path.{◌≡◌}
use lib.ListN.{get_or}
use Rattle.chip.specs.Transformed.{flat}
use Rattle.levels.proofs.flat_kinds.Given as goal

-- the cells passed have lost their flip-flops, and the others wait
abbrev pub invariant-loop-gate : goal.invariant-loop-gate
invariant-loop-gate l =
    ((j : ℕ) → j < l.gate-index → get_or l.gate-items j 0 ≡ flat (get_or l.kinds j 0)) × ((j : ℕ) → l.gate-index ≤ j → get_or l.gate-items j 0 ≡ get_or l.kinds j 0)
