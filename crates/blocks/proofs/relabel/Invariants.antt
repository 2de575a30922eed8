use mathlib.Core.Path.{◌≡◌}
use Prim.Native.Nat.{ℕ, ◌≤◌, ◌<◌}
use lib.ListN.{get_or}
use Rattle.blocks.specs.Steps.{replaced}
use Rattle.blocks.proofs.relabel.Given as goal

-- the pins passed have lost the label `from`, and the others wait
abbrev pub invariant-loop-label : goal.invariant-loop-label
invariant-loop-label l =
    ((p : ℕ) → p < l.label-index → get_or l.low p 0 ≡ replaced l.from l.to (get_or l.initial.low p 0)) × ((p : ℕ) → l.label-index ≤ p → get_or l.low p 0 ≡ get_or l.initial.low p 0)
