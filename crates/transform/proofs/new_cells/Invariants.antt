use Prim.Native.Nat.{ℕ, ◌<◌}
use mathlib.Core.Path.{◌≡◌}
use mathlib.Core.Bool.{cond}
use lib.Dec.{ltb}
use lib.ListN.{get_or}
use Rattle.chip.specs.Transformed.{flat}
use Rattle.transform.proofs.new_cells.Given as goal

abbrev pub invariant-loop-j : goal.invariant-loop-j
invariant-loop-j l = (h : ℕ) → h < 1024 → get_or l.flats h 0 ≡ cond (ltb h l.j) (flat (get_or l.opened.kinds h 0)) 0
