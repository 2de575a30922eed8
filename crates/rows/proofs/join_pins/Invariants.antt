use Prim.Native.Nat.{ℕ, ◌<◌}
use mathlib.Core.Path.{◌≡◌}
use lib.ListN.{length, get_or}
use Rattle.words.specs.Lanes.{joined}
use Rattle.rows.specs.Rows.{on_row}
use Rattle.rows.proofs.join_pins.Given as goal

abbrev pub invariant-loop-s : goal.invariant-loop-s
invariant-loop-s g l =
    (length l.acc ≡ 16) × ((k : ℕ) → k < 16 → get_or l.acc k 0 ≡ joined g.J.Join.op g.J.Join.START (on_row l.src l.vals k) l.a l.s-index)
