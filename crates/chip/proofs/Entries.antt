-- A table that is filled entry by entry.
use Prim.Native.Nat.{ℕ, ◌+◌, ◌<◌}
use mathlib.Core.List.{List}
use native.Mathlib.Decide.{ℕ_discrete}
use native.Mathlib.Omega.{arith}
use lib.ListN.{length, get_or, set}
use lib.Seq.{get_or-set_same, get_or-set_other}

-- what holds of the first n entries holds of one more
pub entry_more : (P : ℕ → ℕ → Type 0) (table : List ℕ) (n v : ℕ) → n < length table → P n v → ((k : ℕ) → k < n → P k (get_or table k 0)) → (k : ℕ) → k < n + 1 → P k (get_or (set table n v) k 0)
entry_more P table n v room e h k l = elim (ℕ_discrete k n) [
  | yes a ↦ rw (a, get_or-set_same table n v 0 room) e
  | no g ↦ rw (get_or-set_other table n k v 0 g) (h k (omega arith))
]
