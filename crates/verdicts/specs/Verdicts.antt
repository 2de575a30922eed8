-- The answers for all faults of a chip at once, fault f = 2 * s + v for site s stuck at v: the nets are the first sites, then come the pins.
use Rattle.std.specs.Prelude.{ℕ, ◌+◌, ◌*◌, ◌≤◌, ◌<◌, ◌≡◌, true, List, get_or}
use Rattle.chip.specs.Inner.Tables.{tabled}
use Rattle.chip.specs.Class.{Lowest}
use Rattle.chip.specs.Search.{digit}
use Rattle.slots.specs.Slots.{rel_of}
use Rattle.known.specs.Setting.{Shows, Long}
use Rattle.stages.specs.Stage.{OutsOnly}
use Rattle.outputs.specs.Sites.{size_of}
use Rattle.outputs.specs.Groups.{Sofar}
use Rattle.groups.specs.Chunks.{Ended}
use Rattle.walk.specs.Walk.{width_of}

-- what is looked for: each fault at outputs that are there, with at most 16 blocks behind each; a stuck pin of an output at that output only
pub record Sought (i c o n b : ℕ) (reached left best : List ℕ) : Type 0 where
  pub outputs : (f z : ℕ) → f < 2 * (i + c + n) → digit z (get_or left f 0) ≡ true → (z < o) × (width_of b reached z ≤ 16)
  pub none_yet : (f : ℕ) → f < 2 * (i + c + n) → get_or best f 0 ≡ 64
  pub only : OutsOnly i c o n left

-- all faults once the group g of output z is tried
pub record LikeTried (i c o n b z g : ℕ) (kinds counts nets reached left best pat left' best' pat' : List ℕ) : Type 0 where
  pub long : Long left' best' pat'
  pub ended : (low : ℕ → ℕ) → Lowest (tabled i c o kinds counts nets) low → (f : ℕ) → f < 2 * (i + c + n)
      → Ended (Shows i c o kinds counts nets low (rel_of reached) f) g (size_of b reached z) (get_or left f 0) (get_or best f 0) (get_or pat f 0) (get_or left' f 0) (get_or best' f 0) (get_or pat' f 0)

-- what is known of each fault once the outputs that are not in todo are tried; those of `whole` are to be
pub record AllSofar (i c o n b todo : ℕ) (kinds counts nets reached whole left best pat : List ℕ) : Type 0 where
  pub long : Long left best pat
  pub fault : (low : ℕ → ℕ) → Lowest (tabled i c o kinds counts nets) low → (f : ℕ) → f < 2 * (i + c + n)
      → Sofar (Shows i c o kinds counts nets low (rel_of reached) f) (size_of b reached) todo (get_or whole f 0) (get_or left f 0) (get_or best f 0) (get_or pat f 0)
