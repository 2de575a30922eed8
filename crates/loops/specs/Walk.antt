-- What holds while the cells that feed a net are listed: those on the list are followed back, one after the other.
use Rattle.std.specs.Prelude.{ℕ, ◌+◌, ◌≤◌, ◌<◌, ◌≡◌, true, List, get_or}
use Rattle.chip.specs.Class.{Feeds}
use Rattle.chip.specs.Inner.Tables.{FirstPins, tabled}
use Rattle.order.specs.Placed.{PinAt, Listed, fed}

-- The pins of cell j before pin `to` are followed: behind the cells that were on the list stand cells that drive one of them,
-- and each of them names an input or a cell on the list.
pub record Followed (i c : ℕ) (firsts nets : List ℕ) (j : ℕ) (list : List ℕ) (before : ℕ) (list' places : List ℕ) (n to : ℕ) : Type 0 where
  pub listed : Listed c list' places n
  pub more : before ≤ n
  pub kept : (k : ℕ) → k < before → get_or list' k 0 ≡ get_or list k 0
  pub drives : (k : ℕ) → before ≤ k → k < n → (p : ℕ) × PinAt firsts j p × (get_or nets p 0 ≡ i + get_or list' k 0)
  pub named : (p : ℕ) → get_or firsts j 0 ≤ p → p < to → fed i places (get_or nets p 0) ≡ true

-- each pin of cell j names an input or a cell on the list
abbrev pub Named : ℕ → List ℕ → List ℕ → List ℕ → ℕ → Type 0
Named i firsts nets places j = (p : ℕ) → PinAt firsts j p → fed i places (get_or nets p 0) ≡ true

-- n cells are on the list, all of which feed the net of cell `own`; its pins are followed, and so are those of the first k on the list
pub record Walked (i c : ℕ) (firsts nets : List ℕ) (own : ℕ) (list places : List ℕ) (n k : ℕ) : Type 0 where
  pub listed : Listed c list places n
  pub feeds : (h o : ℕ) (kinds counts : List ℕ) → h < n → FirstPins (tabled i c o kinds counts nets) firsts → Feeds (tabled i c o kinds counts nets) (i + get_or list h 0) (i + own)
  pub own_pins : Named i firsts nets places own
  pub pins : (h : ℕ) → h < k → Named i firsts nets places (get_or list h 0)
