-- The outputs in groups with the same blocks behind them: what is known of a fault once some groups are tried.
-- Shows z m says that pattern m shows it at output z, which has size z patterns. It is looked for at the outputs of `whole`; those of `todo` are still to come.
use Rattle.std.specs.Prelude.{ℕ, ◌<◌, ◌≡◌, ◌⊎◌, true, false, List, get_or}
use Rattle.chip.specs.Search.{digit}
use Rattle.slots.specs.Slots.{rel_of}

-- no pattern showed it yet
pub record Unseen (Shows : ℕ → ℕ → Type 0) (size : ℕ → ℕ) (todo whole left best : ℕ) : Type 0 where
  pub left_is : left ≡ whole
  pub best_is : best ≡ 64
  pub none : (z m : ℕ) → z < 64 → digit z whole ≡ true → digit z todo ≡ false → m < size z → ¬ Shows z m

-- pattern pat is the first that shows it at output best, and no pattern does at a lower output that was tried; the lower ones are left
pub record Seen (Shows : ℕ → ℕ → Type 0) (size : ℕ → ℕ) (todo whole left best pat : ℕ) : Type 0 where
  pub low : best < 64
  pub mine : digit best whole ≡ true
  pub number : pat < size best
  pub shows : Shows best pat
  pub first : (m : ℕ) → m < pat → ¬ Shows best m
  pub left_in : (z : ℕ) → digit z left ≡ true → (digit z whole ≡ true) × (z < best)
  pub left_all : (z : ℕ) → digit z whole ≡ true → z < best → digit z left ≡ true
  pub none : (z m : ℕ) → z < best → digit z whole ≡ true → digit z todo ≡ false → m < size z → ¬ Shows z m

abbrev pub Sofar : (ℕ → ℕ → Type 0) → (ℕ → ℕ) → ℕ → ℕ → ℕ → ℕ → ℕ → Type 0
Sofar Shows size todo whole left best pat = Unseen Shows size todo whole left best ⊎ Seen Shows size todo whole left best pat

-- ---- words of outputs

-- r has the outputs that some of the first n words has
pub record Joined (n : ℕ) (left : List ℕ) (r : ℕ) : Type 0 where
  pub holds : (f z : ℕ) → f < n → digit z (get_or left f 0) ≡ true → digit z r ≡ true
  pub only : (z : ℕ) → digit z r ≡ true → (f : ℕ) × (f < n) × (digit z (get_or left f 0) ≡ true)

-- r has output z, and only outputs with the same of the first n blocks behind them
pub record Alike (n z : ℕ) (reached : List ℕ) (r : ℕ) : Type 0 where
  pub own : digit z r ≡ true
  pub same : (y k : ℕ) → y < 64 → digit y r ≡ true → k < n → rel_of reached y k ≡ rel_of reached z k

-- of the outputs of g, r has those that are in the word exactly if output z is
pub record Parted (g word z r : ℕ) : Type 0 where
  pub within : (y : ℕ) → y < 64 → digit y r ≡ true → (digit y g ≡ true) × (digit y word ≡ digit z word)
  pub own : digit z g ≡ true → digit z r ≡ true
