-- One fault's entries taken on over the chunks from q on.
use Prim.Native.Nat.{ℕ, ◌+◌, ◌*◌, ◌<◌}
use mathlib.Core.Path.{◌≡◌}
use mathlib.Core.Logic.{◌⊎◌, inl, inr, ⊎_elim}
use mathlib.Core.Bool.{Bool, true, false}
use lib.Bits.{bit_and}
use Rattle.chip.specs.Search.{digit}
use Rattle.homes.specs.Homes.{Missed, Hit}
use Rattle.known.specs.Known.{None, Known}
use Rattle.known.specs.Setting.{Advance}
use Rattle.known.proofs.Chunks.{known_missed, known_hit}

-- a fault with no output of the group left stays as it is
pub advance_none : (Shown : ℕ → ℕ → Type 0) (g q left best pat : ℕ) → ((z : ℕ) → digit z (bit_and left g) ≡ true → ⊥) → Advance Shown g q left best pat left best pat
advance_none Shown g q left best pat dark = record { step = λ l b p K. go l b p K }
  where
    none : (n : ℕ) → None Shown g n left
    none n z m zl d l t = dark z d

    go : (l b p : ℕ) → Known Shown g (64 * q) l b p left best pat → Known Shown g (64 * (q + 16)) l b p left best pat
    go l b p (inl O) = inl (record { left_same = O.left_same; best_same = O.best_same; pat_same = O.pat_same; none = none (64 * (q + 16)) })
    go l b p (inr F) = inr (record { low = F.low; mine = F.mine; shows = F.shows; first = F.first; left_in = F.left_in; left_all = F.left_all; none = none (64 * (q + 16)) })

-- a fault that is looked for at the outputs of u, which has those of the group that are left to it; lane z tells the patterns that show it there
pub advance_looked : (Shown : ℕ → ℕ → Type 0) (g q u left best pat left' best' pat' : ℕ) (lane : ℕ → ℕ → Bool)
    → ((z : ℕ) → z < 64 → digit z (bit_and left u) ≡ true → digit z g ≡ true) → ((z : ℕ) → z < 64 → digit z (bit_and left g) ≡ true → digit z u ≡ true)
    → ((z x : ℕ) → z < 64 → digit z (bit_and left u) ≡ true → x < 1024 → lane z x ≡ false → ¬ Shown z (64 * q + x))
    → ((z x : ℕ) → z < 64 → digit z (bit_and left u) ≡ true → x < 1024 → lane z x ≡ true → Shown z (64 * q + x))
    → Missed (bit_and left u) lane left best pat left' best' pat' ⊎ Hit q (bit_and left u) lane left left' best' pat'
    → Advance Shown g q left best pat left' best' pat'
advance_looked Shown g q u left best pat left' best' pat' lane mine all dark light E = record {
  step = λ l₀ b₀ p₀ K. ⊎_elim
      (λ M. known_missed Shown g l₀ b₀ p₀ q u left best pat left' best' pat' lane mine all dark light M K)
      (λ H. known_hit Shown g l₀ b₀ p₀ q u left best pat left' best' pat' lane mine all dark light H K)
      E;
}
