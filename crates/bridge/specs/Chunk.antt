-- 16 words from chunk q on: the good words, and those after the flip of one home.
use Rattle.std.specs.Prelude.{ℕ, ◌+◌, ◌*◌, ◌-◌, ◌/◌, ◌%◌, ◌^◌, ◌≤◌, ◌<◌, ◌≡◌, ◌≢◌, cond, List, get_or, ltb}
use Rattle.std.specs.Int.Bits.{bit_xor}
use Rattle.chip.specs.Search.{digit}
use Rattle.chip.specs.declared.Site.TheVariants.{Net, Pin}
use Rattle.chip.specs.declared.Fault.{Fault}
use Rattle.events.specs.Events.{Live, Obeys}

-- the variables hold the bits of the patterns from 64 q on, and the constants stand in their slots
pub record Chunk (w q : ℕ) (goods : List ℕ) : Type 0 where
  pub bits : (s k l : ℕ) → s < w → k < 16 → l < 64 → digit l (get_or goods (16 * s + k) 0) ≡ digit s (64 * (q + k) + l)
  pub zeros : (k : ℕ) → k < 16 → get_or goods (16 * 1040 + k) 0 ≡ 0
  pub ones : (k : ℕ) → k < 16 → get_or goods (16 * 1041 + k) 0 ≡ 2 ^ 64 - 1

-- the home at place p is flipped in the lanes of `turn`, and all places behind it that reach an output of u hold what their cells then show
pub record Flipped (c u p : ℕ) (kinds counts firsts src order reach goods vals : List ℕ) (turn : ℕ → ℕ) : Type 0 where
  pub obeys : (t : ℕ) → t < c → t ≢ p → Live reach u t → Obeys kinds counts firsts src order vals t
  pub home : (k : ℕ) → k < 16 → get_or vals (16 * (16 + get_or order p 0) + k) 0 ≡ bit_xor (get_or goods (16 * (16 + get_or order p 0) + k) 0) (turn k)
  pub before : (x : ℕ) → ((t : ℕ) → p ≤ t → t < c → x / 16 ≢ 16 + get_or order t 0) → get_or vals x 0 ≡ get_or goods x 0

-- fault e of the cell j with its pins from pin a on, in a chip with as many inputs as i
abbrev pub fault_at : ℕ → ℕ → ℕ → ℕ → Fault
fault_at e i j a = record { site = cond (ltb e 2) (Net (i + j)) (Pin (a + (e / 2 - 1))); stuck = e % 2 }
