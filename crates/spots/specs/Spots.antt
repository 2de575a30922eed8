-- The variables of a pattern and their places in a play, and the play that these places give.
use Rattle.std.specs.Prelude.{ℕ, suc, ◌+◌, ◌*◌, ◌-◌, ◌≤◌, ◌<◌, ◌≡◌, ◌≢◌, List, length, get_or}
use Rattle.chip.specs.Netlist.{Netlist, bit}
use Rattle.chip.specs.Class.{Lowest, blocks, tally}
use Rattle.chip.specs.Clocks.{BlockAt}
use Rattle.chip.specs.Search.{digit}
use Rattle.slots.specs.Slots.{rel_of}

-- ---- any variables

-- the variables of a pattern: how many there are, the input of each, and how many clocks back from the last it stands
pub record Drivers : Type 0 where
  pub count : ℕ
  pub input : ℕ → ℕ
  pub back : ℕ → ℕ

-- row z of the table has the places of the variables in a play of d + 1 clocks of i inputs, no two at one place
pub record RowHolds (i d z : ℕ) (D : Drivers) (spots : List ℕ) : Type 0 where
  pub few : D.count ≤ 16
  pub is_input : (k : ℕ) → k < D.count → D.input k < i
  pub in_time : (k : ℕ) → k < D.count → D.back k ≤ d
  pub apart : (k j : ℕ) → k < D.count → j < D.count → D.input k ≡ D.input j → D.back k ≡ D.back j → k ≡ j
  pub place : (k : ℕ) → k < D.count → get_or spots (16 * z + k) 0 ≡ (d - D.back k) * i + D.input k

-- each bit of m stands at its variable's place in the play of d + 1 clocks of i inputs that begins the buffer, every other place of the play is 0, and what lies behind it is kept
pub record Spread (i d m : ℕ) (D : Drivers) (entry exit : List ℕ) : Type 0 where
  pub on : (k : ℕ) → k < D.count → get_or exit ((d - D.back k) * i + D.input k) 0 ≡ bit (digit k m)
  pub off : (t x : ℕ) → t ≤ d → x < i → ((k : ℕ) → k < D.count → t + D.back k ≡ d → D.input k ≢ x) → get_or exit (t * i + x) 0 ≡ 0
  pub bits : (q : ℕ) → q < suc d * i → get_or exit q 0 ≤ 1
  pub behind : (q : ℕ) → suc d * i ≤ q → get_or exit q 0 ≡ get_or entry q 0
  pub long : length exit ≡ length entry

-- ---- blocks

-- row z has the places of the blocks that reach output z, the first 16 of them: that of its input at clock d - e, e the depth with which the block reaches z
pub record BlockSpots (N : Netlist) (d z : ℕ) (reached spots : List ℕ) : Type 0 where
  pub spot : (low : ℕ → ℕ) → Lowest N low → (b e : ℕ) → BlockAt N (blocks N low) z b e → tally (rel_of reached z) b < 16
      → get_or spots (16 * z + tally (rel_of reached z) b) 0 ≡ (d - e) * N.inputs + (blocks N low).input b

-- so has the row of each output
pub record Spots (N : Netlist) (d : ℕ) (reached spots : List ℕ) : Type 0 where
  pub row : (z : ℕ) → z < N.outs → BlockSpots N d z reached spots
