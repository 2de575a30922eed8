-- The tables that a group of outputs is tried on: those of the chip, which no group changes, and those of the group.
use Rattle.std.specs.Prelude.{ℕ, ◌+◌, ◌-◌, ◌≤◌, ◌<◌, ◌≡◌, Bool, true, List, length, get_or}
use Rattle.chip.specs.Class.{tally}
use Rattle.chip.specs.Search.{digit}
use Rattle.slots.specs.Slots.{rel_of, Variables, PinSlots}
use Rattle.readers.specs.Readers.{Heads, Built, Lengths}
use Rattle.stages.specs.Stage.{Covers}

-- ---- the chip

-- the first n pins that are branches have blocks that are there, each with branches of one input
pub record Blocked (i n : ℕ) (branches block : List ℕ) : Type 0 where
  pub few_inputs : i ≤ 64
  pub few_pins : n ≤ 4096
  pub there : (p : ℕ) → p < n → get_or branches p 0 < i → get_or block p 0 < 4160
  pub one : (p q : ℕ) → p < n → q < n → get_or branches p 0 < i → get_or branches q 0 < i → get_or block p 0 ≡ get_or block q 0 → get_or branches p 0 ≡ get_or branches q 0

-- the block of each of the first n pins that is a branch has its input
pub record BlockInputs (i n : ℕ) (branches block input : List ℕ) : Type 0 where
  pub long : length input ≡ 4160
  pub at : (p : ℕ) → p < n → get_or branches p 0 < i → get_or input (get_or block p 0) 0 ≡ get_or branches p 0

-- a chip's tables: the outputs that each place reaches, the readers of each block and each cell, the input of each block
pub record Fitted (i c o n : ℕ) (kinds counts firsts nets order branches block cone reach heads readers input : List ℕ) : Type 0 where
  pub sizes : Lengths kinds counts firsts branches nets order block
  pub named : Heads i n branches nets block
  pub reach_long : length reach ≡ 1024
  pub masks : (t : ℕ) → t < c → get_or reach t 0 ≡ get_or cone (get_or firsts (get_or order t 0) 0) 0
  pub built : Built i c (n - o) counts firsts branches nets order block heads readers
  pub inputs : BlockInputs i n branches block input

-- the word of cell j before the first group: 0 if it is a pad buffer, else all outputs left to its faults
pub record BegunAt (i c j : ℕ) (counts firsts sources left : List ℕ) (word : ℕ) : Type 0 where
  pub pad : get_or sources (i + j) 0 < i → word ≡ 0
  pub own : ¬ (get_or sources (i + j) 0 < i) → Covers (i + j) (i + c + get_or firsts j 0) (get_or counts j 0) left word

-- the first n places have their words
pub record Begun (n i c : ℕ) (counts firsts order sources left groups : List ℕ) : Type 0 where
  pub long : length groups ≡ 1024
  pub at : (t : ℕ) → t < n → BegunAt i c (get_or order t 0) counts firsts sources left (get_or groups t 0)

-- ---- a group

-- the outputs of a group g, output z among them: the same of the b blocks stand behind each, at most 16
pub record Group (o b z g : ℕ) (reached : List ℕ) : Type 0 where
  pub own : digit z g ≡ true
  pub output : z < o
  pub outputs : (y : ℕ) → y < 64 → digit y g ≡ true → y < o
  pub same : (y k : ℕ) → y < 64 → digit y g ≡ true → k < b → rel_of reached y k ≡ rel_of reached z k
  pub few : tally (rel_of reached z) b ≤ 16

-- the blocks below n that pass the test, in order
pub record BlockList (n : ℕ) (rel : ℕ → Bool) (list : List ℕ) : Type 0 where
  pub long : length list ≡ 16
  pub at : (k : ℕ) → k < n → rel k ≡ true → get_or list (tally rel k) 0 ≡ k

-- the slots of the first m outputs, whose pins are the last o of n
pub record OutSlots (m o n : ℕ) (src outs : List ℕ) : Type 0 where
  pub long : length outs ≡ 64
  pub at : (y : ℕ) → y < m → get_or outs y 0 ≡ get_or src (n - o + y) 0
  pub rest : (y : ℕ) → m ≤ y → get_or outs y 0 ≡ 0

-- a group's tables, by one of its outputs z: the slots of the n pins and of the outputs, and the blocks of the w variables
pub record Benched (z i o n b w : ℕ) (nets branches block reached src outs list : List ℕ) : Type 0 where
  pub slots : List ℕ
  pub variables : Variables b (rel_of reached z) slots w
  pub pin_slots : PinSlots i n slots branches nets block src
  pub out_slots : OutSlots o o n src outs
  pub listed : BlockList b (rel_of reached z) list
