-- The places that read each block and each cell, by counting.
use Rattle.std.specs.Prelude.{ℕ, ◌+◌, ◌-◌, ◌≤◌, ◌<◌, ◌≡◌, ◌≢◌, cond, List, length, get_or, eqb, ltb}
use Rattle.chip.specs.Class.{tally}
use Rattle.readers.specs.declared.Pins.{Pins}

-- the head of a pin: its block if it is a branch, else 4160 and the number of the cell that it names; what a pin that is neither reads does not matter
abbrev pub head_of : ℕ → ℕ → ℕ → ℕ → ℕ
head_of i branch net block = cond (ltb branch i) block (4160 + (net - i))

abbrev pub key_of : ℕ → List ℕ → List ℕ → List ℕ → ℕ → ℕ
key_of i branches nets block p = head_of i (get_or branches p 0) (get_or nets p 0) (get_or block p 0)

-- how many of the first n pins have head s, and how many a lower one
abbrev pub same : (ℕ → ℕ) → ℕ → ℕ → ℕ
same key s n = tally (λ p. eqb (key p) s) n

abbrev pub under : (ℕ → ℕ) → ℕ → ℕ → ℕ
under key s n = tally (λ p. ltb (key p) s) n

-- the entry of pin p among the readers, of n in all
abbrev pub spot : (ℕ → ℕ) → ℕ → ℕ → ℕ
spot key n p = under key (key p) n + same key (key p) p

-- the first n pins name blocks and cells that are there
pub record Heads (i n : ℕ) (branches nets block : List ℕ) : Type 0 where
  pub few_inputs : i ≤ 64
  pub few_pins : n ≤ 4096
  pub branches_long : length branches ≡ 4096
  pub nets_long : length nets ≡ 4096
  pub block_long : length block ≡ 4096
  pub named : (p : ℕ) → p < n → (get_or branches p 0 < i → get_or block p 0 < 4160) × (get_or nets p 0 < i + 1024)

-- the same of the pins of a chip
abbrev pub pin_key : Pins → ℕ → ℕ
pin_key P = key_of P.inputs P.branches.now P.nets.now P.block.now

abbrev pub PinHeads : Pins → ℕ → Type 0
PinHeads P n = Heads P.inputs n P.branches.now P.nets.now P.block.now

-- c cells in an order, with n pins
pub record Wires (i c n : ℕ) (counts firsts branches nets order block : List ℕ) : Type 0 where
  pub heads : Heads i n branches nets block
  pub few : c ≤ 1024
  pub some : 0 < n → 0 < c
  pub listed : c ≤ length order
  pub counted : (t : ℕ) → t < c → get_or order t 0 < length counts
  pub first : (t : ℕ) → t < c → get_or order t 0 < length firsts
  pub pins : (t : ℕ) → t < c → get_or firsts (get_or order t 0) 0 + get_or counts (get_or order t 0) 0 ≤ n
  pub apart : (s t x y : ℕ) → s < c → t < c → s ≢ t → x < get_or counts (get_or order s 0) 0 → y < get_or counts (get_or order t 0) 0
      → get_or firsts (get_or order s 0) 0 + x ≢ get_or firsts (get_or order t 0) 0 + y

-- the pins of the first t places have their place in the table
pub record Owned (t c : ℕ) (counts firsts order owner : List ℕ) : Type 0 where
  pub long : length owner ≡ 4096
  pub small : 0 < c → (x : ℕ) → get_or owner x 0 < c
  pub place : (s x : ℕ) → s < t → x < get_or counts (get_or order s 0) 0 → get_or owner (get_or firsts (get_or order s 0) 0 + x) 0 ≡ s

-- each of c places has the outputs of its first pin
pub record Reached (c : ℕ) (firsts order cone before reach : List ℕ) : Type 0 where
  pub long : length reach ≡ length before
  pub mask : (t : ℕ) → t < c → get_or reach t 0 ≡ get_or cone (get_or firsts (get_or order t 0) 0) 0

-- the first k pins are counted
pub record Counted (k : ℕ) (key : ℕ → ℕ) (heads : List ℕ) : Type 0 where
  pub long : length heads ≡ 5185
  pub at : (s : ℕ) → s < 5185 → get_or heads s 0 ≡ same key s k

-- the counts of the heads below s are summed up
pub record Summed (s n : ℕ) (key : ℕ → ℕ) (heads : List ℕ) (sum : ℕ) : Type 0 where
  pub long : length heads ≡ 5185
  pub upto : sum ≡ under key s n
  pub done : (x : ℕ) → x < s → get_or heads x 0 ≡ under key (x + 1) n
  pub rest : (x : ℕ) → s ≤ x → x < 5185 → get_or heads x 0 ≡ same key x n

-- the heads when the pins from pin k on have their entries among the readers
pub record Put (k n : ℕ) (key : ℕ → ℕ) (heads : List ℕ) : Type 0 where
  pub long : length heads ≡ 5185
  pub at : (s : ℕ) → s < 5185 → get_or heads s 0 ≡ under key s n + same key s k

-- those entries
pub record Read (k n c : ℕ) (key : ℕ → ℕ) (owner readers : List ℕ) : Type 0 where
  pub long : length readers ≡ n
  pub small : 0 < c → (r : ℕ) → get_or readers r 0 < c
  pub entry : (p : ℕ) → k ≤ p → p < n → get_or readers (spot key n p) 0 ≡ get_or owner p 0

-- the readers of each head
pub record Built (i c n : ℕ) (counts firsts branches nets order block heads readers : List ℕ) : Type 0 where
  pub long : length heads ≡ 5185
  pub up : (x : ℕ) → x < 5184 → get_or heads x 0 ≤ get_or heads (x + 1) 0
  pub held : (x : ℕ) → x < 5185 → get_or heads x 0 ≤ length readers
  pub reader : (r : ℕ) → r < length readers → get_or readers r 0 < c
  pub reads : (t x : ℕ) → t < c → x < get_or counts (get_or order t 0) 0
      → (r : ℕ) × (get_or heads (key_of i branches nets block (get_or firsts (get_or order t 0) 0 + x)) 0 ≤ r)
      × (r < get_or heads (key_of i branches nets block (get_or firsts (get_or order t 0) 0 + x) + 1) 0) × (get_or readers r 0 ≡ t)

-- the lengths of the tables
pub record Lengths (kinds counts firsts branches nets order block : List ℕ) : Type 0 where
  pub kinds_long : length kinds ≡ 1024
  pub counts_long : length counts ≡ 1024
  pub firsts_long : length firsts ≡ 1025
  pub branches_long : length branches ≡ 4096
  pub nets_long : length nets ≡ 4096
  pub order_long : length order ≡ 1024
  pub block_long : length block ≡ 4096
