-- The faults at one cell, its home: fault e < 2 is the cell's net stuck at e, fault 2 + 2 * i + v its pin i stuck at v.
-- Slot 1040 holds zeros and slot 1041 ones. Lane i of 16 words is bit i % 64 of word i / 64.
use Rattle.std.specs.Prelude.{ℕ, Option, MatchOption, ◌+◌, ◌*◌, ◌-◌, ◌/◌, ◌%◌, ◌^◌, ◌≤◌, ◌<◌, ◌≡◌, ◌⊎◌, ◌≢◌, Bool, true, false, cond, List, length, get_or, eqb, ltb}
use Rattle.std.specs.Int.Bits.{bit_and, bit_xor}
use Rattle.chip.specs.Netlist.{takes}
use Rattle.chip.specs.Search.{digit}
use Rattle.words.specs.Lanes.{gate_word}
use Rattle.rows.specs.Rows.{Pins}

-- the slot of pin i of a cell with its pins from pin a on, whose pin q looks at another slot
abbrev pub slot_but : List ℕ → ℕ → ℕ → ℕ → ℕ → ℕ
slot_but src a q slot i = cond (eqb i q) slot (get_or src (a + i) 0)

-- what the cell then shows in word k
abbrev pub pin_word : ℕ → List ℕ → ℕ → ℕ → ℕ → ℕ → List ℕ → ℕ → ℕ
pin_word kind src a n q slot vals k = gate_word kind (λ i. get_or vals (16 * slot_but src a q slot i + k) 0) 0 n

-- what the home shows in word k under fault e
abbrev pub home_word : ℕ → ℕ → List ℕ → ℕ → ℕ → List ℕ → ℕ → ℕ
home_word e kind src a n vals k = cond (ltb e 2) (get_or vals (16 * (1040 + e) + k) 0) (pin_word kind src a n (e / 2 - 1) (1040 + e % 2) vals k)

-- the number of fault e of a home whose net is a site and whose pins are sites from another on
abbrev pub number_of : ℕ → ℕ → ℕ → ℕ
number_of e net pin = cond (ltb e 2) (2 * net + e) (2 * pin + (e - 2))

-- a cell with n pins from pin a on
pub record Home (kind : ℕ) (src : List ℕ) (size a n : ℕ) : Type 0 where
  pub taken : takes kind n ≡ true
  pub known : kind < 10
  pub few : n ≤ 8
  pub pins : Pins src size a n
  pub room : 16672 ≤ size

-- ---- lanes

-- lane i of t and of the difference of the good words at slot s and the words at slot e
abbrev pub lane_at : List ℕ → ℕ → ℕ → List ℕ → List ℕ → ℕ → Bool
lane_at t s e goods vals i = digit (i % 64) (bit_and (get_or t (i / 64) 0) (bit_xor (get_or goods (16 * s + i / 64) 0) (get_or vals (16 * e + i / 64) 0)))

-- r is the first of 1,024 lanes that is set
pub record IsFirstLane (lane : ℕ → Bool) (r : ℕ) : Type 0 where
  pub low : r < 1024
  pub none : (i : ℕ) → i < r → lane i ≡ false
  pub found : lane r ≡ true

-- z is the lowest output of u, and rest has the others
pub record LowestOut (u z rest : ℕ) : Type 0 where
  pub low : z < 64
  pub mine : digit z u ≡ true
  pub below : (y : ℕ) → y < z → digit y u ≡ false
  pub gone : digit z rest ≡ false
  pub others : (y : ℕ) → y ≢ z → digit y rest ≡ digit y u

-- the lowest output of u is taken out, if there is one
abbrev pub TakesOut : ℕ → Option ℕ → ℕ → Type 0
TakesOut u r rest = MatchOption r (u ≡ 0) (λ z. LowestOut u z rest)

-- outputs of u that are not in r show no difference
pub record SeenAt (u : ℕ) (outs goods vals : List ℕ) (r : ℕ) : Type 0 where
  pub within : (z : ℕ) → digit z r ≡ true → digit z u ≡ true
  pub same : (z : ℕ) → z < 64 → digit z u ≡ true → digit z r ≡ false → (k : ℕ) → k < 16 → get_or goods (16 * get_or outs z 0 + k) 0 ≡ get_or vals (16 * get_or outs z 0 + k) 0

-- ---- one fault looked for at the outputs of u in the chunks from q on; its lanes at output z are lane z. Its entries before and after: the outputs left, the best output and its pattern

pub record Missed (u : ℕ) (lane : ℕ → ℕ → Bool) (left best pat left' best' pat' : ℕ) : Type 0 where
  pub left_same : left' ≡ left
  pub best_same : best' ≡ best
  pub pat_same : pat' ≡ pat
  pub none : (z i : ℕ) → z < 64 → digit z u ≡ true → i < 1024 → lane z i ≡ false

pub record Hit (q u : ℕ) (lane : ℕ → ℕ → Bool) (left left' best' pat' : ℕ) : Type 0 where
  pub out : ℕ
  pub at : ℕ
  pub out_low : out < 64
  pub out_in : digit out u ≡ true
  pub at_low : at < 1024
  pub shows : lane out at ≡ true
  pub first : (i : ℕ) → i < at → lane out i ≡ false
  pub below : (z i : ℕ) → z < out → digit z u ≡ true → i < 1024 → lane z i ≡ false
  pub left_is : left' ≡ bit_and left (2 ^ out - 1)
  pub best_is : best' ≡ out
  pub pat_is : pat' ≡ 64 * q + at

pub record Looked (f q u : ℕ) (lane : ℕ → ℕ → Bool) (left best pat left' best' pat' : List ℕ) : Type 0 where
  pub long_left : length left' ≡ length left
  pub long_best : length best' ≡ length best
  pub long_pat : length pat' ≡ length pat
  pub other_left : (x : ℕ) → x ≢ f → get_or left' x 0 ≡ get_or left x 0
  pub other_best : (x : ℕ) → x ≢ f → get_or best' x 0 ≡ get_or best x 0
  pub other_pat : (x : ℕ) → x ≢ f → get_or pat' x 0 ≡ get_or pat x 0
  pub entry : Missed u lane (get_or left f 0) (get_or best f 0) (get_or pat f 0) (get_or left' f 0) (get_or best' f 0) (get_or pat' f 0) ⊎ Hit q u lane (get_or left f 0) (get_or left' f 0) (get_or best' f 0) (get_or pat' f 0)

-- ---- the open faults of a home

-- the lanes of fault e at output z: in which the home differs, and the output's slot
abbrev pub home_lane : ℕ → ℕ → List ℕ → ℕ → ℕ → ℕ → List ℕ → List ℕ → List ℕ → ℕ → ℕ → Bool
home_lane e kind src a n h outs goods vals z i = digit (i % 64)
    (bit_and (bit_xor (home_word e kind src a n goods (i / 64)) (get_or goods (16 * h + i / 64) 0)) (bit_xor (get_or goods (16 * get_or outs z 0 + i / 64) 0) (get_or vals (16 * get_or outs z 0 + i / 64) 0)))

-- the first m faults of the home are looked for at those outputs of u that are left to them, and no other entry changed
pub record LookedHome (m kind net pin h a n q u : ℕ) (src outs goods vals left best pat left' best' pat' : List ℕ) : Type 0 where
  pub long_left : length left' ≡ 10368
  pub long_best : length best' ≡ 10368
  pub long_pat : length pat' ≡ 10368
  pub others : (x : ℕ) → ((e : ℕ) → e < m → x ≢ number_of e net pin) → (get_or left' x 0 ≡ get_or left x 0) × (get_or best' x 0 ≡ get_or best x 0) × (get_or pat' x 0 ≡ get_or pat x 0)
  pub entry : (e : ℕ) → e < m → let f = number_of e net pin in let u' = bit_and (get_or left f 0) u in
      Missed u' (home_lane e kind src a n h outs goods vals) (get_or left f 0) (get_or best f 0) (get_or pat f 0) (get_or left' f 0) (get_or best' f 0) (get_or pat' f 0)
      ⊎ Hit q u' (home_lane e kind src a n h outs goods vals) (get_or left f 0) (get_or left' f 0) (get_or best' f 0) (get_or pat' f 0)

-- the lanes of `turn` hold those in which fault e differs at its home, in slot h
abbrev pub Within : ℕ → ℕ → List ℕ → ℕ → ℕ → ℕ → List ℕ → (ℕ → ℕ) → Type 0
Within e kind src a n h goods turn = (k l : ℕ) → k < 16 → l < 64 → digit l (bit_xor (home_word e kind src a n goods k) (get_or goods (16 * h + k) 0)) ≡ true → digit l (turn k) ≡ true

-- the lanes of acc hold those of the first m faults of the home that are open at an output of u
pub record HomeLanes (m kind net pin h a n u : ℕ) (src left goods acc : List ℕ) : Type 0 where
  pub long : length acc ≡ 16
  pub covers : (e : ℕ) → e < m → bit_and (get_or left (number_of e net pin) 0) u ≢ 0 → Within e kind src a n h goods (λ k. get_or acc k 0)
