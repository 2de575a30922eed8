-- The lanes of 16 words, the next bit of a word, a cell with another slot at a pin.
use Prim.Native.Nat.{ℕ, suc, ◌+◌, ◌-◌, ◌*◌, ◌/◌, ◌%◌, ◌^◌, ◌≤◌, ◌<◌}
use mathlib.Core.Path.{◌≡◌, refl, sym, ap, ◌∙◌}
use mathlib.Core.Logic.{◌≢◌, inr}
use mathlib.Core.Bool.{Bool, true, false, not, ◌&&◌, ◌||◌, and-true, and-false, or-true, or-false, false≢true}
use mathlib.Core.List.{List}
use native.Mathlib.Nat.{pow-suc}
use native.Mathlib.Omega.{arith}
use lib.Pow.{pow_mono, pow_pos}
use native.Mathlib.Decide.{ℕ_discrete, dec_lt}
use borrow.Author.Tests.{eq-eqb, ne_eqb}
use lib.ListN.{length, get_or, set, length-set}
use lib.Seq.{get_or-set_same, get_or-set_other}
use lib.Bits.{bit_and, bit_or, bit_xor}
use Rattle.chip.specs.Netlist.{takes}
use Rattle.chip.specs.Search.{digit}
use Rattle.words.specs.Bits.{LowestBit}
use Rattle.words.specs.Lanes.{gate_word}
use Rattle.words.proofs.Bits.{digit_and, digit_or, digit_one, digit_zero, digit_turned, not_turns, word_zero}
use Rattle.chip.proofs.Basics.{some_pin}
use Rattle.words.proofs.Lanes.{gate_same}
use Rattle.rows.specs.Rows.{Filled, on_row}
use Rattle.rows.proofs.Fill.{row_at, fill_same}
use Rattle.rows.proofs.Bits.{bit_below}
use Rattle.homes.specs.Homes.{slot_but, pin_word, lane_at, IsFirstLane, LowestOut, SeenAt, Looked}

-- ---- bits

pub lowest_out : (u z : ℕ) → u < 2 ^ 64 → u ≢ 0 → LowestBit u z → LowestOut u z (bit_and u (2 ^ 64 - 1 - 2 ^ z))
lowest_out u z h g L =
    record {
      low = low;
      mine = L.one low;
      below = L.zeros;
      gone = digit_and u mask z ∙ ap (λ b. digit z u && b) (turn z low ∙ ap not (digit_one z z ∙ eq-eqb z z refl)) ∙ and-false (digit z u);
      others = λ y d. elim (dec_lt y 64) [
        | yes l ↦ digit_and u mask y ∙ ap (λ b. digit y u && b) (turn y l ∙ ap not (digit_one y z ∙ ne_eqb y z d)) ∙ and-true (digit y u)
        | no l ↦ let e : digit y u ≡ false = above y (omega arith) in digit_and u mask y ∙ ap (λ b. b && digit y mask) e ∙ sym e
      ];
    }
  where
    mask : ℕ
    mask = 2 ^ 64 - 1 - 2 ^ z

    low : z < 64
    low = elim (dec_lt z 64) [
      | yes l ↦ l
      | no l ↦ absurd (g (word_zero u h (λ k c. L.zeros k (omega arith))))
    ]

    turn : (y : ℕ) → y < 64 → digit y (2 ^ 64 - 1 - 2 ^ z) ≡ not (digit y (2 ^ z))
    turn y l = ap (digit y) (not_turns (2 ^ z) (omega (arith, pow_mono {i = suc z} {j = 64} low, pow-suc 2 z, pow_pos z))) ∙ digit_turned (2 ^ z) y l

    above : (y : ℕ) → 64 ≤ y → digit y u ≡ false
    above y l = go (digit y u) refl
      where
        go : (b : Bool) → digit y u ≡ b → digit y u ≡ false
        go true e = absurd (omega (arith, bit_below u y h e))
        go false e = e

pub fewer : (u z rest : ℕ) → LowestOut u z rest → rest ≤ u → rest < u
fewer u z rest O l = elim (ℕ_discrete rest u) [
  | yes e ↦ absurd (false≢true (sym O.gone ∙ ap (digit z) e ∙ O.mine))
  | no g ↦ omega arith
]

-- ---- the first lane

module _ (t : List ℕ) (s e : ℕ) (goods vals : List ℕ) where
  abbrev lane : ℕ → Bool
  lane = lane_at t s e goods vals

  abbrev word : ℕ → ℕ
  word k = bit_and (get_or t k 0) (bit_xor (get_or goods (16 * s + k) 0) (get_or vals (16 * e + k) 0))

  pub lanes_more : (k : ℕ) → ((i : ℕ) → i < 64 * k → lane_at t s e goods vals i ≡ false)
      → bit_and (get_or t k 0) (bit_xor (get_or goods (16 * s + k) 0) (get_or vals (16 * e + k) 0)) ≡ 0 → (i : ℕ) → i < 64 * (k + 1) → lane_at t s e goods vals i ≡ false
  lanes_more k f z i l = elim (dec_lt i (64 * k)) [
    | yes h ↦ f i h
    | no g ↦
        let q : i / 64 ≡ k = omega arith in
        ap (λ j. digit (i % 64) (word j)) q ∙ ap (digit (i % 64)) z ∙ digit_zero (i % 64)
  ]

  pub lanes_found : (k x r : ℕ) → k < 16 → ((i : ℕ) → i < 64 * k → lane_at t s e goods vals i ≡ false)
      → x ≡ bit_and (get_or t k 0) (bit_xor (get_or goods (16 * s + k) 0) (get_or vals (16 * e + k) 0)) → x ≢ 0 → x < 2 ^ 64 → LowestBit x r → IsFirstLane (lane_at t s e goods vals) (64 * k + r)
  lanes_found k x r h f y g b L =
      record {
        low = omega (arith, low);
        none = λ i l. elim (dec_lt i (64 * k)) [
          | yes a ↦ f i a
          | no a ↦
              let q : i / 64 ≡ k = omega (arith, L.upto) in
              let m : i % 64 ≡ i - 64 * k = omega (arith, L.upto) in
              ap (λ j. digit (i % 64) (word j)) q ∙ ap (digit (i % 64)) (sym y) ∙ ap (λ j. digit j x) m ∙ L.zeros (i - 64 * k) (omega arith)
        ];
        found =
            let q : (64 * k + r) / 64 ≡ k = omega (arith, low) in
            let m : (64 * k + r) % 64 ≡ r = omega (arith, low) in
            ap (λ j. digit ((64 * k + r) % 64) (word j)) q ∙ ap (digit ((64 * k + r) % 64)) (sym y) ∙ ap (λ j. digit j x) m ∙ L.one low;
      }
    where
      low : r < 64
      low = elim (dec_lt r 64) [
        | yes a ↦ a
        | no a ↦ absurd (g (word_zero x b (λ k c. L.zeros k (omega arith))))
      ]

-- ---- a cell with another slot at a pin

pub pin_words : (kind a n q slot : ℕ) (src vals pins pins' out out' : List ℕ) → takes kind n ≡ true → q < n → n ≤ length pins → Filled 0 n (λ i. get_or src (a + i) 0) pins pins'
    → Filled 0 16 (λ k. gate_word kind (on_row (set pins' q slot) vals k) 0 n) out out' → Filled 0 16 (pin_word kind src a n q slot vals) out out'
pin_words kind a n q slot src vals pins pins' out out' t l h P G = fill_same 0 16 _ _ out out' G (λ k b.
    let one : (i : ℕ) → i < n → get_or (set pins' q slot) i 0 ≡ slot_but src a q slot i = λ i c. elim (ℕ_discrete i q) [
      | yes e ↦ rw (eq-eqb i q e) (ap (λ j. get_or (set pins' q slot) j 0) e ∙ get_or-set_same pins' q slot 0 (omega (arith, P.long)))
      | no d ↦ rw (ne_eqb i q d) (get_or-set_other pins' q i slot 0 d ∙ row_at n _ pins pins' P i c)
    ] in
    let some : 0 < n = some_pin kind n t in
    gate_same (on_row (set pins' q slot) vals k) (λ i. get_or vals (16 * slot_but src a q slot i + k) 0) 0 n kind (ap (λ x. get_or vals (16 * x + k) 0) (one 0 some))
    (λ i c. let z : 0 + i ≡ i = omega arith in rw z (ap (λ x. get_or vals (16 * x + k) 0) (one i c))))

-- ---- where something is seen

-- what holds of the outputs of u that are no longer in rest
pub record Passed (u rest : ℕ) (P : ℕ → Type 0) : Type 0 where
  pub to_come : (y : ℕ) → digit y rest ≡ true → digit y u ≡ true
  pub holds : (y : ℕ) → y < 64 → digit y u ≡ true → digit y rest ≡ false → P y

pub passed_none : (u : ℕ) (P : ℕ → Type 0) → Passed u u P
passed_none u P = record { to_come = λ y d. d; holds = λ y l d e. absurd (false≢true (sym e ∙ d)) }

pub passed_more : (u rest z rest' : ℕ) (P P' : ℕ → Type 0) → Passed u rest P → LowestOut rest z rest' → ((y : ℕ) → y ≢ z → P y → P' y) → P' z → Passed u rest' P'
passed_more u rest z rest' P P' S O f h =
    record {
      to_come = λ y d. elim (ℕ_discrete y z) [
        | yes q ↦ absurd (false≢true (sym O.gone ∙ ap (λ x. digit x rest') (sym q) ∙ d))
        | no n ↦ S.to_come y (sym (O.others y n) ∙ d)
      ];
      holds = λ y l d e. elim (ℕ_discrete y z) [
        | yes q ↦ rw q h
        | no n ↦ f y n (S.holds y l d (sym (O.others y n) ∙ e))
      ];
    }

pub passed_all : (u rest : ℕ) (P : ℕ → Type 0) → Passed u rest P → rest ≡ 0 → (y : ℕ) → y < 64 → digit y u ≡ true → P y
passed_all u rest P S e y l d = S.holds y l d (ap (digit y) e ∙ digit_zero y)

-- a fault looked for: its lanes at the outputs that were passed show nothing, and at the lowest one that was to come they do
pub look_hit : (f q u : ℕ) (lane : ℕ → ℕ → Bool) (left best pat left' best' pat' : List ℕ) (rest z rest' i : ℕ) → f < length left → f < length best → f < length pat
    → Passed u rest (λ y. (j : ℕ) → j < 1024 → lane y j ≡ false) → LowestOut rest z rest' → IsFirstLane (lane z) i
    → left' ≡ set left f (bit_and (get_or left f 0) (2 ^ z - 1)) → best' ≡ set best f z → pat' ≡ set pat f (64 * q + i) → Looked f q u lane left best pat left' best' pat'
look_hit f q u lane left best pat left' best' pat' rest z rest' i ll lb lp S O F el eb ep =
    rw (el, eb, ep) (record {
      long_left = length-set left f _;
      long_best = length-set best f _;
      long_pat = length-set pat f _;
      other_left = λ x g. get_or-set_other left f x _ 0 g;
      other_best = λ x g. get_or-set_other best f x _ 0 g;
      other_pat = λ x g. get_or-set_other pat f x _ 0 g;
      entry = inr (record {
        out = z;
        at = i;
        out_low = O.low;
        out_in = S.to_come z O.mine;
        at_low = F.low;
        shows = F.found;
        first = F.none;
        below = λ y k a b c. S.holds y (omega (arith, O.low)) b (O.below y a) k c;
        left_is = get_or-set_same left f _ 0 ll;
        best_is = get_or-set_same best f z 0 lb;
        pat_is = get_or-set_same pat f _ 0 lp;
      });
    })

-- output z shows no difference
abbrev pub SameAt : List ℕ → List ℕ → List ℕ → ℕ → Type 0
SameAt outs goods vals z = (k : ℕ) → k < 16 → get_or goods (16 * get_or outs z 0 + k) 0 ≡ get_or vals (16 * get_or outs z 0 + k) 0

pub record SeenSo (u rest : ℕ) (outs goods vals : List ℕ) (seen : ℕ) : Type 0 where
  pub within : (y : ℕ) → digit y seen ≡ true → digit y u ≡ true
  pub passed : Passed u rest (λ y. digit y seen ≡ false → SameAt outs goods vals y)

module _ (u : ℕ) (outs goods vals : List ℕ) where
  pub seen_done : (rest seen : ℕ) → rest ≡ 0 → SeenSo u rest outs goods vals seen → SeenAt u outs goods vals seen
  seen_done rest seen e S = record { within = S.within; same = λ y l d. passed_all u rest _ S.passed e y l d }

  pub seen_start : SeenSo u u outs goods vals 0
  seen_start = record { within = λ y e. absurd (false≢true (sym (digit_zero y) ∙ e)); passed = passed_none u _ }

  module _ (rest z rest' seen : ℕ) (S : SeenSo u rest outs goods vals seen) (O : LowestOut rest z rest') where
    pub seen_new : (w : ℕ) → w ≡ 2 ^ z → SeenSo u rest' outs goods vals (bit_or seen w)
    seen_new w e =
        record {
          within = λ y d. elim (ℕ_discrete y z) [
            | yes q ↦ rw q (S.passed.to_come z O.mine)
            | no n ↦ S.within y (sym (old y n) ∙ d)
          ];
          passed = passed_more u rest z rest' _ _ S.passed O (λ y n p f. p (sym (old y n) ∙ f))
              (λ f. absurd (false≢true (sym f ∙ digit_or seen w z ∙ ap (λ x. digit z seen || x) (ap (digit z) e ∙ digit_one z z ∙ eq-eqb z z refl) ∙ or-true (digit z seen))));
        }
      where
        old : (y : ℕ) → y ≢ z → digit y (bit_or seen w) ≡ digit y seen
        old y n = digit_or seen w y ∙ ap (λ x. digit y seen || x) (ap (digit y) e ∙ digit_one y z ∙ ne_eqb y z n) ∙ or-false (digit y seen)
