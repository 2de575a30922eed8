-- The faults of a home looked for one after the other.
use Prim.Native.Nat.{ℕ, ◌+◌, ◌-◌, ◌*◌, ◌/◌, ◌%◌, ◌^◌, ◌≤◌, ◌<◌}
use mathlib.Core.Path.{◌≡◌, refl, sym, ap, ◌∙◌}
use mathlib.Core.Logic.{◌⊎◌, inl, inr, ◌≢◌}
use mathlib.Core.Bool.{Bool, true, false, ◌||◌, false≢true}
use mathlib.Core.List.{List}
use native.Mathlib.Omega.{arith}
use native.Mathlib.Decide.{ℕ_discrete, dec_lt}
use borrow.Author.Tests.{lt-ltb, le-ltb}
use lib.ListN.{get_or, replicate, get_or-replicate}
use lib.Bits.{bit_and, bit_or, bit_xor}
use Rattle.chip.specs.Search.{digit}
use Rattle.words.proofs.Bits.{digit_zero, digit_or, digit_ones}
use Rattle.rows.specs.Rows.{Filled}
use Rattle.rows.proofs.Fill.{row_at}
use Rattle.homes.specs.Homes.{home_word, number_of, lane_at, Missed, Hit, Looked, home_lane, LookedHome, HomeLanes}

-- ---- the numbers of a home's faults

pub number_low : (e net pin : ℕ) → e < 2 → number_of e net pin ≡ 2 * net + e
number_low e net pin l = rw (lt-ltb e 2 l) refl

pub number_high : (e net pin : ℕ) → 2 ≤ e → number_of e net pin ≡ 2 * pin + (e - 2)
number_high e net pin l = rw (le-ltb e 2 l) refl

number_one : (d e net pin : ℕ) → net < pin → d ≢ e → number_of d net pin ≢ number_of e net pin
number_one d e net pin a g q = elim (dec_lt d 2) [
  | yes h ↦ elim (dec_lt e 2) [
    | yes k ↦ g (omega (arith, number_low d net pin h, number_low e net pin k))
    | no k ↦ omega (arith, number_low d net pin h, number_high e net pin (omega arith))
  ]
  | no h ↦ elim (dec_lt e 2) [
    | yes k ↦ omega (arith, number_high d net pin (omega arith), number_low e net pin k)
    | no k ↦ g (omega (arith, number_high d net pin (omega arith), number_high e net pin (omega arith)))
  ]
]

-- ---- the same lanes

module _ (lane lane' : ℕ → ℕ → Bool) (same : (z i : ℕ) → i < 1024 → lane z i ≡ lane' z i) where
  missed_same : (u left best pat left' best' pat' : ℕ) → Missed u lane left best pat left' best' pat' → Missed u lane' left best pat left' best' pat'
  missed_same u left best pat left' best' pat' M =
      record { left_same = M.left_same; best_same = M.best_same; pat_same = M.pat_same; none = λ z i a b c. sym (same z i c) ∙ M.none z i a b c }

  hit_same : (q u left left' best' pat' : ℕ) → Hit q u lane left left' best' pat' → Hit q u lane' left left' best' pat'
  hit_same q u left left' best' pat' H =
      record {
        out = H.out;
        at = H.at;
        out_low = H.out_low;
        out_in = H.out_in;
        at_low = H.at_low;
        shows = sym (same H.out H.at H.at_low) ∙ H.shows;
        first = λ i l. sym (same H.out i (omega (arith, H.at_low))) ∙ H.first i l;
        below = λ z i a b c. sym (same z i c) ∙ H.below z i a b c;
        left_is = H.left_is;
        best_is = H.best_is;
        pat_is = H.pat_is;
      }

  pub looked_same : (f q u : ℕ) (left best pat left' best' pat' : List ℕ) → Looked f q u lane left best pat left' best' pat' → Looked f q u lane' left best pat left' best' pat'
  looked_same f q u left best pat left' best' pat' L =
      record {
        long_left = L.long_left;
        long_best = L.long_best;
        long_pat = L.long_pat;
        other_left = L.other_left;
        other_best = L.other_best;
        other_pat = L.other_pat;
        entry = elim L.entry [
          | inl M ↦ inl (missed_same _ _ _ _ _ _ _ M)
          | inr H ↦ inr (hit_same _ _ _ _ _ _ H)
        ];
      }

module _ (kind net pin h a n q u : ℕ) (src outs goods vals left₀ best₀ pat₀ : List ℕ) where
  module _ (m : ℕ) (left best pat : List ℕ) (L : LookedHome m kind net pin h a n q u src outs goods vals left₀ best₀ pat₀ left best pat) (np : net < pin) where
    -- the entry of fault m is still that of the start
    fresh : (get_or left (number_of m net pin) 0 ≡ get_or left₀ (number_of m net pin) 0) × (get_or best (number_of m net pin) 0 ≡ get_or best₀ (number_of m net pin) 0) × (get_or pat (number_of m net pin) 0 ≡ get_or pat₀ (number_of m net pin) 0)
    fresh = L.others (number_of m net pin) (λ e l y. number_one m e net pin np (λ z. omega arith) y)

    pub home_skip : (f : ℕ) → f ≡ number_of m net pin → bit_and (get_or left f 0) u ≡ 0 → LookedHome (m + 1) kind net pin h a n q u src outs goods vals left₀ best₀ pat₀ left best pat
    home_skip f e z =
        record {
          long_left = L.long_left;
          long_best = L.long_best;
          long_pat = L.long_pat;
          others = λ x g. L.others x (λ d l. g d (omega arith));
          entry = λ d l. elim (ℕ_discrete d m) [
            | yes y ↦ rw y (inl (record {
              left_same = fresh.0;
              best_same = fresh.1;
              pat_same = fresh.2;
              none = λ y i b c k. absurd (false≢true (sym (digit_zero y) ∙ ap (digit y) (sym (ap (λ x. bit_and x u) (sym fresh.0) ∙ ap (λ x. bit_and (get_or left x 0) u) (sym e) ∙ z)) ∙ c));
            }))
            | no g ↦ L.entry d (omega arith)
          ];
        }

    pub home_more : (f : ℕ) (blank t left' best' pat' : List ℕ) → f ≡ number_of m net pin
        → Filled 0 16 (λ k. bit_xor (home_word m kind src a n goods k) (get_or goods (16 * h + k) 0)) blank t
        → Looked f q (bit_and (get_or left f 0) u) (λ z. lane_at t (get_or outs z 0) (get_or outs z 0) goods vals) left best pat left' best' pat'
        → LookedHome (m + 1) kind net pin h a n q u src outs goods vals left₀ best₀ pat₀ left' best' pat'
    home_more f blank t left' best' pat' e T K =
        record {
          long_left = K.long_left ∙ L.long_left;
          long_best = K.long_best ∙ L.long_best;
          long_pat = K.long_pat ∙ L.long_pat;
          others = λ x g.
              let o = L.others x (λ d l. g d (omega arith)) in
              let d : x ≢ f = λ y. g m (omega arith) (y ∙ e) in
              (K.other_left x d ∙ o.0, K.other_best x d ∙ o.1, K.other_pat x d ∙ o.2);
          entry = λ d l. elim (ℕ_discrete d m) [
            | yes y ↦ rw y here
            | no g ↦
                let off : number_of d net pin ≢ f = λ y. number_one d m net pin np g (y ∙ e) in
                rw (K.other_left (number_of d net pin) off, K.other_best (number_of d net pin) off, K.other_pat (number_of d net pin) off) (L.entry d (omega arith))
          ];
        }
      where
        lane : ℕ → ℕ → Bool
        lane z = lane_at t (get_or outs z 0) (get_or outs z 0) goods vals

        lane' : ℕ → ℕ → Bool
        lane' = home_lane m kind src a n h outs goods vals

        same : (z i : ℕ) → i < 1024 → lane_at t (get_or outs z 0) (get_or outs z 0) goods vals i ≡ home_lane m kind src a n h outs goods vals z i
        same z i l = ap (λ x. digit (i % 64) (bit_and x (bit_xor (get_or goods (16 * get_or outs z 0 + i / 64) 0) (get_or vals (16 * get_or outs z 0 + i / 64) 0)))) (row_at 16 _ blank t T (i / 64) (omega arith))

        Entry : ℕ → ℕ → ℕ → ℕ → Type 0
        Entry f l b p = Missed (bit_and l u) lane' l b p (get_or left' f 0) (get_or best' f 0) (get_or pat' f 0) ⊎ Hit q (bit_and l u) lane' l (get_or left' f 0) (get_or best' f 0) (get_or pat' f 0)

        turned : Entry f (get_or left f 0) (get_or best f 0) (get_or pat f 0)
        turned = elim K.entry [
          | inl M ↦ inl (missed_same lane lane' same _ _ _ _ _ _ _ M)
          | inr H ↦ inr (hit_same lane lane' same _ _ _ _ _ _ H)
        ]

        here : Entry (number_of m net pin) (get_or left₀ (number_of m net pin) 0) (get_or best₀ (number_of m net pin) 0) (get_or pat₀ (number_of m net pin) 0)
        here = rw (sym fresh.0, sym fresh.1, sym fresh.2) (rw e at turned)

-- ---- the lanes to flip

module _ (kind net pin h a n u : ℕ) (src left goods : List ℕ) where
  pub lanes_all : (m : ℕ) → HomeLanes m kind net pin h a n u src left goods (replicate 16 (2 ^ 64 - 1))
  lanes_all m = record { long = refl; covers = λ e b g k x kl xl w. ap (digit x) (get_or-replicate 16 k _ 0 kl) ∙ digit_ones x xl }

  pub lanes_skip : (m f : ℕ) (acc : List ℕ) → HomeLanes m kind net pin h a n u src left goods acc → f ≡ number_of m net pin → bit_and (get_or left f 0) u ≡ 0
      → HomeLanes (m + 1) kind net pin h a n u src left goods acc
  lanes_skip m f acc H e z =
      record {
        long = H.long;
        covers = λ d b g. elim (ℕ_discrete d m) [
          | yes y ↦ absurd (g (ap (λ x. bit_and (get_or left (number_of x net pin) 0) u) y ∙ ap (λ x. bit_and (get_or left x 0) u) (sym e) ∙ z))
          | no y ↦ H.covers d (omega arith) g
        ];
      }

  pub lanes_join : (m : ℕ) (acc acc' blank t : List ℕ) → HomeLanes m kind net pin h a n u src left goods acc
      → Filled 0 16 (λ k. bit_xor (home_word m kind src a n goods k) (get_or goods (16 * h + k) 0)) blank t → Filled 0 16 (λ k. bit_or (get_or acc k 0) (get_or t k 0)) acc acc'
      → HomeLanes (m + 1) kind net pin h a n u src left goods acc'
  lanes_join m acc acc' blank t H T J =
      record {
        long = J.long ∙ H.long;
        covers = λ d b g k l kl ll w. elim (ℕ_discrete d m) [
          | yes y ↦
              ap (digit l) (row_at 16 _ acc acc' J k kl) ∙ digit_or (get_or acc k 0) (get_or t k 0) l
              ∙ right (digit l (get_or acc k 0)) (digit l (get_or t k 0)) (ap (digit l) (row_at 16 _ blank t T k kl) ∙ ap (λ x. digit l (bit_xor (home_word x kind src a n goods k) (get_or goods (16 * h + k) 0))) (sym y) ∙ w)
          | no y ↦
              ap (digit l) (row_at 16 _ acc acc' J k kl) ∙ digit_or (get_or acc k 0) (get_or t k 0) l
              ∙ left_one (digit l (get_or acc k 0)) (digit l (get_or t k 0)) (H.covers d (omega arith) g k l kl ll w)
        ];
      }
    where
      right : (x y : Bool) → y ≡ true → (x || y) ≡ true
      right true y e = refl
      right false y e = e

      left_one : (x y : Bool) → x ≡ true → (x || y) ≡ true
      left_one true y e = refl
      left_one false y e = absurd (false≢true e)
