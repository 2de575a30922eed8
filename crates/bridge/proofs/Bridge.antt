-- The lanes of a home's fault at an output are those whose patterns show it there.
use Prim.Native.Nat.{ℕ, zero, suc, ◌+◌, ◌-◌, ◌*◌, ◌/◌, ◌%◌, ◌≤◌, ◌<◌}
use mathlib.Core.Path.{◌≡◌, refl, sym, ap, ap₂, ◌∙◌, subst}
use mathlib.Core.Logic.{◌↔◌, ◌≢◌}
use mathlib.Core.Bool.{Bool, true, false, cond, ◌&&◌, xor}
use mathlib.Core.List.{List}
use native.Mathlib.Omega.{arith}
use native.Mathlib.Decide.{ℕ_discrete, dec_lt}
use borrow.Author.Tests.{eq-eqb, ne_eqb, lt-ltb, le-ltb}
use lib.ListN.{get_or}
use lib.Dec.{eqb}
use lib.Bits.{bit_and, bit_xor}
use Rattle.chip.specs.Netlist.{PinOf, first_pin, out_pin, gate}
use Rattle.chip.specs.Inner.Tables.{tabled}
use Rattle.chip.specs.Pads.{pad_buffer}
use Rattle.chip.specs.Class.{blocks}
use Rattle.chip.specs.Faults.{stuck, ones}
use Rattle.chip.specs.Search.{digit, width, Tried}
use Rattle.chip.specs.declared.Site.TheVariants.{Net, Pin}
use Rattle.chip.specs.declared.Fault.{Fault}
use Rattle.words.proofs.Bits.{digit_and, digit_xor, digit_zero, digit_ones}
use Rattle.words.proofs.Lanes.{gate_lane}
use Rattle.rows.specs.Rows.{on_row}
use Rattle.rows.proofs.Bits.{meet, some_bit}
use Rattle.slots.specs.Slots.{in_cone}
use Rattle.flip.specs.Bed.{Bed, made, Start, Rules}
use Rattle.flip.proofs.Flips.{net_lane, pin_lane}
use Rattle.events.specs.Events.{Live, Obeys}
use Rattle.homes.specs.Homes.{slot_but, pin_word, home_word, number_of, home_lane, Within}
use Rattle.bridge.specs.Chunk.{Chunk, Flipped, fault_at}
use Rattle.faults.specs.Numbers.{fault_number}
use Rattle.faults.proofs.Numbers.{fault_net, fault_pin}

xor_comm : (a b : Bool) → xor a b ≡ xor b a
unfolding xor
xor_comm true true = refl
xor_comm true false = refl
xor_comm false true = refl
xor_comm false false = refl

-- ones among pins counted from another place
ones_from : (f g : ℕ → Bool) (a n : ℕ) → ((i : ℕ) → i < n → f (0 + i) ≡ g (a + i)) → ones f 0 n ≡ ones g a n
ones_from f g a zero h = refl
ones_from f g a (suc n) h = let e : ones f 0 n ≡ ones g a n = ones_from f g a n (λ i l. h i (omega arith)) in let d : f (0 + n) ≡ g (a + n) = h n (omega arith) in cc

-- ---- fault e of a home by its number

pub fault_number_lem : (e i c j a : ℕ) → j < c → ◌≡◌ {A = Fault} (fault_at e i j a) (fault_number (i + c) (number_of e (i + j) (i + c + a)))
fault_number_lem e i c j a l = elim (dec_lt e 2) [
  | yes b ↦
      let n : number_of e (i + j) (i + c + a) ≡ 2 * (i + j) + e = ap (λ r. cond r (2 * (i + j) + e) (2 * (i + c + a) + (e - 2))) (lt-ltb e 2 b) in
      let here : ◌≡◌ {A = Fault} (fault_at e i j a) (record { site = Net (i + j); stuck = e % 2 }) = rw (lt-ltb e 2 b) refl in
      here ∙ sym (fault_net (i + c) (number_of e (i + j) (i + c + a)) (i + j) (e % 2) (omega (arith, n)) (omega (arith, n)) (omega arith))
  | no b ↦
      let n : number_of e (i + j) (i + c + a) ≡ 2 * (i + c + a) + (e - 2) = ap (λ r. cond r (2 * (i + j) + e) (2 * (i + c + a) + (e - 2))) (le-ltb e 2 (omega arith)) in
      let here : ◌≡◌ {A = Fault} (fault_at e i j a) (record { site = Pin (a + (e / 2 - 1)); stuck = e % 2 }) = rw (le-ltb e 2 (omega arith)) refl in
      here ∙ sym (fault_pin (i + c) (number_of e (i + j) (i + c + a)) (a + (e / 2 - 1)) (e % 2) (omega (arith, n)) (omega (arith, n)))
]

-- the slots in lane l of word k
abbrev pub lane : ℕ → ℕ → List ℕ → ℕ → Bool
lane k l vals s = digit l (get_or vals (16 * s + k) 0)

module _ (i c o : ℕ) (kinds counts nets firsts order cone reach src : List ℕ) (low : ℕ → ℕ) (rel : ℕ → ℕ → Bool) (z u : ℕ)
    (Q : Bed (tabled i c o kinds counts nets) low rel z firsts order cone src) (zu : digit z u ≡ true)
    (M : (t : ℕ) → t < c → get_or reach t 0 ≡ get_or cone (get_or firsts (get_or order t 0) 0) 0) where
  -- a cell that reaches z is live
  live : (t : ℕ) → t < c → in_cone firsts cone z (get_or order t 0) ≡ true → Live reach u t
  live t l e q = some_bit (bit_and (get_or reach t 0) u) z (meet (get_or reach t 0) u z (ap (digit z) (M t l) ∙ e) zu) q

  -- words that obey the rules but at place p do so in each lane
  rules : (vals : List ℕ) (j₀ k l : ℕ) → k < 16 → l < 64 → ((t : ℕ) → t < c → get_or order t 0 ≢ j₀ → Live reach u t → Obeys kinds counts firsts src order vals t)
      → Rules (tabled i c o kinds counts nets) firsts cone z j₀ (λ p. lane k l vals (get_or src p 0)) (lane k l vals)
  rules vals j₀ k l kl ll O =
      record {
        cell = λ j h d e.
            let (a, q) = Q.ordered.placed j h in
            let t : ℕ = Q.ordered.place j in
            let s : lane k l vals (16 + get_or order t 0) ≡ made (tabled i c o kinds counts nets) firsts (λ p. lane k l vals (get_or src p 0)) (get_or order t 0) =
            ap (digit l) ((O t a (λ y. d (sym q ∙ y)) (live t a (rw q e))).rule k kl)
            ∙ gate_lane (on_row src vals k) (get_or firsts (get_or order t 0) 0) (get_or counts (get_or order t 0) 0) l ll (get_or kinds (get_or order t 0) 0) (Q.limits.pins_taken (get_or order t 0) (Q.ordered.cell t a)) in
            rw q at s;
      }

  module _ (q : ℕ) (goods : List ℕ) (C : Chunk (width (blocks (tabled i c o kinds counts nets) low) rel z) q goods)
      (O : (t : ℕ) → t < c → Live reach u t → Obeys kinds counts firsts src order goods t) where
    good_start : (k l : ℕ) → k < 16 → l < 64 → Start (width (blocks (tabled i c o kinds counts nets) low) rel z) (64 * (q + k) + l) (lane k l goods)
    good_start k l kl ll = record { bits = λ s h. C.bits s k l h kl ll; zeros = ap (digit l) (C.zeros k kl) ∙ digit_zero l }

    good_rules : (k l : ℕ) → k < 16 → l < 64 → Rules (tabled i c o kinds counts nets) firsts cone z c (λ p. lane k l goods (get_or src p 0)) (lane k l goods)
    good_rules k l kl ll = rules goods c k l kl ll (λ t h d v. O t h v)

    -- the home at place p, after its flip
    module _ (p : ℕ) (hp : p < c) (np : pad_buffer (tabled i c o kinds counts nets) (get_or order p 0) ≡ false) (ahead : (t x : ℕ) → p ≤ t → t < c → x < get_or counts (get_or order p 0) 0 → get_or src (get_or firsts (get_or order p 0) 0 + x) 0 ≢ 16 + get_or order t 0)
        (vals : List ℕ) (turn : ℕ → ℕ) (X : Flipped c u p kinds counts firsts src order reach goods vals turn) where
      few : (t : ℕ) → t < c → get_or order t 0 < 1024
      few t l = omega (arith, Q.ordered.cell t l, Q.limits.few_cells)

      in_cells : get_or order p 0 < c
      in_cells = Q.ordered.cell p hp

      flip_start : (k l : ℕ) → k < 16 → l < 64 → Start (width (blocks (tabled i c o kinds counts nets) low) rel z) (64 * (q + k) + l) (lane k l vals)
      flip_start k l kl ll =
          record {
            bits = λ s h. ap (digit l) (X.before (16 * s + k) (λ t a b e. omega (arith, Q.few))) ∙ C.bits s k l h kl ll;
            zeros = ap (digit l) (X.before (16 * 1040 + k) (λ t a b e. omega (arith, few t b)) ∙ C.zeros k kl) ∙ digit_zero l;
          }

      flip_rules : (k l : ℕ) → k < 16 → l < 64 → Rules (tabled i c o kinds counts nets) firsts cone z (get_or order p 0) (λ x. lane k l vals (get_or src x 0)) (lane k l vals)
      flip_rules k l kl ll = rules vals (get_or order p 0) k l kl ll (λ t h d v. X.obeys t h (λ y. d (ap (λ x. get_or order x 0) y)) v)

      flip_home : (k l : ℕ) → k < 16 → lane k l vals (16 + get_or order p 0) ≡ xor (lane k l goods (16 + get_or order p 0)) (digit l (turn k))
      flip_home k l kl = ap (digit l) (X.home k kl) ∙ digit_xor (get_or goods (16 * (16 + get_or order p 0) + k) 0) (turn k) l

      -- the home's own pins see the same as before
      first_is : get_or firsts (get_or order p 0) 0 ≡ first_pin (tabled i c o kinds counts nets) (get_or order p 0)
      first_is = Q.first_pins (get_or order p 0) (omega (arith, in_cells))

      pins_same : (k l x : ℕ) → k < 16 → PinOf (tabled i c o kinds counts nets) (get_or order p 0) x → lane k l vals (get_or src x 0) ≡ lane k l goods (get_or src x 0)
      pins_same k l x kl w =
          let d : ℕ = x - get_or firsts (get_or order p 0) 0 in
          let e : get_or firsts (get_or order p 0) 0 + d ≡ x = omega (arith, first_is, w.from) in
          let b : d < get_or counts (get_or order p 0) 0 = omega (arith, first_is, w.from, w.to) in
          ap (digit l) (X.before (16 * get_or src x 0 + k) (λ t f g y. ahead t d f g b (ap (λ v. get_or src v 0) e ∙ omega arith)))

      -- ---- a fault's own word

      constant : (e k l : ℕ) → e < 2 → k < 16 → l < 64 → digit l (get_or goods (16 * (1040 + e) + k) 0) ≡ eqb e 1
      constant zero k l b kl ll = ap (digit l) (C.zeros k kl) ∙ digit_zero l
      constant (suc zero) k l b kl ll = ap (digit l) (C.ones k kl) ∙ digit_ones l ll
      constant (suc (suc e)) k l b kl ll = absurd (omega arith)

      abbrev loc : ℕ → ℕ → ℕ → Bool
      loc e k l = xor (digit l (home_word e (get_or kinds (get_or order p 0) 0) src (get_or firsts (get_or order p 0) 0) (get_or counts (get_or order p 0) 0) goods k)) (lane k l goods (16 + get_or order p 0))

      net_asked : (e k l : ℕ) → e < 2 → k < 16 → l < 64 → (loc e k l ≡ true → digit l (turn k) ≡ true)
          → Tried (tabled i c o kinds counts nets) (blocks (tabled i c o kinds counts nets) low) (stuck (record { site = Net (i + get_or order p 0); stuck = e })) rel z (64 * (q + k) + l)
          ↔ ((loc e k l && xor (lane k l goods (get_or src (out_pin (tabled i c o kinds counts nets) z) 0)) (lane k l vals (get_or src (out_pin (tabled i c o kinds counts nets) z) 0))) ≡ true)
      net_asked e k l b kl ll all =
          let same : loc e k l ≡ xor (lane k l goods (16 + get_or order p 0)) (eqb e 1) =
          xor_comm (digit l (home_word e (get_or kinds (get_or order p 0) 0) src (get_or firsts (get_or order p 0) 0) (get_or counts (get_or order p 0) 0) goods k)) (lane k l goods (16 + get_or order p 0))
          ∙ ap (xor (lane k l goods (16 + get_or order p 0)))
          (ap (λ r. digit l (cond r (get_or goods (16 * (1040 + e) + k) 0) (pin_word (get_or kinds (get_or order p 0) 0) src (get_or firsts (get_or order p 0) 0) (get_or counts (get_or order p 0) 0) (e / 2 - 1) (1040 + e % 2) goods k))) (lt-ltb e 2 b)
          ∙ constant e k l b kl ll) in
          rw same (net_lane (tabled i c o kinds counts nets) low rel z firsts order cone src Q (get_or order p 0) in_cells np e (64 * (q + k) + l) (lane k l goods) (good_start k l kl ll) (good_rules k l kl ll)
          (lane k l vals) (digit l (turn k)) (flip_start k l kl ll) (flip_rules k l kl ll) (flip_home k l kl) (λ y. all (same ∙ y)))

      pin_asked : (d v k l : ℕ) → d < get_or counts (get_or order p 0) 0 → v < 2 → k < 16 → l < 64
          → (xor (digit l (pin_word (get_or kinds (get_or order p 0) 0) src (get_or firsts (get_or order p 0) 0) (get_or counts (get_or order p 0) 0) d (1040 + v) goods k)) (lane k l goods (16 + get_or order p 0)) ≡ true → digit l (turn k) ≡ true)
          → Tried (tabled i c o kinds counts nets) (blocks (tabled i c o kinds counts nets) low) (stuck (record { site = Pin (get_or firsts (get_or order p 0) 0 + d); stuck = v })) rel z (64 * (q + k) + l)
          ↔ ((xor (digit l (pin_word (get_or kinds (get_or order p 0) 0) src (get_or firsts (get_or order p 0) 0) (get_or counts (get_or order p 0) 0) d (1040 + v) goods k)) (lane k l goods (16 + get_or order p 0))
          && xor (lane k l goods (get_or src (out_pin (tabled i c o kinds counts nets) z) 0)) (lane k l vals (get_or src (out_pin (tabled i c o kinds counts nets) z) 0))) ≡ true)
      pin_asked d v k l b vl kl ll all =
          let j : ℕ = get_or order p 0 in
          let a : ℕ = get_or firsts (get_or order p 0) 0 in
          let n : ℕ = get_or counts (get_or order p 0) 0 in
          let own : PinOf (tabled i c o kinds counts nets) (get_or order p 0) (a + d) = record { cell = in_cells; from = omega (arith, first_is); to = omega (arith, first_is) } in
          let word : digit l (pin_word (get_or kinds (get_or order p 0) 0) src (get_or firsts (get_or order p 0) 0) (get_or counts (get_or order p 0) 0) d (1040 + v) goods k)
          ≡ made (tabled i c o kinds counts nets) firsts (λ x. cond (eqb x (a + d)) (eqb v 1) (lane k l goods (get_or src x 0))) (get_or order p 0) =
          gate_lane (λ x. get_or goods (16 * slot_but src a d (1040 + v) x + k) 0) 0 n l ll (get_or kinds (get_or order p 0) 0) (Q.limits.pins_taken (get_or order p 0) in_cells)
          ∙ ap (gate (get_or kinds (get_or order p 0) 0) n) (ones_from (λ x. digit l (get_or goods (16 * slot_but src a d (1040 + v) x + k) 0)) (λ x. cond (eqb x (a + d)) (eqb v 1) (lane k l goods (get_or src x 0))) a n (λ x y. at x)) in
          let same : xor (digit l (pin_word (get_or kinds (get_or order p 0) 0) src (get_or firsts (get_or order p 0) 0) (get_or counts (get_or order p 0) 0) d (1040 + v) goods k)) (lane k l goods (16 + get_or order p 0))
          ≡ xor (lane k l goods (16 + get_or order p 0)) (made (tabled i c o kinds counts nets) firsts (λ x. cond (eqb x (a + d)) (eqb v 1) (lane k l goods (get_or src x 0))) (get_or order p 0)) =
          xor_comm (digit l (pin_word (get_or kinds (get_or order p 0) 0) src (get_or firsts (get_or order p 0) 0) (get_or counts (get_or order p 0) 0) d (1040 + v) goods k)) (lane k l goods (16 + get_or order p 0))
          ∙ ap (xor (lane k l goods (16 + get_or order p 0))) word in
          rw same (pin_lane (tabled i c o kinds counts nets) low rel z firsts order cone src Q (get_or order p 0) (a + d) own np v (64 * (q + k) + l) (lane k l goods) (good_start k l kl ll) (good_rules k l kl ll)
          (lane k l vals) (digit l (turn k)) (flip_start k l kl ll) (flip_rules k l kl ll) (flip_home k l kl) (λ x w. pins_same k l x kl w) (λ y. all (same ∙ y)))
        where
          at : (x : ℕ) → digit l (get_or goods (16 * slot_but src (get_or firsts (get_or order p 0) 0) d (1040 + v) (0 + x) + k) 0)
              ≡ cond (eqb (get_or firsts (get_or order p 0) 0 + x) (get_or firsts (get_or order p 0) 0 + d)) (eqb v 1) (lane k l goods (get_or src (get_or firsts (get_or order p 0) 0 + x) 0))
          at x = let zx : 0 + x ≡ x = omega arith in rw zx (elim (ℕ_discrete x d) [
            | yes e ↦ rw (eq-eqb x d e, eq-eqb (get_or firsts (get_or order p 0) 0 + x) (get_or firsts (get_or order p 0) 0 + d) (omega arith)) (constant v k l vl kl ll)
            | no g ↦ rw (ne_eqb x d g, ne_eqb (get_or firsts (get_or order p 0) 0 + x) (get_or firsts (get_or order p 0) 0 + d) (λ e. g (omega arith))) refl
          ])

      -- ---- all faults of the home

      home_net : (e : ℕ) → e < 2 → ◌≡◌ {A = Fault} (fault_at e i (get_or order p 0) (get_or firsts (get_or order p 0) 0)) (record { site = Net (i + get_or order p 0); stuck = e })
      home_net e b =
          let w : e % 2 ≡ e = omega arith in
          rw (lt-ltb e 2 b, w) refl

      home_pin : (e : ℕ) → 2 ≤ e → ◌≡◌ {A = Fault} (fault_at e i (get_or order p 0) (get_or firsts (get_or order p 0) 0)) (record { site = Pin (get_or firsts (get_or order p 0) 0 + (e / 2 - 1)); stuck = e % 2 })
      home_pin e b = rw (le-ltb e 2 b) refl

      -- lane x of fault e at output z is set exactly if pattern 64 q + x shows the fault there
      pub home_asked : (outs : List ℕ) (e x : ℕ) → get_or outs z 0 ≡ get_or src (out_pin (tabled i c o kinds counts nets) z) 0 → e < 2 * get_or counts (get_or order p 0) 0 + 2 → x < 1024
          → Within e (get_or kinds (get_or order p 0) 0) src (get_or firsts (get_or order p 0) 0) (get_or counts (get_or order p 0) 0) (16 + get_or order p 0) goods turn
          → Tried (tabled i c o kinds counts nets) (blocks (tabled i c o kinds counts nets) low) (stuck (fault_at e i (get_or order p 0) (get_or firsts (get_or order p 0) 0))) rel z (64 * q + x)
          ↔ (home_lane e (get_or kinds (get_or order p 0) 0) src (get_or firsts (get_or order p 0) 0) (get_or counts (get_or order p 0) 0) (16 + get_or order p 0) outs goods vals z x ≡ true)
      home_asked outs e x oz b xl W =
          let kl : x / 64 < 16 = omega arith in
          let ll : x % 64 < 64 = omega arith in
          let m : 64 * q + x ≡ 64 * (q + x / 64) + x % 64 = omega arith in
          let g : ℕ = get_or goods (16 * (16 + get_or order p 0) + x / 64) 0 in
          let y : ℕ = home_word e (get_or kinds (get_or order p 0) 0) src (get_or firsts (get_or order p 0) 0) (get_or counts (get_or order p 0) 0) goods (x / 64) in
          let here : home_lane e (get_or kinds (get_or order p 0) 0) src (get_or firsts (get_or order p 0) 0) (get_or counts (get_or order p 0) 0) (16 + get_or order p 0) outs goods vals z x
          ≡ (loc e (x / 64) (x % 64) && xor (lane (x / 64) (x % 64) goods (get_or src (out_pin (tabled i c o kinds counts nets) z) 0)) (lane (x / 64) (x % 64) vals (get_or src (out_pin (tabled i c o kinds counts nets) z) 0))) =
          digit_and (bit_xor y g) (bit_xor (get_or goods (16 * get_or outs z 0 + x / 64) 0) (get_or vals (16 * get_or outs z 0 + x / 64) 0)) (x % 64)
          ∙ ap₂ ◌&&◌ (digit_xor y g (x % 64))
          (digit_xor (get_or goods (16 * get_or outs z 0 + x / 64) 0) (get_or vals (16 * get_or outs z 0 + x / 64) 0) (x % 64)
          ∙ ap (λ s. xor (lane (x / 64) (x % 64) goods s) (lane (x / 64) (x % 64) vals s)) oz) in
          let all : loc e (x / 64) (x % 64) ≡ true → digit (x % 64) (turn (x / 64)) ≡ true = λ d. W (x / 64) (x % 64) kl ll (digit_xor y g (x % 64) ∙ d) in
          rw (here, m) (elim (dec_lt e 2) [
            | yes h ↦ subst (λ f. Tried (tabled i c o kinds counts nets) (blocks (tabled i c o kinds counts nets) low) (stuck f) rel z (64 * (q + x / 64) + x % 64)
                ↔ ((loc e (x / 64) (x % 64) && xor (lane (x / 64) (x % 64) goods (get_or src (out_pin (tabled i c o kinds counts nets) z) 0)) (lane (x / 64) (x % 64) vals (get_or src (out_pin (tabled i c o kinds counts nets) z) 0))) ≡ true)) (sym (home_net e h)) (net_asked e (x / 64) (x % 64) h kl ll all)
            | no h ↦
                let same : loc e (x / 64) (x % 64)
                ≡ xor (digit (x % 64) (pin_word (get_or kinds (get_or order p 0) 0) src (get_or firsts (get_or order p 0) 0) (get_or counts (get_or order p 0) 0) (e / 2 - 1) (1040 + e % 2) goods (x / 64))) (lane (x / 64) (x % 64) goods (16 + get_or order p 0)) =
                ap (λ r. xor (digit (x % 64) (cond r (get_or goods (16 * (1040 + e) + x / 64) 0)
                (pin_word (get_or kinds (get_or order p 0) 0) src (get_or firsts (get_or order p 0) 0) (get_or counts (get_or order p 0) 0) (e / 2 - 1) (1040 + e % 2) goods (x / 64)))) (lane (x / 64) (x % 64) goods (16 + get_or order p 0))) (le-ltb e 2 (omega arith)) in
                subst (λ f. Tried (tabled i c o kinds counts nets) (blocks (tabled i c o kinds counts nets) low) (stuck f) rel z (64 * (q + x / 64) + x % 64)
                ↔ ((loc e (x / 64) (x % 64) && xor (lane (x / 64) (x % 64) goods (get_or src (out_pin (tabled i c o kinds counts nets) z) 0)) (lane (x / 64) (x % 64) vals (get_or src (out_pin (tabled i c o kinds counts nets) z) 0))) ≡ true)) (sym (home_pin e (omega arith))) (rw same (pin_asked (e / 2 - 1) (e % 2) (x / 64) (x % 64) (omega arith) (omega arith) kl ll (λ d. all (same ∙ d))))
          ])
