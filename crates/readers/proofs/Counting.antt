-- Counting the pins by their heads, and one step of each table.
use Prim.Native.Nat.{ℕ, zero, suc, ◌+◌, ◌-◌, ◌≤◌, ◌<◌}
use mathlib.Core.Path.{◌≡◌, refl, sym, ap, ◌∙◌}
use mathlib.Core.Logic.{◌≢◌}
use mathlib.Core.Bool.{true, false}
use mathlib.Core.List.{List}
use native.Mathlib.Omega.{arith}
use native.Mathlib.Decide.{dec_lt, ℕ_discrete}
use borrow.Author.Tests.{eq-eqb, ne_eqb, lt-ltb, le-ltb}
use lib.ListN.{length, get_or, set, length-set}
use lib.Seq.{get_or-set_same, get_or-set_other}
use lib.Dec.{eqb, ltb}
use Rattle.chip.specs.Netlist.{bit}
use Rattle.chip.proofs.Blocks.{tally_most, tally_past}
use Rattle.rows.specs.Rows.{Filled}
use Rattle.readers.specs.Readers.{key_of, same, under, spot, Heads, Wires, Owned, Counted, Summed, Put, Read, Built}

bit_step : (k s : ℕ) → bit (ltb k (s + 1)) ≡ bit (ltb k s) + bit (eqb k s)
bit_step k s = elim (dec_lt k s) [
  | yes l ↦ let a : ltb k (s + 1) ≡ true = lt-ltb k (s + 1) (omega arith) in let b : ltb k s ≡ true = lt-ltb k s l in let d : eqb k s ≡ false = ne_eqb k s (λ q. omega arith) in rw (a, b, d) refl
  | no g ↦ elim (ℕ_discrete k s) [
    | yes q ↦ let a : ltb k (s + 1) ≡ true = lt-ltb k (s + 1) (omega arith) in let b : ltb k s ≡ false = le-ltb k s (omega arith) in let d : eqb k s ≡ true = eq-eqb k s q in rw (a, b, d) refl
    | no h ↦ let a : ltb k (s + 1) ≡ false = le-ltb k (s + 1) (omega arith) in let b : ltb k s ≡ false = le-ltb k s (omega arith) in let d : eqb k s ≡ false = ne_eqb k s h in rw (a, b, d) refl
  ]
]

pub under_step : (key : ℕ → ℕ) (s n : ℕ) → under key (s + 1) n ≡ under key s n + same key s n
under_step key s zero = refl
under_step key s (suc n) = omega (arith, under_step key s n, bit_step (key n) s)

pub under_zero : (key : ℕ → ℕ) (n : ℕ) → under key 0 n ≡ 0
under_zero key zero = refl
under_zero key (suc n) = omega (arith, under_zero key n, ap bit (le-ltb (key n) 0 (omega arith)))

bit_up : (k s t : ℕ) → s ≤ t → bit (ltb k s) ≤ bit (ltb k t)
bit_up k s t l = elim (dec_lt k s) [
  | yes h ↦ let a : ltb k s ≡ true = lt-ltb k s h in let b : ltb k t ≡ true = lt-ltb k t (omega arith) in rw (a, b) (omega arith)
  | no g ↦ let a : ltb k s ≡ false = le-ltb k s (omega arith) in rw a (omega arith)
]

pub under_up : (key : ℕ → ℕ) (s t n : ℕ) → s ≤ t → under key s n ≤ under key t n
under_up key s t zero l = omega arith
under_up key s t (suc n) l = omega (arith, under_up key s t n l, bit_up (key n) s t l)

pub same_next : (key : ℕ → ℕ) (s p : ℕ) → s ≡ key p → same key s (suc p) ≡ same key s p + 1
same_next key s p e = omega (arith, ap bit (eq-eqb (key p) s (sym e)))

pub same_other : (key : ℕ → ℕ) (s p : ℕ) → s ≢ key p → same key s (suc p) ≡ same key s p
same_other key s p d = omega (arith, ap bit (ne_eqb (key p) s (λ q. d (sym q))))

-- the entries of a head end where those of the next begin
pub spot_past : (key : ℕ → ℕ) (n p : ℕ) → p < n → spot key n p < under key (key p + 1) n
spot_past key n p l = omega (arith, under_step key (key p) n, tally_past (λ x. eqb (key x) (key p)) p n l (eq-eqb (key p) (key p) refl))

pub spot_room : (key : ℕ → ℕ) (n p : ℕ) → p < n → spot key n p < n
spot_room key n p l = omega (arith, spot_past key n p l, tally_most (λ x. ltb (key x) (key p + 1)) n)

-- two pins have two entries
pub spot_apart : (key : ℕ → ℕ) (n p q : ℕ) → p < q → q < n → spot key n p ≢ spot key n q
spot_apart key n p q l h e = elim (ℕ_discrete (key p) (key q)) [
  | yes d ↦
      let a : same key (key p) p < same key (key p) q = tally_past (λ x. eqb (key x) (key p)) p q l (eq-eqb (key p) (key p) refl) in
      let b : same key (key q) p < same key (key q) q = rw d at a in
      let f : under key (key q) n + same key (key q) p ≡ under key (key q) n + same key (key q) q = rw d at e in
      omega arith
  | no g ↦ elim (dec_lt (key p) (key q)) [
    | yes m ↦ omega (arith, spot_past key n p (omega arith), under_up key (key p + 1) (key q) n (omega arith))
    | no m ↦ omega (arith, spot_past key n q h, under_up key (key q + 1) (key p) n (omega arith))
  ]
]

pub same_few : (key : ℕ → ℕ) (s n : ℕ) → same key s n ≤ n
same_few key s n = tally_most (λ p. eqb (key p) s) n

-- ---- one step of each table

pub sum_none : (n : ℕ) (key : ℕ → ℕ) (heads : List ℕ) → Counted n key heads → Summed 0 n key heads 0
sum_none n key heads C = record { long = C.long; upto = sym (under_zero key n); done = λ x l. absurd (omega arith); rest = λ x l h. C.at x h }

pub sum_more : (s n : ℕ) (key : ℕ → ℕ) (heads : List ℕ) (sum sum' : ℕ) → Summed s n key heads sum → s < 5185 → sum' ≡ sum + get_or heads s 0 → Summed (s + 1) n key (set heads s sum') sum'
sum_more s n key heads sum sum' U l e =
    let b : sum' ≡ under key (s + 1) n = omega (arith, U.upto, U.rest s (omega arith) l, under_step key s n) in
    record {
      long = simp length-set U.long;
      upto = b;
      done = λ x h. elim (ℕ_discrete x s) [
        | yes q ↦ rw q (get_or-set_same heads s sum' 0 (omega (arith, U.long)) ∙ b)
        | no g ↦ get_or-set_other heads s x sum' 0 g ∙ U.done x (omega arith)
      ];
      rest = λ x h m. get_or-set_other heads s x sum' 0 (λ q. omega arith) ∙ U.rest x (omega arith) m;
    }

pub sum_small : (s n : ℕ) (key : ℕ → ℕ) (heads : List ℕ) (sum : ℕ) → Summed s n key heads sum → s < 5185 → sum + get_or heads s 0 ≤ n
sum_small s n key heads sum U l = omega (arith, U.upto, U.rest s (omega arith) l, under_step key s n, tally_most (λ x. ltb (key x) (s + 1)) n)

pub sum_all : (n : ℕ) (key : ℕ → ℕ) (heads : List ℕ) (sum : ℕ) → Summed 5185 n key heads sum → Put n n key heads
sum_all n key heads sum U = record { long = U.long; at = λ s l. U.done s l ∙ under_step key s n }

-- ---- the entries

pub put_here : (k p n : ℕ) (key : ℕ → ℕ) (heads : List ℕ) (s : ℕ) → Put k n key heads → k ≡ suc p → s ≡ key p → s < 5185 → get_or heads s 0 ≡ spot key n p + 1
put_here k p n key heads s P e f l =
    let a : get_or heads s 0 ≡ under key s n + same key s (suc p) = rw e at (P.at s l) in
    let b : under key s n + same key s p ≡ spot key n p = ap (λ x. under key x n + same key x p) f in
    omega (arith, same_next key s p f)

pub put_more : (k p n : ℕ) (key : ℕ → ℕ) (heads : List ℕ) (s r : ℕ) → Put k n key heads → k ≡ suc p → s ≡ key p → s < 5185 → r + 1 ≡ get_or heads s 0 → Put p n key (set heads s r)
put_more k p n key heads s r P e f l g =
    record {
      long = simp length-set P.long;
      at = λ y h. elim (ℕ_discrete y s) [
        | yes q ↦ rw q (get_or-set_same heads s r 0 (omega (arith, P.long)) ∙ omega (arith, rw e at (P.at s l), same_next key s p f))
        | no d ↦ get_or-set_other heads s y r 0 d ∙ rw e at (P.at y h) ∙ ap (λ x. under key y n + x) (same_other key y p (λ q. d (q ∙ sym f)))
      ];
    }

small_set : (readers : List ℕ) (r x c : ℕ) → ((y : ℕ) → get_or readers y 0 < c) → x < c → r < length readers → (y : ℕ) → get_or (set readers r x) y 0 < c
small_set readers r x c S l h y = elim (ℕ_discrete y r) [
  | yes q ↦ rw (q, get_or-set_same readers r x 0 h) l
  | no g ↦ omega (arith, get_or-set_other readers r y x 0 g, S y)
]

pub read_more : (k p n c : ℕ) (key : ℕ → ℕ) (owner readers : List ℕ) (r x : ℕ) → Read k n c key owner readers → k ≡ suc p → p < n → r ≡ spot key n p → x ≡ get_or owner p 0
    → (0 < c → get_or owner p 0 < c) → Read p n c key owner (set readers r x)
read_more k p n c key owner readers r x R e l f g S =
    let room : r < length readers = omega (arith, f, spot_room key n p l, R.long) in
    record {
      long = simp length-set R.long;
      small = λ h. small_set readers r x c (R.small h) (omega (arith, g, S h)) room;
      entry = λ y a b. elim (ℕ_discrete y p) [
        | yes q ↦ rw q (ap (λ v. get_or (set readers r x) v 0) (sym f) ∙ get_or-set_same readers r x 0 room ∙ g)
        | no d ↦ get_or-set_other readers r (spot key n y) x 0 (λ q. spot_apart key n p y (omega arith) b (sym (q ∙ f))) ∙ R.entry y (omega arith) b
      ];
    }

-- ---- the places of the pins

pub owned_more : (i c n t : ℕ) (counts firsts branches nets order block owner owner' : List ℕ) (a m v : ℕ) → Wires i c n counts firsts branches nets order block → t < c → Owned t c counts firsts order owner
    → a ≡ get_or firsts (get_or order t 0) 0 → m ≡ get_or counts (get_or order t 0) 0 → v ≡ t → Filled a m (λ x. v) owner owner' → Owned (t + 1) c counts firsts order owner'
owned_more i c n t counts firsts branches nets order block owner owner' a m v D l O ea em ev F =
    record {
      long = F.long ∙ O.long;
      small = λ h x. elim (dec_lt x a) [
        | yes b ↦ omega (arith, F.below x b, O.small h x)
        | no g ↦ elim (dec_lt x (a + m)) [
          | yes b ↦ let q : a + (x - a) ≡ x = omega arith in omega (arith, sym (ap (λ y. get_or owner' y 0) q) ∙ F.done (x - a) (omega arith))
          | no k ↦ omega (arith, F.above x (omega arith), O.small h x)
        ]
      ];
      place = λ s x h b. elim (ℕ_discrete s t) [
        | yes q ↦ rw q (ap (λ y. get_or owner' (y + x) 0) (sym ea) ∙ F.done x (omega (arith, em, ap (λ y. get_or counts (get_or order y 0) 0) q)) ∙ ev)
        | no g ↦ elim (dec_lt (get_or firsts (get_or order s 0) 0 + x) a) [
          | yes k ↦ F.below (get_or firsts (get_or order s 0) 0 + x) k ∙ O.place s x (omega arith) b
          | no k ↦ elim (dec_lt (get_or firsts (get_or order s 0) 0 + x) (a + m)) [
            | yes z ↦ let y : ℕ = get_or firsts (get_or order s 0) 0 + x - a in absurd (D.apart s t x y (omega arith) l g b (omega (arith, em)) (omega (arith, ea)))
            | no z ↦ F.above (get_or firsts (get_or order s 0) 0 + x) (omega arith) ∙ O.place s x (omega arith) b
          ]
        ]
      ];
    }

-- ---- the readers of each head

pub built : (i c n : ℕ) (counts firsts branches nets order block owner heads readers : List ℕ) → Wires i c n counts firsts branches nets order block → Owned c c counts firsts order owner
    → Put 0 n (key_of i branches nets block) heads → Read 0 n c (key_of i branches nets block) owner readers → Built i c n counts firsts branches nets order block heads readers
built i c n counts firsts branches nets order block owner heads readers D O P R =
    record {
      long = P.long;
      up = λ x l. omega (arith, start x (omega arith), start (x + 1) (omega arith), under_up (key_of i branches nets block) x (x + 1) n (omega arith));
      held = λ x l. omega (arith, start x l, tally_most (λ p. ltb (key_of i branches nets block p) x) n, R.long);
      reader = λ r l. R.small (D.some (omega (arith, R.long))) r;
      reads = λ t x l h.
          let p : ℕ = get_or firsts (get_or order t 0) 0 + x in
          let m : p < n = omega (arith, D.pins t l) in
          let k : key_of i branches nets block p < 5184 = key_room D.heads p m in
          let a : get_or heads (key_of i branches nets block p) 0 ≡ under (key_of i branches nets block) (key_of i branches nets block p) n = start (key_of i branches nets block p) (omega arith) in
          let b : get_or heads (key_of i branches nets block p + 1) 0 ≡ under (key_of i branches nets block) (key_of i branches nets block p + 1) n = start (key_of i branches nets block p + 1) (omega arith) in
          (spot (key_of i branches nets block) n p, omega arith, omega (arith, spot_past (key_of i branches nets block) n p m), R.entry p (omega arith) m ∙ O.place t x l h);
    }
  where
    start : (s : ℕ) → s < 5185 → get_or heads s 0 ≡ under (key_of i branches nets block) s n
    start s l = P.at s l ∙ omega arith

    key_room : Heads i n branches nets block → (p : ℕ) → p < n → key_of i branches nets block p < 5184
    key_room H p l = elim (dec_lt (get_or branches p 0) i) [
      | yes h ↦ rw (lt-ltb (get_or branches p 0) i h) (omega (arith, (H.named p l).0 h))
      | no g ↦ rw (le-ltb (get_or branches p 0) i (omega arith)) (omega (arith, (H.named p l).1))
    ]
