-- Pad buffers: the steps back from a net end, and they end at an input exactly for the inputs' and the pad buffers' nets.
use Prim.Native.Nat.{ℕ, zero, suc, ◌+◌, ◌-◌, ◌≤◌, ◌<◌}
use mathlib.Core.Path.{◌≡◌, refl, sym, ap, ◌∙◌}
use mathlib.Core.Logic.{◌⊎◌, inl, inr, ◌↔◌}
use mathlib.Core.Bool.{Bool, true, false, ◌&&◌, ◌||◌}
use native.Mathlib.Omega.{arith}
use native.Mathlib.Decide.{dec_lt, ℕ_discrete}
use borrow.Author.Tests.{lt-ltb, le-ltb, le-leb, lt-leb, eqb-true, eq-eqb}
use lib.Dec.{eqb, ltb}
use Rattle.chip.specs.Netlist.{Netlist, PinOf, first_pin, out_pin, takes}
use Rattle.chip.specs.Inner.Limits.{Sound, InLimits}
use Rattle.chip.specs.Pads.{some, is_buf, fed, back, source, pad_buffer, into_pad, branch_of}
use Rattle.chip.proofs.Bools.{both_true, clash, fails}
use Rattle.chip.proofs.Basics.{Ranked, sum_up, first_pin_lem, pin_named, net_cases}
use Rattle.chip.proofs.Loops.{ranked, ranked_low, loop_free}

-- tests
pub ltb_lt : (a b : ℕ) → ltb a b ≡ true → a < b
ltb_lt a b e = elim (dec_lt a b) [ yes l ↦ l | no g ↦ clash e (le-ltb a b (omega arith)) ]

pub some_yes : (test : ℕ → Bool) (n : ℕ) → some test n ≡ true → (i : ℕ) × (i < n) × (test i ≡ true)
some_yes test zero e = clash e refl
some_yes test (suc n) e = go (some test n) (test n) (some_yes test n) refl e
  where
    go : (a b : Bool) → (a ≡ true → (i : ℕ) × (i < n) × (test i ≡ true)) → test n ≡ b → (a || b) ≡ true → (i : ℕ) × (i < suc n) × (test i ≡ true)
    go true b p q e = let (i, l, t) = p refl in (i, omega arith, t)
    go false true p q e = (n, omega arith, q)
    go false false p q e = clash e refl

pub some_in : (test : ℕ → Bool) (n i : ℕ) → i < n → test i ≡ true → some test n ≡ true
some_in test zero i l t = absurd (omega arith)
some_in test (suc n) i l t = elim (ℕ_discrete i n) [
  | yes e ↦ right (some test n) (test n) (ap test (sym e) ∙ t)
  | no g ↦ left (some test n) (test n) (some_in test n i (omega arith) t)
]
  where
    right : (a b : Bool) → b ≡ true → (a || b) ≡ true
    right true b e = refl
    right false b e = e

    left : (a b : Bool) → a ≡ true → (a || b) ≡ true
    left true b e = refl
    left false b e = clash e refl

one_pin : (m : ℕ) → takes 0 m ≡ true → m ≡ 1
unfolding takes
one_pin m e = eqb-true m 1 e

-- one step
module _ (N : Netlist) where
  pub buf_is : (j : ℕ) → is_buf N j ≡ true → (j < N.cells) × (N.kind j ≡ 0) × (N.pins j ≡ 1)
  unfolding is_buf
  buf_is j e =
      let (a, b) = both_true (ltb j N.cells) (eqb (N.kind j) 0 && eqb (N.pins j) 1) e in
      let (c, d) = both_true (eqb (N.kind j) 0) (eqb (N.pins j) 1) b in
      (ltb_lt j N.cells a, eqb-true (N.kind j) 0 c, eqb-true (N.pins j) 1 d)

  pub is_buf_lem : (j : ℕ) → j < N.cells → N.kind j ≡ 0 → N.pins j ≡ 1 → is_buf N j ≡ true
  unfolding is_buf
  is_buf_lem j l k p = cc (lt-ltb j N.cells l, eq-eqb (N.kind j) 0 k, eq-eqb (N.pins j) 1 p)

  -- in a netlist within the limits a cell of kind 0 has one pin
  pub kind_buf : InLimits N → (j : ℕ) → j < N.cells → N.kind j ≡ 0 → is_buf N j ≡ true
  kind_buf L j c k = is_buf_lem j c k (one_pin (N.pins j) (rw k at (L.pins_taken j c)))

  pub fed_input : (n : ℕ) → n < N.inputs → fed N n ≡ n
  unfolding fed
  fed_input n l = cc (lt-leb N.inputs n l)

  pub fed_buf : (j : ℕ) → is_buf N j ≡ true → fed N (N.inputs + j) ≡ N.net (first_pin N j)
  unfolding fed
  fed_buf j e = let m : N.inputs + j - N.inputs ≡ j = omega arith in cc (le-leb N.inputs (N.inputs + j) (omega arith))

  pub fed_other : (j : ℕ) → is_buf N j ≡ false → fed N (N.inputs + j) ≡ N.inputs + j
  unfolding fed
  fed_other j e = let m : N.inputs + j - N.inputs ≡ j = omega arith in cc (le-leb N.inputs (N.inputs + j) (omega arith))

  pub still : (k n : ℕ) → fed N n ≡ n → back N k n ≡ n
  still zero n e = refl
  still (suc k) n e = ap (fed N) (still k n e) ∙ e

  pub swap : (k n : ℕ) → back N (suc k) n ≡ back N k (fed N n)
  swap zero n = refl
  swap (suc k) n = ap (fed N) (swap k n)

  -- the source, where the steps end at an input and where they do not
  pub source_yes : (n : ℕ) → back N N.cells n < N.inputs → source N n ≡ back N N.cells n
  unfolding source
  source_yes n l = cc (lt-ltb (back N N.cells n) N.inputs l)

  pub source_no : (n : ℕ) → N.inputs ≤ back N N.cells n → source N n ≡ n
  unfolding source
  source_no n l = cc (le-ltb (back N N.cells n) N.inputs l)

  pub source_input : (x : ℕ) → x < N.inputs → source N x ≡ x
  source_input x l =
      let e : back N N.cells x ≡ x = still N.cells x (fed_input x l) in
      source_yes x (rw e l) ∙ e

  -- a pad net's source is where its steps end
  pub source_end : (n : ℕ) → source N n < N.inputs → back N N.cells n ≡ source N n
  source_end n l = elim (dec_lt (back N N.cells n) N.inputs) [
    | yes m ↦ sym (source_yes n m)
    | no g ↦
        let e : source N n ≡ n = source_no n (omega arith) in
        let m : n < N.inputs = rw e at l in
        absurd (g (rw (still N.cells n (fed_input n m)) m))
  ]

  -- a pad buffer is a BUF
  pub pad_buf : (j : ℕ) → source N (N.inputs + j) < N.inputs → is_buf N j ≡ true
  pad_buf j l = go (is_buf N j) refl
    where
      go : (b : Bool) → is_buf N j ≡ b → is_buf N j ≡ true
      go true e = e
      go false e =
          let s : back N N.cells (N.inputs + j) ≡ N.inputs + j = still N.cells (N.inputs + j) (fed_other j e) in
          absurd (omega (arith, source_end (N.inputs + j) l))

  -- pins into pad buffers
  pub into_yes : (p : ℕ) → into_pad N p ≡ true → (j : ℕ) × (j < N.cells) × (source N (N.inputs + j) < N.inputs) × (first_pin N j ≡ p)
  unfolding into_pad
  into_yes p e =
      let (j, l, t) = some_yes (λ j. pad_buffer N j && eqb (first_pin N j) p) N.cells e in
      let (a, b) = both_true (pad_buffer N j) (eqb (first_pin N j) p) t in
      (j, l, ltb_lt (source N (N.inputs + j)) N.inputs a, eqb-true (first_pin N j) p b)

  pub into_pad_lem : (j : ℕ) → j < N.cells → source N (N.inputs + j) < N.inputs → into_pad N (first_pin N j) ≡ true
  unfolding into_pad
  into_pad_lem j l s = some_in (λ i. pad_buffer N i && eqb (first_pin N i) (first_pin N j)) N.cells j l
      (let a : pad_buffer N j ≡ true = lt-ltb (source N (N.inputs + j)) N.inputs s in cc (eq-eqb (first_pin N j) (first_pin N j) refl))

  -- each pin is one cell's
  pub pin_one : (i j p : ℕ) → PinOf N i p → PinOf N j p → i ≡ j
  pin_one i j p o q = elim (dec_lt i j) [
    | yes l ↦ absurd (omega (arith, sum_up N.pins (suc i) j l, o.to, q.from))
    | no g ↦ elim (dec_lt j i) [ yes l ↦ absurd (omega (arith, sum_up N.pins (suc j) i l, q.to, o.from)) | no g' ↦ omega arith ]
  ]

  pub pad_pin : (j p : ℕ) → PinOf N j p → source N (N.inputs + j) < N.inputs → p ≡ first_pin N j
  pad_pin j p o s = let (_, _, one) = buf_is j (pad_buf j s) in omega (arith, o.from, o.to)

  pub outside : Sound N → (j p : ℕ) → PinOf N j p → ¬ (source N (N.inputs + j) < N.inputs) → into_pad N p ≡ false
  outside S j p o g = fails (into_pad N p) λ e.
      let (i, l, s, q) = into_yes p e in
      let o' : PinOf N i p = rw q at (first_pin_lem N S i l) in
      g (rw (pin_one i j p o' o) at s)

  pub out_outside : Sound N → (z : ℕ) → into_pad N (out_pin N z) ≡ false
  out_outside S z = fails (into_pad N (out_pin N z)) λ e.
      let (i, l, s, q) = into_yes (out_pin N z) e in
      absurd (omega (arith, sum_up N.pins (suc i) N.cells l, S.pinned i l))

  -- branches
  pub branch_is : (p : ℕ) → into_pad N p ≡ false → branch_of N p ≡ source N (N.net p)
  unfolding branch_of
  branch_is p e = cc

  pub into_none : (p : ℕ) → into_pad N p ≡ true → branch_of N p ≡ N.inputs
  unfolding branch_of
  into_none p e = cc

  pub branch_in : (p : ℕ) → branch_of N p < N.inputs → (into_pad N p ≡ false) × (source N (N.net p) ≡ branch_of N p)
  branch_in p l = go (into_pad N p) refl
    where
      go : (b : Bool) → into_pad N p ≡ b → (into_pad N p ≡ false) × (source N (N.net p) ≡ branch_of N p)
      go true e = absurd (omega (arith, into_none p e))
      go false e = (e, sym (branch_is p e))

-- In a netlist with no loop the steps end.
module _ (N : Netlist) (S : Sound N) (R : Ranked N) where
  -- a rank that is at most the number of cells
  pub height : ℕ → ℕ
  height n = (ranked N (loop_free N R)).rank n

  pub height_below : (j p : ℕ) → PinOf N j p → height (N.net p) < height (N.inputs + j)
  unfolding height
  height_below j p o = (ranked N (loop_free N R)).below j p o

  pub height_top : (n : ℕ) → n < N.inputs + N.cells → height n ≤ N.cells
  unfolding height
  height_top n l = ranked_low N (loop_free N R) n

  pub buf_low : (j : ℕ) → is_buf N j ≡ true → height (N.net (first_pin N j)) < height (N.inputs + j)
  buf_low j e = height_below j (first_pin N j) (first_pin_lem N S j (buf_is N j e).0)

  pub falls : (n : ℕ) → n < N.inputs + N.cells → (fed N n ≡ n) ⊎ (height (fed N n) < height n)
  falls n l = elim (net_cases N n l) [
    | inl i ↦ inl (fed_input N n i)
    | inr s ↦ let (j, c, q) = s in go j q (is_buf N j) refl
  ]
    where
      go : (j : ℕ) → n ≡ N.inputs + j → (b : Bool) → is_buf N j ≡ b → (fed N n ≡ n) ⊎ (height (fed N n) < height n)
      go j q true e = inr (rw (q, fed_buf N j e) (buf_low j e))
      go j q false e = inl (rw q (fed_other N j e))

  pub fed_named : (n : ℕ) → n < N.inputs + N.cells → fed N n < N.inputs + N.cells
  fed_named n l = elim (net_cases N n l) [
    | inl i ↦ rw (fed_input N n i) l
    | inr s ↦ let (j, c, q) = s in go j q (is_buf N j) refl
  ]
    where
      go : (j : ℕ) → n ≡ N.inputs + j → (b : Bool) → is_buf N j ≡ b → fed N n < N.inputs + N.cells
      go j q true e = rw (q, fed_buf N j e) (pin_named N S j (first_pin N j) (first_pin_lem N S j (buf_is N j e).0))
      go j q false e = rw (q, fed_other N j e) (rw q at l)

  pub back_named : (k n : ℕ) → n < N.inputs + N.cells → back N k n < N.inputs + N.cells
  back_named zero n l = l
  back_named (suc k) n l = fed_named (back N k n) (back_named k n l)

  steps : (k n : ℕ) → n < N.inputs + N.cells → (fed N (back N k n) ≡ back N k n) ⊎ (height (back N k n) + k ≤ height n)
  steps zero n l = inr (omega arith)
  steps (suc k) n l = elim (steps k n l) [
    | inl e ↦ inl (ap (fed N) e)
    | inr a ↦ elim (falls (back N k n) (back_named k n l)) [ inl e ↦ inl (ap (fed N) e) | inr b ↦ inr (omega arith) ]
  ]

  pub ends : (n : ℕ) → n < N.inputs + N.cells → fed N (back N N.cells n) ≡ back N N.cells n
  ends n l = elim (steps N.cells n l) [
    | inl e ↦ e
    | inr a ↦ elim (falls (back N N.cells n) (back_named N.cells n l)) [ inl e ↦ e | inr b ↦ absurd (omega (arith, height_top n l)) ]
  ]

  -- a step back does not change where the steps end
  pub same_end : (n : ℕ) → n < N.inputs + N.cells → back N N.cells (fed N n) ≡ back N N.cells n
  same_end n l = sym (swap N N.cells n) ∙ ends n l

  pub fed_source : (n : ℕ) → n < N.inputs + N.cells → source N n < N.inputs → source N (fed N n) ≡ source N n
  fed_source n l s =
      let e : back N N.cells (fed N n) ≡ source N n = same_end n l ∙ source_end N n s in
      source_yes N (fed N n) (rw e s) ∙ e

  pub back_source : (k n : ℕ) → n < N.inputs + N.cells → source N n < N.inputs → source N (back N k n) ≡ source N n
  back_source zero n l s = refl
  back_source (suc k) n l s =
      let ih : source N (back N k n) ≡ source N n = back_source k n l s in
      fed_source (back N k n) (back_named k n l) (rw ih s) ∙ ih

  pub source_fed : (n : ℕ) → n < N.inputs + N.cells → source N (fed N n) < N.inputs → source N n ≡ source N (fed N n)
  source_fed n l s =
      let e : back N N.cells n ≡ source N (fed N n) = sym (same_end n l) ∙ source_end N (fed N n) s in
      source_yes N n (rw e s) ∙ e

  -- a BUF has the source of what feeds it
  pub buf_source : (j : ℕ) → is_buf N j ≡ true → source N (N.inputs + j) < N.inputs → source N (N.net (first_pin N j)) ≡ source N (N.inputs + j)
  buf_source j e s = let (c, _, _) = buf_is N j e in ap (source N) (sym (fed_buf N j e)) ∙ fed_source (N.inputs + j) (omega arith) s

  pub source_buf : (j : ℕ) → is_buf N j ≡ true → source N (N.net (first_pin N j)) < N.inputs → source N (N.inputs + j) ≡ source N (N.net (first_pin N j))
  source_buf j e s =
      let (c, _, _) = buf_is N j e in
      source_fed (N.inputs + j) (omega arith) (rw (fed_buf N j e) s) ∙ ap (source N) (fed_buf N j e)

  -- a BUF that is k steps back from a net stands before the last cell
  pub way_bound : (k n j : ℕ) → n < N.inputs + N.cells → back N k n ≡ N.inputs + j → is_buf N j ≡ true → k < N.cells
  way_bound k n j l q e = elim (steps k n l) [
    | inl a ↦
        let b : N.net (first_pin N j) ≡ N.inputs + j = sym (fed_buf N j e) ∙ ap (fed N) (sym q) ∙ a ∙ q in
        absurd (omega (arith, buf_low j e, ap height b))
    | inr a ↦ omega (arith, height_top n l, buf_low j e, ap height q)
  ]

-- W3's own words: net n is input x, or that of a pad buffer behind it, a BUF fed by an input or by another such BUF.
pub data Pad (N : Netlist) : ℕ → ℕ → Type 0 where
  itself : {x : ℕ} → x < N.inputs → Pad N x x
  buffer : (j : ℕ) {x : ℕ} → is_buf N j ≡ true → Pad N (N.net (first_pin N j)) x → Pad N (N.inputs + j) x

module _ (N : Netlist) (S : Sound N) (R : Ranked N) where
  pub pad_source : {n x : ℕ} → Pad N n x → (source N n ≡ x) × (x < N.inputs)
  pad_source (itself {x = x} l) = (source_input N x l, l)
  pad_source (buffer j e a) =
      let (q, l) = pad_source a in
      (source_buf N S R j e (rw q l) ∙ q, l)

  to_pad : (k n : ℕ) → height N S R n < k → n < N.inputs + N.cells → source N n < N.inputs → Pad N n (source N n)
  to_pad zero n h l s = absurd (omega arith)
  to_pad (suc k) n h l s = elim (net_cases N n l) [
    | inl i ↦ rw (source_input N n i) (itself i)
    | inr t ↦
        let (j, c, q) = t in
        let s' : source N (N.inputs + j) < N.inputs = rw q at s in
        let e : is_buf N j ≡ true = pad_buf N j s' in
        let f : source N (N.net (first_pin N j)) ≡ source N (N.inputs + j) = buf_source N S R j e s' in
        let a : Pad N (N.net (first_pin N j)) (source N (N.net (first_pin N j))) =
        to_pad k (N.net (first_pin N j)) (omega (arith, buf_low N S R j e, ap (height N S R) q)) (pin_named N S j (first_pin N j) (first_pin_lem N S j c)) (rw f s') in
        rw q (buffer j e (rw f at a))
  ]

  pub source_pad : (n : ℕ) → n < N.inputs + N.cells → source N n < N.inputs → Pad N n (source N n)
  source_pad n l s = to_pad (suc (height N S R n)) n (omega arith) l s

  -- `source` says which nets are pad nets, and whose
  pub pads_are : (n x : ℕ) → n < N.inputs + N.cells → Pad N n x ↔ ((source N n ≡ x) × (x < N.inputs))
  pads_are n x l = (pad_source, λ s. rw s.0 at (source_pad n l (rw s.0 s.1)))

  -- each net is a pad net or another cell's
  pub pad_cases : (n : ℕ) → n < N.inputs + N.cells → (source N n < N.inputs) ⊎ ((j : ℕ) × (j < N.cells) × (n ≡ N.inputs + j) × ¬ (source N n < N.inputs))
  pad_cases n l = elim (dec_lt (source N n) N.inputs) [
    | yes s ↦ inl s
    | no g ↦ elim (net_cases N n l) [
      | inl i ↦ absurd (g (rw (source_input N n i) i))
      | inr t ↦ let (j, c, q) = t in inr (j, c, q, g)
    ]
  ]
