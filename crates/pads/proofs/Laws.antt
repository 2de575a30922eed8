-- The laws of the sources, cell by cell, and of the pins that are left out.
use Prim.Native.Nat.{ℕ, ◌+◌, ◌<◌}
use mathlib.Core.Path.{◌≡◌, refl, sym, ap, ◌∙◌}
use mathlib.Core.Logic.{inl, inr}
use mathlib.Core.Bool.{Bool, true, false, cond, ◌&&◌}
use mathlib.Core.List.{List}
use native.Mathlib.Omega.{arith}
use native.Mathlib.Decide.{dec_lt, ℕ_discrete}
use borrow.Author.Tests.{lt-ltb, le-ltb, eq-eqb, eqb-true}
use lib.Dec.{eqb, ltb}
use lib.ListN.{length, get_or, set, length-set}
use lib.Seq.{get_or-set_same, get_or-set_other}
use Rattle.chip.specs.Netlist.{Netlist, first_pin, all_pins}
use Rattle.chip.specs.Inner.Limits.{Sound, InLimits}
use Rattle.chip.specs.Pads.{some, back, is_buf, source, pad_buffer, into_pad, branch_of}
use Rattle.chip.specs.Inner.Tables.{BranchTable}
use Rattle.chip.proofs.Bools.{clash}
use Rattle.chip.proofs.Basics.{Ranked, net_cases, first_pin_lem, pin_in, pin_named}
use Rattle.chip.proofs.Pads.{buf_is, pad_buf, source_yes, source_no, source_input, source_buf, buf_source, kind_buf}
use Rattle.order.specs.Order.{Ordered}
use Rattle.order.proofs.Order.{ranked_of}
use Rattle.pads.specs.Sources.{source_of, SourceTable}

-- a cell's first pin is one of the table's
pub first_low : (N : Netlist) → InLimits N → (j : ℕ) → j < N.cells → first_pin N j < 4096
first_low N L j l = omega (arith, L.few_pins, pin_in N j (first_pin N j) (first_pin_lem N L.sound j l))

-- a net whose source is no input is its own
pub source_self : (N : Netlist) (n : ℕ) → ¬ (source N n < N.inputs) → source N n ≡ n
source_self N n g = elim (dec_lt (back N N.cells n) N.inputs) [
  | yes l ↦ absurd (g (rw (source_yes N n l) l))
  | no h ↦ source_no N n (omega arith)
]

-- the source of a cell's net is what `cell_source` says
pub cell_is : (N : Netlist) → InLimits N → Ranked N → (j : ℕ) → j < N.cells
    → source_of N.inputs (N.kind j) (N.inputs + j) (source N (N.net (first_pin N j))) ≡ source N (N.inputs + j)
unfolding source_of
cell_is N L R j c = go (eqb (N.kind j) 0) refl
  where
    S : Sound N
    S = L.sound

    feed : ℕ
    feed = source N (N.net (first_pin N j))

    behind : is_buf N j ≡ true → cond (ltb feed N.inputs) feed (N.inputs + j) ≡ source N (N.inputs + j)
    behind b = elim (dec_lt feed N.inputs) [
      | yes l ↦ cc (lt-ltb feed N.inputs l, source_buf N S R j b l)
      | no g ↦
          let own : source N (N.inputs + j) ≡ N.inputs + j = source_self N (N.inputs + j) (λ s. g (rw (buf_source N S R j b s) s)) in
          cc (le-ltb feed N.inputs (omega arith))
    ]

    go : (t : Bool) → eqb (N.kind j) 0 ≡ t → cond (eqb (N.kind j) 0) (cond (ltb feed N.inputs) feed (N.inputs + j)) (N.inputs + j) ≡ source N (N.inputs + j)
    go true e =
        let k : N.kind j ≡ 0 = eqb-true (N.kind j) 0 e in
        rw e (behind (kind_buf N L j c k))
    go false e =
        let none : ¬ (source N (N.inputs + j) < N.inputs) = λ s. let k : N.kind j ≡ 0 = (buf_is N j (pad_buf N j s)).1 in clash (eq-eqb (N.kind j) 0 k) e in
        rw e (sym (source_self N (N.inputs + j) none))

-- the sources of the inputs and of the first k cells of the order
pub record Sourced (N : Netlist) (order : List ℕ) (k : ℕ) (table : List ℕ) : Type 0 where
  pub long : length table ≡ 1088
  pub own : (x : ℕ) → x < N.inputs → get_or table x 0 ≡ x
  pub done : (m : ℕ) → m < k → get_or table (N.inputs + get_or order m 0) 0 ≡ source N (N.inputs + get_or order m 0)

module _ (N : Netlist) (L : InLimits N) (order : List ℕ) (O : Ordered N order) (k : ℕ) (table : List ℕ) (K : Sourced N order k table) (h : k < N.cells) where
  j : ℕ
  j = get_or order k 0

  pub cell_low : get_or order k 0 < N.cells
  cell_low = O.cell k h

  pub feed_low : N.net (first_pin N (get_or order k 0)) < N.inputs + N.cells
  feed_low = pin_named N L.sound (get_or order k 0) (first_pin N (get_or order k 0)) (first_pin_lem N L.sound (get_or order k 0) cell_low)

  -- what feeds the cell has its source already
  pub fed_known : get_or table (N.net (first_pin N (get_or order k 0))) 0 ≡ source N (N.net (first_pin N (get_or order k 0)))
  fed_known = elim (O.after k (first_pin N (get_or order k 0)) h (first_pin_lem N L.sound (get_or order k 0) cell_low)) [
    | inl i ↦ K.own _ i ∙ sym (source_input N _ i)
    | inr s ↦ let (m, l, q) = s in rw q (K.done m l)
  ]

  pub sourced_more : (v : ℕ) → v ≡ source_of N.inputs (N.kind (get_or order k 0)) (N.inputs + get_or order k 0) (get_or table (N.net (first_pin N (get_or order k 0))) 0)
      → Sourced N order (k + 1) (set table (N.inputs + get_or order k 0) v)
  sourced_more v e =
      let is : v ≡ source N (N.inputs + get_or order k 0) =
      e ∙ ap (source_of N.inputs (N.kind (get_or order k 0)) (N.inputs + get_or order k 0)) fed_known ∙ cell_is N L (ranked_of O) (get_or order k 0) cell_low in
      let room : N.inputs + get_or order k 0 < length table = omega (arith, K.long, cell_low, L.few_inputs, L.few_cells) in
      record {
        long = simp length-set K.long;
        own = λ x l. get_or-set_other table (N.inputs + get_or order k 0) x v 0 (omega arith) ∙ K.own x l;
        done = λ m l. elim (ℕ_discrete (get_or order m 0) (get_or order k 0)) [
          | yes q ↦ rw q (get_or-set_same table (N.inputs + get_or order k 0) v 0 room ∙ is)
          | no g ↦ get_or-set_other table (N.inputs + get_or order k 0) (N.inputs + get_or order m 0) v 0 (omega arith) ∙ K.done m (omega (arith, apart m g))
        ];
      }
    where
      apart : (m : ℕ) → ¬ (get_or order m 0 ≡ get_or order k 0) → ¬ (m ≡ k)
      apart m g q = g (ap (λ (i : ℕ). get_or order i 0) q)

pub sourced_all : (N : Netlist) (order : List ℕ) → Ordered N order → (k : ℕ) (table : List ℕ) → k ≡ N.cells → Sourced N order k table → SourceTable N table
sourced_all N order O k table q K =
    record {
      long = K.long;
      at = λ n l. elim (net_cases N n l) [
        | inl i ↦ K.own n i ∙ sym (source_input N n i)
        | inr s ↦
            let (j, c, e) = s in
            let (l, p) = O.placed j c in
            rw (e, ← p) (K.done (O.place j) (omega arith))
      ];
    }

-- the pins into the first j pad buffers are left out
pub record LeftOut (N : Netlist) (j : ℕ) (table : List ℕ) : Type 0 where
  pub long : length table ≡ 4096
  pub at : (p : ℕ) → p < all_pins N → get_or table p 0 ≡ cond (some (λ i. pad_buffer N i && eqb (first_pin N i) p) j) N.inputs (source N (N.net p))

pub left_all : (N : Netlist) (j : ℕ) (table : List ℕ) → j ≡ N.cells → LeftOut N j table → BranchTable N table
unfolding branch_of into_pad
left_all N j table q K p l = rw q at (K.at p l)
