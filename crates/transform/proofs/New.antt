-- The net of each pin of the transformed circuit, from the tables of the copies.
use Prim.Native.Nat.{ℕ, ◌+◌, ◌*◌, ◌≤◌, ◌<◌}
use mathlib.Core.Path.{◌≡◌, refl, sym, ap, ◌∙◌}
use mathlib.Core.Logic.{inl, inr, ◌≢◌}
use mathlib.Core.Bool.{Bool, true, false}
use mathlib.Core.List.{List}
use native.Mathlib.Omega.{arith}
use native.Mathlib.Decide.{dec_lt, ℕ_discrete}
use borrow.Author.Tests.{lt-ltb, le-ltb, eq-eqb, ne_eqb}
use lib.ListN.{length, get_or, set}
use lib.Seq.{get_or-set_same, get_or-set_other}
use Rattle.chip.specs.Netlist.{Netlist, first_pin, out_pin, all_pins, bit}
use Rattle.chip.specs.Inner.Limits.{Sound, InLimits}
use Rattle.chip.specs.Pads.{source, into_pad, branch_of}
use Rattle.chip.specs.Class.{LoopFree, Lowest, Blocks, blocks}
use Rattle.chip.specs.Inner.Tables.{BranchTable}
use Rattle.chip.specs.Transformed.{copied, copy_at, copy_block, copy_cell, net_for, home, opened_net, transformed}
use Rattle.chip.proofs.Bools.{bit_is}
use Rattle.chip.proofs.Basics.{Ranked, Counted}
use Rattle.chip.proofs.Blocks.{counted}
use Rattle.chip.proofs.Loops.{ranked}
use Rattle.chip.proofs.Pads.{source_input, branch_is, branch_in, out_outside}
use Rattle.chip.proofs.Copies.{copy_in, copy_block_lem, copy_cell_lem, copy_is, first_none, for_input, for_copy, for_cell, pin_old, pin_copy, pin_out, home_branch, home_pad, not_copied, three_pins}
use Rattle.blocks.specs.Labels.{Numbered}
use Rattle.copies.specs.Inner.Marks.{CopiesOf}
use Rattle.copies.specs.declared.Copies.{Copies}
use Rattle.opening.specs.Open.{netlist_of}
use Rattle.opening.specs.declared.Chip.{Chip}
use Rattle.transform.specs.Inner.New.{Copied, moved, OldNets, CopyNets}

-- a netlist of b blocks with its copies, which one file can hold
pub record CopiedNet (N : Netlist) (low : ℕ → ℕ) (b : ℕ) (branches block : List ℕ) (found : Copies) : Type 0 where
  pub limits : InLimits N
  pub loop_free : LoopFree N
  pub least : Lowest N low
  pub branch_table : BranchTable N branches
  pub numbered : Numbered N low block b
  pub copies_are : CopiesOf N (blocks N low) found
  pub few_blocks : b ≤ 64
  pub few_cells : N.cells + found.count ≤ 1024
  pub few_pins : all_pins N + found.count ≤ 4096

-- an open chip with its copies is one
pub copied_net : {t : Chip} {found : Copies} (K : Copied t found) → CopiedNet (netlist_of t) K.is_open.ready.shaped.low t.shape.blocks t.branches t.block found
copied_net K =
    let H = K.is_open.ready in
    record {
      limits = H.limits;
      loop_free = H.shaped.prepared.loop_free;
      least = H.shaped.prepared.lowest;
      branch_table = H.shaped.branch_table;
      numbered = record { count_is = H.shaped.count; block_is = H.shaped.block_table };
      copies_are = K.copies_are;
      few_blocks = K.few_blocks;
      few_cells = K.few_cells;
      few_pins = omega (arith, H.pins, K.few_pins);
    }

module _ {N : Netlist} {low : ℕ → ℕ} {b : ℕ} {branches block : List ℕ} {found : Copies} (K : CopiedNet N low b branches block found) where
  abbrev B : Blocks
  B = blocks N low

  S : Sound N
  S = K.limits.sound

  R : Ranked N
  R = ranked N K.loop_free

  C : Counted N B
  C = counted N low K.least

  count_is : b ≡ B.count
  count_is = K.numbered.count_is

  -- a mark says that there is a copy
  marked_copy : (k j : ℕ) → k < b → j < N.cells → get_or found.marks (1024 * k + j) 0 ≡ 1 → copied N B k j ≡ true
  marked_copy k j l c e = sym (bit_is (copied N B k j)) ∙ eq-eqb (bit (copied N B k j)) 1 (sym (K.copies_are.marked k j (omega (arith, count_is)) c) ∙ e)

  -- the number of a copy that is marked is one of a cell that a file can hold
  pub copy_low : (k j : ℕ) → k < b → j < N.cells → get_or found.marks (1024 * k + j) 0 ≡ 1 → get_or found.numbers (1024 * k + j) 0 < found.count
  copy_low k j l c e =
      let k' : k < B.count = omega (arith, count_is) in
      omega (arith, K.copies_are.numbered k j k' c, copy_in N B k j k' c (marked_copy k j l c e), K.copies_are.count_is)

  -- the net that stands for a net in block k
  module _ (k net : ℕ) (l : k < b) (h : net < N.inputs + N.cells) where
    pub for_pad : net < N.inputs → k ≡ net_for N B k net
    for_pad i = sym (for_input N B k net i)

    pub for_marked : (j : ℕ) → net ≡ N.inputs + j → get_or found.marks (1024 * k + j) 0 ≡ 1 → b + N.cells + get_or found.numbers (1024 * k + j) 0 ≡ net_for N B k net
    for_marked j e t =
        let c : j < N.cells = omega arith in
        let q : net_for N B k net ≡ B.count + (N.cells + copy_at N B k j) = ap (net_for N B k) e ∙ for_copy N B k j (marked_copy k j l c t) in
        omega (arith, q, count_is, K.copies_are.numbered k j (omega (arith, count_is)) c)

    pub for_unmarked : (j : ℕ) → net ≡ N.inputs + j → get_or found.marks (1024 * k + j) 0 ≢ 1 → b + j ≡ net_for N B k net
    for_unmarked j e g =
        let c : j < N.cells = omega arith in
        let f : copied N B k j ≡ false = sym (bit_is (copied N B k j)) ∙ ne_eqb (bit (copied N B k j)) 1 (λ t. g (K.copies_are.marked k j (omega (arith, count_is)) c ∙ t)) in
        let q : net_for N B k net ≡ B.count + j = ap (net_for N B k) e ∙ for_cell N B k j f in
        omega (arith, q, count_is)

  -- the net of a pin of the netlist: of a branch, of a pin that an input feeds into a pad buffer, and of any other
  module _ (p : ℕ) (h : p < all_pins N) where
    pub branch_block : get_or branches p 0 < N.inputs → (get_or block p 0 ≡ home N B p) × (get_or block p 0 < b)
    branch_block i =
        let i' : branch_of N p < N.inputs = rw (K.branch_table p h) at i in
        let (o, _) = branch_in N p i' in
        let e : get_or block p 0 ≡ B.block p = K.numbered.block_is (branch_of N p) p (record { pin = h; names = refl; input = i' }) in
        (e ∙ sym (home_branch N B p o), omega (arith, e, C.in_block p h i', count_is))

    into : N.inputs ≤ get_or branches p 0 → source N (N.net p) < N.inputs → into_pad N p ≡ true
    into g s = go (into_pad N p) refl
      where
        go : (t : Bool) → into_pad N p ≡ t → into_pad N p ≡ true
        go true e = e
        go false e = absurd (omega (arith, g, s, K.branch_table p h, branch_is N p e))

    pub pad_net : N.inputs ≤ get_or branches p 0 → N.net p < N.inputs → get_or found.lowest (N.net p) 0 ≡ net_for N B (home N B p) (N.net p)
    pad_net g i =
        let s : source N (N.net p) ≡ N.net p = source_input N (N.net p) i in
        let o : home N B p ≡ B.first (N.net p) = home_pad N B p (into g (rw s i)) ∙ ap B.first s in
        K.copies_are.lowest_is (N.net p) i ∙ sym o ∙ sym (for_input N B (home N B p) (N.net p) i)

    not_here : N.inputs ≤ get_or branches p 0 → (j : ℕ) → N.net p ≡ N.inputs + j → copied N B (home N B p) j ≡ false
    not_here g j e = elim (dec_lt (source N (N.net p)) N.inputs) [
      | yes s ↦
          let o : home N B p ≡ B.first (source N (N.net p)) = home_pad N B p (into g s) in
          first_none N B (home N B p) j (ap (λ a. B.first (B.input a)) o ∙ ap B.first (C.own_first (source N (N.net p)) s) ∙ sym o)
      | no f ↦ not_copied N S R B (home N B p) j (λ s. f (rw e s))
    ]

    pub cell_net : N.inputs ≤ get_or branches p 0 → (j : ℕ) → N.net p ≡ N.inputs + j → b + j ≡ net_for N B (home N B p) (N.net p)
    cell_net g j e =
        let q : net_for N B (home N B p) (N.net p) ≡ B.count + j =
        ap (net_for N B (home N B p)) e ∙ for_cell N B (home N B p) j (not_here g j e) in
        omega (arith, q, count_is)

  -- the pins of the copies whose places are below one more: that place stands for block k and cell j
  module _ (k j l : ℕ) (kb : k < b) (jl : j < 1024) (e : l ≡ 1024 * k + j) (table : List ℕ) (T : CopyNets N B l table) where
    pub cell_marked : get_or found.marks l 0 ≡ 1 → j < N.cells
    cell_marked t = elim (dec_lt j N.cells) [
      | yes h ↦ h
      | no g ↦ absurd (omega (arith, t, ap (λ i. get_or found.marks i 0) e, K.copies_are.cells_only k j (omega arith) jl))
    ]

    pub number_low : get_or found.marks l 0 ≡ 1 → get_or found.numbers l 0 < found.count
    number_low m = omega (arith, ap (λ i. get_or found.numbers i 0) e, copy_low k j kb (cell_marked m) (ap (λ i. get_or found.marks i 0) (sym e) ∙ m))

    pub copy_more : (v : ℕ) → get_or found.marks l 0 ≡ 1 → out_pin N 0 + get_or found.numbers l 0 < length table → v ≡ net_for N B k (N.net (first_pin N j))
        → CopyNets N B (l + 1) (set table (out_pin N 0 + get_or found.numbers l 0) v)
    copy_more v t room w = record { at = now }
      where
        now : (a i : ℕ) → a < B.count → i < N.cells → 1024 * a + i < l + 1 → copied N B a i ≡ true
            → get_or (set table (out_pin N 0 + get_or found.numbers l 0) v) (out_pin N 0 + copy_at N B a i) 0 ≡ net_for N B a (N.net (first_pin N i))
        now a i al il h y = elim (ℕ_discrete (1024 * a + i) l) [
          | yes q ↦
              let ak : a ≡ k = omega (arith, K.limits.few_cells) in
              let ij : i ≡ j = omega (arith, ak) in
              ap (λ n. get_or (set table (out_pin N 0 + get_or found.numbers l 0) v) (out_pin N 0 + n) 0) (sym (K.copies_are.numbered a i al il) ∙ ap (λ n. get_or found.numbers n 0) q)
              ∙ get_or-set_same table (out_pin N 0 + get_or found.numbers l 0) v 0 room
              ∙ w
              ∙ rw (ak, ij) refl
          | no g ↦
              let c : j < N.cells = cell_marked t in
              let k' : k < B.count = omega (arith, count_is) in
              let u : get_or found.numbers l 0 ≡ copy_at N B k j = ap (λ n. get_or found.numbers n 0) e ∙ K.copies_are.numbered k j k' c in
              let x : copied N B k j ≡ true = marked_copy k j kb c (ap (λ n. get_or found.marks n 0) (sym e) ∙ t) in
              get_or-set_other table (out_pin N 0 + get_or found.numbers l 0) (out_pin N 0 + copy_at N B a i) v 0 (λ q.
              let s : copy_at N B a i ≡ copy_at N B k j = omega (arith, q, u) in
              let ak : a ≡ k = sym (copy_block_lem N B a i al il y) ∙ ap (copy_block N B) s ∙ copy_block_lem N B k j k' c x in
              let ij : i ≡ j = sym (copy_cell_lem N B a i al il y) ∙ ap (copy_cell N B) s ∙ copy_cell_lem N B k j k' c x in
              g (rw (ak, ij) (sym e)))
              ∙ T.at a i al il (omega arith) y
        ]

    pub copy_skip : get_or found.marks l 0 ≢ 1 → CopyNets N B (l + 1) table
    copy_skip g = record { at = λ a i al il h y. T.at a i al il (omega (arith, apart a i al il y)) y }
      where
        apart : (a i : ℕ) → a < B.count → i < N.cells → copied N B a i ≡ true → 1024 * a + i ≢ l
        apart a i al il y q = g (ap (λ n. get_or found.marks n 0) (sym q) ∙ K.copies_are.marked a i al il ∙ ap bit y)

  -- the tables of both kinds of pins are the nets of the transformed circuit
  pub all_nets : (table : List ℕ) → OldNets N B found.count (all_pins N) table → CopyNets N B (1024 * b) table
      → (p : ℕ) → p < all_pins (transformed N B) → get_or table p 0 ≡ opened_net N B p
  all_nets table old new p h = elim (three_pins N S R B p h) [
    | inl l ↦
        let q : moved (out_pin N 0) found.count p ≡ p = rw (lt-ltb p (out_pin N 0) l) refl in
        ap (λ i. get_or table i 0) (sym q) ∙ old.at p (omega arith) ∙ sym (pin_old N B p l).1
    | inr (inl t) ↦
        let (c, l, e) = t in
        let (kb, kj, y, at) = copy_is N B c l in
        let k : ℕ = copy_block N B c in
        let j : ℕ = copy_cell N B c in
        ap (λ i. get_or table i 0) (e ∙ ap (λ a. out_pin N 0 + a) (sym at))
        ∙ new.at k j kb kj (omega (arith, count_is, K.limits.few_cells)) y
        ∙ sym (ap (opened_net N B) e ∙ (pin_copy N B c l).1)
    | inr (inr t) ↦
        let (z, l, e) = t in
        let q : moved (out_pin N 0) found.count (out_pin N z) ≡ p = rw (le-ltb (out_pin N z) (out_pin N 0) (omega arith)) (omega (arith, e, K.copies_are.count_is)) in
        let o : home N B (out_pin N z) ≡ B.block (out_pin N z) = home_branch N B (out_pin N z) (out_outside N S z) in
        ap (λ i. get_or table i 0) (sym q) ∙ old.at (out_pin N z) (omega arith) ∙ ap (λ a. net_for N B a (N.net (out_pin N z))) o ∙ sym (ap (opened_net N B) e ∙ (pin_out N B S z).1)
  ]
