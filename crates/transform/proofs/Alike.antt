-- Netlists that agree on all that they have have the same paths, pad buffers, branches and blocks, and transform alike.
use Prim.Native.Nat.{ℕ, zero, suc, ◌+◌, ◌-◌, ◌≤◌, ◌<◌}
use mathlib.Core.Path.{◌≡◌, refl, sym, ap, ◌∙◌, fun_ext}
use mathlib.Core.Logic.{inl, inr}
use mathlib.Core.Bool.{Bool, true, false, not, cond, ◌&&◌}
use native.Mathlib.Decide.{dec_lt}
use native.Mathlib.Omega.{arith}
use borrow.Author.Tests.{le-ltb}
use lib.Dec.{eqb, leb, ltb}
use Rattle.chip.specs.Netlist.{Netlist, PinOf, sum_below, first_pin, out_pin, all_pins, bit}
use Rattle.chip.specs.Inner.Limits.{InLimits, Sound}
use Rattle.chip.specs.Pads.{some, is_buf, fed, back, source, pad_buffer, into_pad, branch_of}
use Rattle.chip.specs.Class.{Feeds, direct, via, LoopFree, Reach, here, on, Branch, Together, same, next, Lowest, Blocks, tally, leads, blocks_of, owner_of, blocks}
use Rattle.chip.specs.Transformed.{on_way, copied, copies_of, copies, copy_at, copy_block, copy_cell, net_for, home, old_cell, opened_net, opened, flat, transformed}
use Rattle.chip.proofs.Bools.{and_no}
use Rattle.chip.proofs.Basics.{Ranked, sum_up, pin_in, first_pin_lem, reach_in}
use Rattle.chip.proofs.Blocks.{tally_same, right}
use Rattle.chip.proofs.Pads.{buf_is, pad_cases, branch_is, out_outside}
use Rattle.chip.proofs.Copies.{copy_is, for_cell, not_copied, pin_old, pin_copy, pin_out, home_branch, home_pad, three_pins, old_of_cell, old_of_copy}
use Rattle.chip.proofs.Twice.{Same}
use Rattle.writing.proofs.Alike.{first_alike, out_alike, pins_alike, turned}

some_same : (s t : ℕ → Bool) (n : ℕ) → ((i : ℕ) → i < n → s i ≡ t i) → some s n ≡ some t n
some_same s t zero h = refl
some_same s t (suc n) h = rw (some_same s t n (λ i l. h i (omega arith)), h n (omega arith)) refl

module _ (M N : Netlist) (A : Same M N) where
  pub pin_alike : {j p : ℕ} → PinOf M j p → PinOf N j p
  pin_alike {j} {p} o =
      let c : j < N.cells = rw A.cells at o.cell in
      let f : first_pin M j ≡ first_pin N j = first_alike M N A j (omega arith) in
      record { cell = c; from = rw f at o.from; to = omega (arith, o.to, A.pins j c) }

  net_alike : {j p : ℕ} → PinOf M j p → M.net p ≡ N.net p
  net_alike {j} {p} o = A.net p (pin_in N j p (pin_alike o))

  pub sound_alike : Sound N → Sound M
  sound_alike S = record {
    pinned = λ j h. let c : j < N.cells = rw A.cells at h in omega (arith, S.pinned j c, A.pins j c);
    named = λ p h. let c : p < all_pins N = rw (pins_alike M N A) at h in omega (arith, S.named p c, A.net p c, A.inputs, A.cells);
  }

  pub reach_alike : (z : ℕ) {p e : ℕ} → Reach M z p e → Reach N z p e
  reach_alike z (here h) = rw (out_alike M N A z) (here (rw A.outs at h))
  reach_alike z (on {p = p} {q = q} {j = j} {e = e} o n r) =
      let r' : Reach N z q e = reach_alike z r in
      let n' : N.net q ≡ N.inputs + j = sym (A.net q (reach_in N z r')) ∙ n ∙ ap (λ i. i + j) A.inputs in
      rw (A.kind j (rw A.cells at o.cell)) (on (pin_alike o) n' r')

  pub feeds_alike : {m n : ℕ} → Feeds M m n → Feeds N m n
  feeds_alike (direct o) = rw (net_alike o, A.inputs) (direct (pin_alike o))
  feeds_alike (via q o) = rw A.inputs (via (rw (net_alike o) at (feeds_alike q)) (pin_alike o))

  -- the same pad buffers
  buf_alike : (j : ℕ) → is_buf M j ≡ is_buf N j
  unfolding is_buf
  buf_alike j = elim (dec_lt j N.cells) [
    | yes l ↦ rw (A.cells, A.kind j l, A.pins j l) refl
    | no g ↦ rw (A.cells, le-ltb j N.cells (omega arith)) refl
  ]

  fed_alike : (n : ℕ) → fed M n ≡ fed N n
  unfolding fed
  fed_alike n = rw (buf_alike (n - M.inputs), A.inputs) (go (is_buf N (n - N.inputs)) refl)
    where
      go : (t : Bool) → is_buf N (n - N.inputs) ≡ t
          → cond (leb N.inputs n && is_buf N (n - N.inputs)) (M.net (first_pin M (n - N.inputs))) n ≡ cond (leb N.inputs n && is_buf N (n - N.inputs)) (N.net (first_pin N (n - N.inputs))) n
      go true e =
          let (l, _, one) = buf_is N (n - N.inputs) e in
          let low : first_pin N (n - N.inputs) < all_pins N = omega (arith, sum_up N.pins (suc (n - N.inputs)) N.cells l) in
          rw (first_alike M N A (n - N.inputs) (omega arith), A.net (first_pin N (n - N.inputs)) low) refl
      go false e = rw (e, and_no (leb N.inputs n)) refl

  back_alike : (k n : ℕ) → back M k n ≡ back N k n
  back_alike zero n = refl
  back_alike (suc k) n = ap (fed M) (back_alike k n) ∙ fed_alike (back N k n)

  source_alike : (n : ℕ) → source M n ≡ source N n
  unfolding source
  source_alike n = rw (back_alike M.cells n, A.cells, A.inputs) refl

  into_alike : (p : ℕ) → into_pad M p ≡ into_pad N p
  unfolding into_pad
  into_alike p =
      ap (λ n. some (λ j. pad_buffer M j && eqb (first_pin M j) p) n) A.cells
      ∙ some_same (λ j. pad_buffer M j && eqb (first_pin M j) p) (λ j. pad_buffer N j && eqb (first_pin N j) p) N.cells (λ j l.
      rw (source_alike (M.inputs + j), first_alike M N A j (omega arith), A.inputs) refl)

  pub branch_of_alike : (p : ℕ) → p < all_pins N → branch_of M p ≡ branch_of N p
  unfolding branch_of
  branch_of_alike p h = rw (into_alike p, source_alike (M.net p), A.net p h, A.inputs) refl

  -- the same branches and blocks
  pub branch_alike : {x p : ℕ} → Branch M x p → Branch N x p
  branch_alike {x} {p} b =
      let h : p < all_pins N = rw (pins_alike M N A) at b.pin in
      record { pin = h; names = sym (branch_of_alike p h) ∙ b.names; input = rw A.inputs at b.input }

  pub together_alike : {x p q : ℕ} → Together M x p q → Together N x p q
  together_alike (same b) = same (branch_alike b)
  together_alike (next t b j) =
      next (together_alike t) (branch_alike b) (record { out = j.out; depth = j.depth; left = reach_alike j.out j.left; right = reach_alike j.out j.right })

-- blocks that agree on the branches
pub record SameBlocks (N : Netlist) (B C : Blocks) : Type 0 where
  pub count : B.count ≡ C.count
  pub input : B.input ≡ C.input
  pub first : B.first ≡ C.first
  pub block : (p : ℕ) → p < all_pins N → branch_of N p < N.inputs → B.block p ≡ C.block p

module _ (M N : Netlist) (A : Same M N) where
  pub free_alike : LoopFree N → LoopFree M
  free_alike free n q = free n (feeds_alike M N A q)

  module _ (low : ℕ → ℕ) (L : Lowest N low) where
    pub lowest_alike : Lowest M low
    lowest_alike = record {
      shares = λ x p b. together_alike N M (turned M N A) (L.shares x p (branch_alike M N A b));
      least = λ x p q t. L.least x p q (together_alike M N A t);
      alone = λ p g. L.alone p (λ x b. g x (branch_alike N M (turned M N A) b));
    }

    leads_alike : (x n : ℕ) → n ≤ all_pins N → tally (leads M low x) n ≡ tally (leads N low x) n
    leads_alike x n h = tally_same (leads M low x) (leads N low x) n (λ p l. rw (branch_of_alike M N A p (omega arith)))

    each_alike : blocks_of M low ≡ blocks_of N low
    each_alike = fun_ext λ x. rw (pins_alike M N A, leads_alike x (all_pins N) (omega arith))

    pub blocks_alike : SameBlocks N (blocks M low) (blocks N low)
    unfolding blocks
    blocks_alike = record {
      count = rw (each_alike, A.inputs) refl;
      input = fun_ext λ b. ap (λ w. owner_of w b M.inputs) each_alike ∙ ap (owner_of (blocks_of N low) b) A.inputs;
      first = fun_ext λ x. ap (λ w. sum_below w x) each_alike;
      block = λ p h i.
          let inside : low p < all_pins N = (right N (branch_of N p) (L.shares (branch_of N p) p (record { pin = h; names = refl; input = i }))).pin in
          rw (branch_of_alike M N A p h, each_alike, leads_alike (branch_of N p) (low p) (omega arith)) refl;
    }

  -- what agrees transforms alike
  module _ (B C : Blocks) (K : SameBlocks N B C) where
    way_alike : (p j : ℕ) → p < all_pins N → on_way M p j ≡ on_way N p j
    unfolding on_way
    way_alike p j h =
        ap (λ n. some (λ k. eqb (back M k (M.net p)) (M.inputs + j)) n) A.cells
        ∙ some_same (λ k. eqb (back M k (M.net p)) (M.inputs + j)) (λ k. eqb (back N k (N.net p)) (N.inputs + j)) N.cells (λ k l.
        rw (back_alike M N A k (M.net p), A.net p h, A.inputs) refl)

    pub copied_alike : copied M B ≡ copied N C
    unfolding copied
    copied_alike = fun_ext λ b. fun_ext λ j. rw (K.first, K.input, pins_alike M N A) (ap (λ t. not (eqb (C.first (C.input b)) b) && t) (some_same
        (λ p. ltb (branch_of M p) M.inputs && (eqb (B.block p) b && on_way M p j)) (λ p. ltb (branch_of N p) N.inputs && (eqb (C.block p) b && on_way N p j)) (all_pins N) (one b j)))
      where
        one : (b j p : ℕ) → p < all_pins N → (ltb (branch_of M p) M.inputs && (eqb (B.block p) b && on_way M p j)) ≡ (ltb (branch_of N p) N.inputs && (eqb (C.block p) b && on_way N p j))
        one b j p h = elim (dec_lt (branch_of N p) N.inputs) [
          | yes i ↦ rw (branch_of_alike M N A p h, way_alike p j h, K.block p h i, A.inputs) refl
          | no g ↦ rw (branch_of_alike M N A p h, A.inputs, le-ltb (branch_of N p) N.inputs (omega arith)) refl
        ]

    of_alike : copies_of M B ≡ copies_of N C
    of_alike = fun_ext λ b. ap (λ t. tally (t b) M.cells) copied_alike ∙ ap (tally (copied N C b)) A.cells

    pub copies_alike : copies M B ≡ copies N C
    unfolding copies
    copies_alike = ap (λ w. sum_below w B.count) of_alike ∙ ap (sum_below (copies_of N C)) K.count

    at_alike : (b j : ℕ) → copy_at M B b j ≡ copy_at N C b j
    unfolding copy_at
    at_alike b j = ap (λ w. sum_below w b + tally (copied M B b) j) of_alike ∙ ap (λ t. sum_below (copies_of N C) b + tally (t b) j) copied_alike

    block_alike : (c : ℕ) → copy_block M B c ≡ copy_block N C c
    unfolding copy_block
    block_alike c = ap (λ w. owner_of w c B.count) of_alike ∙ ap (owner_of (copies_of N C) c) K.count

    cell_alike : (c : ℕ) → copy_cell M B c ≡ copy_cell N C c
    unfolding copy_cell
    cell_alike c =
        ap (λ a. owner_of (λ j. bit (copied M B a j)) (c - sum_below (copies_of M B) a) M.cells) (block_alike c)
        ∙ ap (λ t. owner_of (λ j. bit (t (copy_block N C c) j)) (c - sum_below (copies_of M B) (copy_block N C c)) M.cells) copied_alike
        ∙ ap (λ w. owner_of (λ j. bit (copied N C (copy_block N C c) j)) (c - sum_below w (copy_block N C c)) M.cells) of_alike
        ∙ ap (owner_of (λ j. bit (copied N C (copy_block N C c) j)) (c - sum_below (copies_of N C) (copy_block N C c))) A.cells

    for_alike : (b n : ℕ) → net_for M B b n ≡ net_for N C b n
    unfolding net_for
    for_alike b n = rw (at_alike b (n - M.inputs), ap (λ t. t b (n - M.inputs)) copied_alike, A.inputs, K.count, A.cells) refl

    old_alike : (j : ℕ) → old_cell M B j ≡ old_cell N C j
    unfolding old_cell
    old_alike j = rw (cell_alike (j - M.cells), A.cells) refl

    module _ (S : Sound N) (R : Ranked N) where
      -- the block that a pin belongs to counts for the nets of inputs and pad buffers only
      home_alike : (p : ℕ) → p < all_pins N → net_for M B (home M B p) (M.net p) ≡ net_for N C (home N C p) (N.net p)
      home_alike p h = rw (A.net p h) (for_alike (home M B p) (N.net p) ∙ elim (pad_cases N S R (N.net p) (S.named p h)) [
        | inl s ↦ ap (λ b. net_for N C b (N.net p)) (go s (into_pad N p) refl)
        | inr t ↦
            let (j, c, q, g) = t in
            let none : (b : ℕ) → copied N C b j ≡ false = λ b. not_copied N S R C b j (rw q at g) in
            rw q (for_cell N C (home M B p) j (none (home M B p)) ∙ sym (for_cell N C (home N C p) j (none (home N C p))))
      ])
        where
          go : source N (N.net p) < N.inputs → (t : Bool) → into_pad N p ≡ t → home M B p ≡ home N C p
          go s true e =
              home_pad M B p (into_alike M N A p ∙ e) ∙ ap B.first (ap (source M) (A.net p h) ∙ source_alike M N A (N.net p))
              ∙ ap (λ f. f (source N (N.net p))) K.first ∙ sym (home_pad N C p e)
          go s false e =
              home_branch M B p (into_alike M N A p ∙ e) ∙ K.block p h (rw (branch_is N p e) s) ∙ sym (home_branch N C p e)

      opened_net_lem : (p : ℕ) → p < all_pins (opened N C) → opened_net M B p ≡ opened_net N C p
      opened_net_lem p h = elim (three_pins N S R C p h) [
        | inl l ↦ (pin_old M B p (rw (out_alike M N A 0) l)).1 ∙ home_alike p (omega arith) ∙ sym (pin_old N C p l).1
        | inr (inl s) ↦
            let (c, m, q) = s in
            let (_, lc, _, _) = copy_is N C c m in
            let q' : p ≡ out_pin M 0 + c = rw (out_alike M N A 0) q in
            let f : first_pin N (copy_cell N C c) < all_pins N = pin_in N (copy_cell N C c) (first_pin N (copy_cell N C c)) (first_pin_lem N S (copy_cell N C c) lc) in
            let n : M.net (first_pin M (copy_cell M B c)) ≡ N.net (first_pin N (copy_cell N C c)) =
            ap (λ i. M.net (first_pin M i)) (cell_alike c) ∙ ap M.net (first_alike M N A (copy_cell N C c) (omega arith)) ∙ A.net (first_pin N (copy_cell N C c)) f in
            ap (opened_net M B) q' ∙ (pin_copy M B c (rw copies_alike m)).1 ∙ for_alike (copy_block M B c) (M.net (first_pin M (copy_cell M B c)))
            ∙ ap (λ b. net_for N C b (M.net (first_pin M (copy_cell M B c)))) (block_alike c) ∙ ap (net_for N C (copy_block N C c)) n
            ∙ sym (pin_copy N C c m).1 ∙ ap (opened_net N C) (sym q)
        | inr (inr s) ↦
            let (z, m, q) = s in
            let SM : Sound M = sound_alike M N A S in
            let q' : p ≡ out_pin M z + copies M B = rw (out_alike M N A z, copies_alike) q in
            let a : M.net (out_pin M z) ≡ M.net (out_pin N z) = ap M.net (out_alike M N A z) in
            let b : B.block (out_pin M z) ≡ home M B (out_pin N z) = sym (home_branch M B (out_pin M z) (out_outside M SM z)) ∙ ap (home M B) (out_alike M N A z) in
            ap (opened_net M B) q' ∙ (pin_out M B SM z).1 ∙ ap (net_for M B (B.block (out_pin M z))) a ∙ ap (λ i. net_for M B i (M.net (out_pin N z))) b
            ∙ home_alike (out_pin N z) (omega arith) ∙ ap (λ i. net_for N C i (N.net (out_pin N z))) (home_branch N C (out_pin N z) (out_outside N S z))
            ∙ sym (pin_out N C S z).1 ∙ ap (opened_net N C) (sym q)
      ]

      old_in : (j : ℕ) → j < N.cells + copies N C → old_cell N C j < N.cells
      old_in j l = elim (dec_lt j N.cells) [
        | yes m ↦ rw (old_of_cell N C j m) m
        | no g ↦
            let c : ℕ = j - N.cells in
            let e : j ≡ N.cells + c = omega arith in
            rw (ap (old_cell N C) e ∙ old_of_copy N C c) (copy_is N C c (omega arith)).1
      ]

      pub opened_alike : Same (transformed M B) (transformed N C)
      opened_alike =
          record {
            inputs = K.count;
            cells = rw (copies_alike, A.cells) refl;
            outs = A.outs;
            kind = λ j h. ap flat (ap M.kind (old_alike j) ∙ A.kind (old_cell N C j) (old_in j h));
            pins = λ j h. ap M.pins (old_alike j) ∙ A.pins (old_cell N C j) (old_in j h);
            net = opened_net_lem;
          }

-- the limits of what agrees
pub limits_alike : (M N : Netlist) → Same M N → InLimits N → InLimits M
limits_alike M N A L =
    record {
      some_input = omega (arith, A.inputs, L.some_input);
      few_inputs = omega (arith, A.inputs, L.few_inputs);
      few_cells = omega (arith, A.cells, L.few_cells);
      some_output = omega (arith, A.outs, L.some_output);
      few_outputs = omega (arith, A.outs, L.few_outputs);
      few_pins = omega (arith, pins_alike M N A, L.few_pins);
      kinds_known = λ j h. let c : j < N.cells = rw A.cells at h in omega (arith, A.kind j c, L.kinds_known j c);
      pins_taken = λ j h. let c : j < N.cells = rw A.cells at h in rw (A.kind j c, A.pins j c) (L.pins_taken j c);
      sound = sound_alike M N A L.sound;
    }
