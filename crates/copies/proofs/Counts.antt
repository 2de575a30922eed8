-- The marks before a place, counted, are the number of a copy; all marks are as many as there are copies.
use Prim.Native.Nat.{ℕ, zero, suc, ◌+◌, ◌*◌, ◌-◌, ◌≤◌, ◌<◌}
use mathlib.Core.Path.{◌≡◌, refl, sym, ap, ◌∙◌}
use mathlib.Core.Bool.{not, ◌&&◌}
use mathlib.Core.List.{List}
use native.Mathlib.Omega.{arith}
use native.Mathlib.Nat.{add-zero, add-suc}
use borrow.Author.Tests.{leb-true}
use lib.Dec.{eqb, leb, ltb}
use lib.ListN.{length, get_or}
use Rattle.chip.specs.Netlist.{Netlist, sum_below, all_pins, bit}
use Rattle.chip.specs.Inner.Limits.{InLimits}
use Rattle.chip.specs.Pads.{some, back, branch_of}
use Rattle.chip.specs.Class.{LoopFree, Lowest, Blocks, blocks, tally}
use Rattle.chip.specs.Transformed.{on_way, copied, copies_of, copies, copy_at}
use Rattle.chip.proofs.Bools.{both_true, fails}
use Rattle.chip.proofs.Basics.{Counted}
use Rattle.chip.proofs.Blocks.{counted}
use Rattle.chip.proofs.Loops.{ranked}
use Rattle.chip.proofs.Pads.{some_yes, back_named}
use Rattle.copies.specs.Inner.Marks.{flat_way, FlatMarks, FirstBlocks, CopiesOf}
use Rattle.copies.specs.declared.Copies.{Copies}
use Rattle.blocks.specs.Labels.{Numbered}
use Rattle.copies.proofs.Copied.{way_on, flat_copied}

module _ (N : Netlist) (L : InLimits N) (free : LoopFree N) (B : Blocks) (C : Counted N B) (marks : List ℕ) (K : FlatMarks N B (all_pins N) marks) where
  -- places behind the last cell have no mark
  beyond : (b j : ℕ) → N.cells ≤ j → j < 1024 → get_or marks (1024 * b + j) 0 ≡ 0
  beyond b j c h = K.at (1024 * b + j) ∙ ap bit (fails (some (flat_way N B (1024 * b + j)) (all_pins N)) λ e.
      let (p, l, t) = some_yes (flat_way N B (1024 * b + j)) (all_pins N) e in
      let (_, u) = both_true (ltb (branch_of N p) N.inputs) (not (eqb (B.first (branch_of N p)) (B.block p)) && (leb (1024 * B.block p) (1024 * b + j) && on_way N p (1024 * b + j - 1024 * B.block p))) t in
      let (_, v) = both_true (not (eqb (B.first (branch_of N p)) (B.block p))) (leb (1024 * B.block p) (1024 * b + j) && on_way N p (1024 * b + j - 1024 * B.block p)) u in
      let (t₃, t₄) = both_true (leb (1024 * B.block p) (1024 * b + j)) (on_way N p (1024 * b + j - 1024 * B.block p)) v in
      let (k, m, q) = way_on N L free B C p (1024 * b + j - 1024 * B.block p) t₄ in
      let n : back N k (N.net p) < N.inputs + N.cells = back_named N L.sound (ranked N free) k (N.net p) (L.sound.named p l) in
      omega (arith, leb-true (1024 * B.block p) (1024 * b + j) t₃, L.few_cells))

  within : (b j : ℕ) → j < N.cells → get_or marks (1024 * b + j) 0 ≡ bit (copied N B b j)
  within b j c = K.at (1024 * b + j) ∙ ap bit (flat_copied N L free B C b j c)

  step : (w : ℕ → ℕ) (a j : ℕ) → sum_below w (a + suc j) ≡ sum_below w (a + j) + w (a + j)
  step w a j = ap (sum_below w) (add-suc a j)

  -- the marks before the place of block b and cell j
  row : (b j : ℕ) → j ≤ N.cells → sum_below (λ l. get_or marks l 0) (1024 * b + j) ≡ sum_below (λ l. get_or marks l 0) (1024 * b) + tally (copied N B b) j
  row b zero h = ap (sum_below (λ l. get_or marks l 0)) (add-zero (1024 * b)) ∙ sym (add-zero _)
  row b (suc j) h = omega (arith, step (λ l. get_or marks l 0) (1024 * b) j, row b j (omega arith), within b j (omega arith))

  rest : (b d : ℕ) → N.cells + d ≤ 1024 → sum_below (λ l. get_or marks l 0) (1024 * b + (N.cells + d)) ≡ sum_below (λ l. get_or marks l 0) (1024 * b + N.cells)
  rest b zero h = ap (λ n. sum_below (λ l. get_or marks l 0) (1024 * b + n)) (add-zero N.cells)
  rest b (suc d) h =
      let e : sum_below (λ l. get_or marks l 0) (1024 * b + (N.cells + suc d)) ≡ sum_below (λ l. get_or marks l 0) (1024 * b + suc (N.cells + d)) = ap (λ n. sum_below (λ l. get_or marks l 0) (1024 * b + n)) (add-suc N.cells d) in
      omega (arith, e, step (λ l. get_or marks l 0) (1024 * b) (N.cells + d), beyond b (N.cells + d) (omega arith) (omega arith), rest b d (omega arith))

  rows : (b : ℕ) → sum_below (λ l. get_or marks l 0) (1024 * b) ≡ sum_below (copies_of N B) b
  rows zero = refl
  rows (suc b) =
      let n : 1024 * suc b ≡ 1024 * b + (N.cells + (1024 - N.cells)) = omega (arith, L.few_cells) in
      omega (arith, ap (sum_below (λ l. get_or marks l 0)) n, rest b (1024 - N.cells) (omega (arith, L.few_cells)), row b N.cells (omega arith), rows b)

  -- the number of a copy
  number_is : (b j : ℕ) → j ≤ N.cells → sum_below (λ l. get_or marks l 0) (1024 * b + j) ≡ copy_at N B b j
  unfolding copy_at
  number_is b j h = omega (arith, row b j h, rows b)

  -- how many copies there are
  all_are : sum_below (λ l. get_or marks l 0) (1024 * B.count) ≡ copies N B
  unfolding copies
  all_are = rows B.count

-- what was found are the copies
module _ (N : Netlist) (L : InLimits N) (free : LoopFree N) (low : ℕ → ℕ) (W : Lowest N low) where
  pub found_copies : (b : ℕ) (block : List ℕ) (found : Copies) → Numbered N low block b → FirstBlocks N (blocks N low) found.lowest → FlatMarks N (blocks N low) (all_pins N) found.marks
      → length found.numbers ≡ 65536 → found.count ≡ sum_below (λ l. get_or found.marks l 0) (1024 * b)
      → ((k : ℕ) → k < 1024 * b → get_or found.numbers k 0 ≡ sum_below (λ l. get_or found.marks l 0) k) → CopiesOf N (blocks N low) found
  found_copies b block found D F K long e h =
      let C : Counted N (blocks N low) = counted N low W in
      record {
        marks_long = K.long;
        numbers_long = long;
        lowest_is = F;
        marked = λ a j l c. within N L free (blocks N low) C found.marks K a j c;
        numbered = λ a j l c. h (1024 * a + j) (omega (arith, D.count_is, L.few_cells)) ∙ number_is N L free (blocks N low) C found.marks K a j (omega arith);
        cells_only = beyond N L free (blocks N low) C found.marks K;
        count_is = e ∙ ap (λ m. sum_below (λ l. get_or found.marks l 0) (1024 * m)) D.count_is ∙ all_are N L free (blocks N low) C found.marks K;
      }
