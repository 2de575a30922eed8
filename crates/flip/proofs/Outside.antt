-- A fault on no pad buffer, as what each pin makes of the value of the block or the cell that it names.
use Prim.Native.Nat.{ℕ, zero, suc, ◌+◌, ◌≤◌, ◌<◌}
use mathlib.Core.Path.{◌≡◌, ap, ◌∙◌}
use mathlib.Core.Bool.{Bool, true}
use native.Mathlib.Omega.{arith}
use borrow.Author.Tests.{lt-ltb, le-ltb}
use Rattle.chip.specs.Netlist.{Netlist, first_pin, all_pins}
use Rattle.chip.specs.Inner.Limits.{Sound}
use Rattle.chip.specs.Pads.{source, into_pad, branch_of}
use Rattle.chip.specs.Faults.{Lines}
use Rattle.chip.specs.Inner.Direct.{through, comes, at_pins}
use Rattle.chip.proofs.Basics.{Ranked}
use Rattle.chip.proofs.Pads.{Pad, itself, buffer, height, height_top, buf_low, buf_is, pad_source, source_pad, into_pad_lem, branch_in}
use Rattle.chip.proofs.Direct.{through_input, through_buf}

-- the nets of pad buffers and the pins into them show what they are given
pub record OffPads (N : Netlist) (f : Lines) : Type 0 where
  pub net : (j : ℕ) (b : Bool) → source N (N.inputs + j) < N.inputs → f.net (N.inputs + j) b ≡ b
  pub pin : (p : ℕ) (b : Bool) → into_pad N p ≡ true → f.pin p b ≡ b

comes_branch : (N : Netlist) (f : Lines) (p : ℕ) (b : Bool) → branch_of N p < N.inputs → comes N f p b ≡ through N f N.cells (N.net p) b
unfolding comes
comes_branch N f p b l = cc (lt-ltb (branch_of N p) N.inputs l)

comes_other : (N : Netlist) (f : Lines) (p : ℕ) (b : Bool) → ¬ (branch_of N p < N.inputs) → comes N f p b ≡ f.net (N.net p) b
unfolding comes
comes_other N f p b g = cc (le-ltb (branch_of N p) N.inputs (omega arith))

-- a pin that is no branch
pub at_other : (N : Netlist) (f : Lines) (p : ℕ) (b : Bool) → ¬ (branch_of N p < N.inputs) → (at_pins N f).pin p b ≡ f.pin p (f.net (N.net p) b)
at_other N f p b g = ap (f.pin p) (comes_other N f p b g)

module _ (N : Netlist) (S : Sound N) (R : Ranked N) (f : Lines) (F : OffPads N f) where
  -- the pad buffers on the way pass on what the input shows
  through_pads : {n x : ℕ} → Pad N n x → (k : ℕ) (b : Bool) → height N S R n ≤ k → through N f k n b ≡ f.net x b
  through_pads (itself {x = x} l) k b h = through_input N f k x b l
  through_pads (buffer j e a) zero b h = absurd (omega (arith, buf_low N S R j e))
  through_pads (buffer j {x = x} e a) (suc k) b h =
      let (src, xi) = pad_source N S R (buffer j e a) in
      let (l, _, _) = buf_is N j e in
      let pad : source N (N.inputs + j) < N.inputs = rw src xi in
      through_buf N f k j b e
      ∙ F.net j (f.pin (first_pin N j) (through N f k (N.net (first_pin N j)) b)) pad
      ∙ F.pin (first_pin N j) (through N f k (N.net (first_pin N j)) b) (into_pad_lem N j l pad)
      ∙ through_pads a k b (omega (arith, buf_low N S R j e))

  -- a branch
  pub at_branch : (p : ℕ) (b : Bool) → p < all_pins N → branch_of N p < N.inputs → (at_pins N f).pin p b ≡ f.pin p (f.net (branch_of N p) b)
  at_branch p b h i =
      let (_, q) = branch_in N p i in
      let s : source N (N.net p) < N.inputs = rw q i in
      ap (f.pin p) (
      comes_branch N f p b i
      ∙ through_pads (source_pad N S R (N.net p) (S.named p h) s) N.cells b (height_top N S R (N.net p) (S.named p h))
      ∙ ap (λ x. f.net x b) q
      )
