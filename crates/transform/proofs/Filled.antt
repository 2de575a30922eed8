-- The tables that were filled hold the transformed circuit, and its file is that of the tables.
use Prim.Native.Nat.{ℕ, ◌+◌, ◌*◌, ◌≤◌, ◌<◌}
use mathlib.Core.Path.{◌≡◌, refl, ap, ◌∙◌}
use mathlib.Core.Logic.{◌⊎◌, inl, inr}
use mathlib.Core.List.{List}
use native.Mathlib.Omega.{arith}
use native.Mathlib.Decide.{dec_lt}
use borrow.Author.Tests.{lt-ltb, le-ltb}
use lib.ListN.{length, get_or}
use Rattle.chip.specs.Netlist.{Netlist, out_pin, all_pins}
use Rattle.chip.specs.Inner.Limits.{InLimits}
use Rattle.chip.specs.Class.{Blocks, blocks}
use Rattle.chip.specs.Transformed.{copies, transformed}
use Rattle.chip.specs.File.{file_of, padded_file, transformed_file}
use Rattle.chip.specs.Inner.Tables.{tabled, sized}
use Rattle.chip.specs.declared.Sizes.{Sizes}
use Rattle.chip.proofs.Loops.{ranked}
use Rattle.chip.proofs.Twice.{Same}
use Rattle.writing.proofs.Lengths.{file_long}
use Rattle.writing.proofs.Alike.{pins_alike, file_same}
use Rattle.copies.specs.declared.Copies.{Copies}
use Rattle.opening.specs.declared.Chip.{Chip}
use Rattle.transform.specs.Inner.New.{Copied, moved, NewCells, OldNets, CopyNets, NewTables}
use Rattle.transform.proofs.Alike.{limits_alike}
use Rattle.transform.proofs.Answers.{Writable}
use Rattle.transform.proofs.Again.{new_limits, new_pins}
use Rattle.transform.proofs.NewTables.{tables_same}
use Rattle.transform.proofs.New.{CopiedNet, copied_net, all_nets}

-- a pin of the netlist stands at no copy's place
moved_out : (first m p : ℕ) → (moved first m p < first) ⊎ (first + m ≤ moved first m p)
moved_out first m p = elim (dec_lt p first) [ yes l ↦ inl (rw (lt-ltb p first l) l) | no g ↦ inr (rw (le-ltb p first (omega arith)) (omega arith)) ]

-- a netlist of n pins whose file is that of the transformed circuit
pub record Filled (N : Netlist) (B : Blocks) (n : ℕ) (M : Netlist) : Type 0 where
  pub limits : InLimits M
  pub pins : n ≡ all_pins M
  pub file : padded_file M ≡ transformed_file N B

-- the netlist that tables hold, with its number of pins, its blocks and its copies
pub record Totalled (z : Sizes) (kinds counts nets : List ℕ) (low : ℕ → ℕ) (b : ℕ) (branches block : List ℕ) (found : Copies) : Type 0 where
  pub pins : z.pins ≡ all_pins (sized z kinds counts nets)
  pub copied : CopiedNet (sized z kinds counts nets) low b branches block found

-- that of an open chip
pub totalled : {t : Chip} {found : Copies} (K : Copied t found) → Totalled t.sizes t.kinds t.counts t.nets K.is_open.ready.shaped.low t.shape.blocks t.branches t.block found
totalled K = record { pins = K.is_open.ready.pins; copied = copied_net K }

module _ {z : Sizes} {kinds counts nets : List ℕ} {low : ℕ → ℕ} {b : ℕ} {branches block : List ℕ} {found : Copies} (P : Totalled z kinds counts nets low b branches block found) where
  abbrev N : Netlist
  N = sized z kinds counts nets

  abbrev B : Blocks
  B = blocks N low

  abbrev T : Netlist
  T = transformed N B

  K : CopiedNet N low b branches block found
  K = P.copied

  number : b ≡ B.count
  number = K.numbered.count_is

  few : found.count ≡ copies N B
  few = K.copies_are.count_is

  all_pins_lem : all_pins T ≡ all_pins N + copies N B
  all_pins_lem = new_pins N K.limits K.loop_free low K.least

  -- the transformed circuit fits a file
  pub fits : Writable N B
  fits = record { few_blocks = omega (arith, number, K.few_blocks); few_cells = omega (arith, few, K.few_cells); few_pins = omega (arith, few, K.few_pins) }

  -- how long its file is
  pub circuit_long : 6 + b + 2 * (z.cells + found.count) + 2 * (z.pins + found.count) + z.outputs ≡ length (transformed_file N B)
  circuit_long = omega (arith, file_long T (λ k. k + 1) (λ k. B.count + 1 + k), all_pins_lem, number, few, P.pins)

  module _ {flats sizes before after : List ℕ} {first : ℕ} (start : first + z.outputs ≡ z.pins) (F : NewCells z.cells (z.cells + found.count) kinds counts flats sizes)
      (O : OldNets N B found.count z.pins before) (D : CopyNets N B (1024 * b) after)
      (U : (p : ℕ) → (p < first) ⊎ (first + found.count ≤ p) → get_or after p 0 ≡ get_or before p 0) where
    abbrev M : Netlist
    M = tabled b (z.cells + found.count) z.outputs flats sizes after

    new_tables : NewTables N B flats sizes after
    new_tables =
        let first_is : first ≡ out_pin N 0 = omega (arith, start, P.pins) in
        record {
          old_kind = λ j h. F.kind j (omega arith) ∙ rw (lt-ltb j z.cells h) refl;
          old_count = λ j h. F.count j (omega arith) ∙ rw (lt-ltb j z.cells h) refl;
          new_kind = λ k h. F.kind (z.cells + k) (omega (arith, few)) ∙ rw (le-ltb (z.cells + k) z.cells (omega arith)) refl;
          new_count = λ k h. F.count (z.cells + k) (omega (arith, few)) ∙ rw (le-ltb (z.cells + k) z.cells (omega arith)) refl;
          new_net = all_nets K after
              (record { at = λ p h. U (moved (out_pin N 0) found.count p) (rw first_is (moved_out (out_pin N 0) found.count p)) ∙ O.at p (omega (arith, P.pins)) }) D;
        }

    new_same : Same M T
    new_same = rw (number, few) (tables_same N K.limits.sound (ranked N K.loop_free) B flats sizes after new_tables)

    pub filled : Filled N B (z.pins + found.count) M
    filled = record {
      limits = limits_alike M T new_same (new_limits N K.limits K.loop_free low K.least fits);
      pins = omega (arith, pins_alike M T new_same, all_pins_lem, few, P.pins);
      file =
          ap (λ n. file_of (λ k. k + 1) (λ k. n + 1 + k) M) number
          ∙ file_same M T new_same (λ k. k + 1) (λ k. B.count + 1 + k);
    }
