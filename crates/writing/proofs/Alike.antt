-- Netlists that agree on all that they have give one file; and what is read from a file agrees with what it was written from.
use Prim.Native.Nat.{ℕ, zero, suc, ◌+◌, ◌≤◌}
use mathlib.Core.Path.{◌≡◌, refl, sym, ap, ◌∙◌}
use native.Mathlib.Omega.{arith}
use Rattle.chip.specs.Netlist.{Netlist, first_pin, out_pin, all_pins}
use Rattle.chip.proofs.Basics.{sum_up, sum_same}
use Rattle.chip.proofs.Twice.{Same}
use Rattle.chip.specs.Format.{chip_of}
use Rattle.chip.specs.File.{pins_file, cells_file, outputs_file, file_of}
use Rattle.writing.proofs.Lengths.{length_listed, listed_at}
use Rattle.writing.proofs.RoundTrip.{parsed_of}

-- what is read from a file that was written is like what it was written from
pub parsed_alike : (in_pad out_pad : ℕ → ℕ) (N : Netlist) → Same (chip_of (parsed_of in_pad out_pad N)) N
unfolding chip_of parsed_of
parsed_alike in_pad out_pad N =
    record {
      inputs = refl;
      cells = length_listed N.kind N.cells;
      outs = refl;
      kind = listed_at N.kind N.cells;
      pins = listed_at N.pins N.cells;
      net = listed_at N.net (all_pins N);
    }

module _ (M N : Netlist) (A : Same M N) where
  pub first_alike : (j : ℕ) → j ≤ N.cells → first_pin M j ≡ first_pin N j
  first_alike j h = sum_same M.pins N.pins j (λ i l. A.pins i (omega arith))

  pub out_alike : (z : ℕ) → out_pin M z ≡ out_pin N z
  out_alike z = rw A.cells (omega (arith, first_alike N.cells (omega arith)))

  pub pins_alike : all_pins M ≡ all_pins N
  pins_alike = rw A.outs (out_alike N.outs)

  pub turned : Same N M
  turned = record {
    inputs = sym A.inputs;
    cells = sym A.cells;
    outs = sym A.outs;
    kind = λ j h. sym (A.kind j (rw A.cells at h));
    pins = λ j h. sym (A.pins j (rw A.cells at h));
    net = λ p h. sym (A.net p (rw pins_alike at h));
  }

  -- one file
  pins_same : (a n : ℕ) → a + n ≤ all_pins N → pins_file M a n ≡ pins_file N a n
  pins_same a zero h = refl
  pins_same a (suc n) h = rw (pins_same a n (omega arith), A.net (a + n) (omega arith))

  cells_same : (j : ℕ) → j ≤ N.cells → cells_file M j ≡ cells_file N j
  cells_same zero h = refl
  cells_same (suc j) h =
      let up : first_pin N (suc j) ≤ first_pin N N.cells = sum_up N.pins (suc j) N.cells h in
      rw (cells_same j (omega arith), A.kind j (omega arith), A.pins j (omega arith), first_alike j (omega arith), pins_same (first_pin N j) (N.pins j) (omega arith))

  outputs_same : (out_pad : ℕ → ℕ) (z : ℕ) → z ≤ N.outs → outputs_file M out_pad z ≡ outputs_file N out_pad z
  outputs_same out_pad zero h = refl
  outputs_same out_pad (suc z) h = rw (outputs_same out_pad z (omega arith), out_alike z, A.net (out_pin N z) (omega arith))

  pub file_same : (in_pad out_pad : ℕ → ℕ) → file_of in_pad out_pad M ≡ file_of in_pad out_pad N
  unfolding file_of
  file_same in_pad out_pad =
      let c : cells_file M M.cells ≡ cells_file N N.cells = cells_same M.cells (omega (arith, A.cells)) ∙ ap (cells_file N) A.cells in
      let o : outputs_file M out_pad M.outs ≡ outputs_file N out_pad N.outs = outputs_same out_pad M.outs (omega (arith, A.outs)) ∙ ap (outputs_file N out_pad) A.outs in
      rw (c, o, A.inputs, A.cells, A.outs)
