-- Inputs, cells and outputs are stored one behind the other from place 0 on, and their lengths add up to the file's.
use Prim.Native.Nat.{◌+◌}
use native.Mathlib.Omega.{arith}
use Rattle.chip.specs.Inner.Tables.{sized}
use Rattle.writing.proofs.Lengths.{length_listed, cells_long, file_long}
use Rattle.writing.proofs.Puts.{put_length, put_wrote, put_file}
use Rattle.writing.proofs.put_file.Goals as goal

pub put_cells-outputs-requires : goal.put_cells-outputs-requires
put_cells-outputs-requires c =
    let p = c.put_inputs-cells.ensures in
    let L = c.requires.in_limits in record { c_bound = (L.few_cells, omega (arith, L.few_pins)); c_in_bounds = omega (arith, p.next, length_listed (λ k. k + 1) c.args.z.inputs, put_length p, c.requires.n_value, c.requires.o_in_bounds) }

pub put_outputs-requires : goal.put_outputs-requires
put_outputs-requires c =
    let a = c.args in
    let p = c.put_inputs-cells.ensures in
    let q = c.put_cells-outputs.ensures a.z.inputs a.z.outputs in
    let L = c.requires.in_limits in record {
      o_bound = (omega (arith, L.few_pins, c.requires.n_value), L.few_outputs, L.few_inputs);
      o_in_bounds = omega (
        arith,
        p.next,
        length_listed (λ k. k + 1) a.z.inputs,
        put_length p,
        q.next,
        cells_long (sized a.z a.kinds.now a.counts.now a.nets.now) a.z.cells,
        put_length q,
        c.requires.n_value,
        c.requires.o_in_bounds,
      );
    }

pub returns : goal.returns
returns c =
    let a = c.args in
    let N = sized a.z a.kinds.now a.counts.now a.nets.now in
    let p = put_file N (λ k. k + 1) (λ z. a.z.inputs + 1 + z) c.put_inputs-cells.ensures (c.put_cells-outputs.ensures a.z.inputs a.z.outputs)
    (c.put_outputs.ensures a.z.inputs a.z.cells a.kinds.now a.counts.now (omega (arith, c.requires.n_value))) in
    put_wrote (omega (arith, file_long N (λ k. k + 1) (λ z. a.z.inputs + 1 + z), c.requires.n_value, c.requires.o_in_bounds)) p
