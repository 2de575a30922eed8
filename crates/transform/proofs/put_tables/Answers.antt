-- New cells, old nets and copied nets fill different entries, and together they are the tables of the transformed circuit.
use Prim.Native.Nat.{ℕ, ◌+◌}
use mathlib.Core.Path.{sym}
use mathlib.Core.List.{List}
use native.Mathlib.Omega.{arith}
use Rattle.std.proofs.lemmas.List.{get_or-replicate}
use Rattle.copies.specs.declared.Copies.{Copies}
use Rattle.opening.specs.declared.Chip.{Chip}
use Rattle.transform.specs.Inner.New.{Copied, NewCells}
use Rattle.transform.proofs.Filled.{totalled, filled}
use Rattle.transform.proofs.put_tables.Goals as goal

-- of the 1,024 cells the first are those of the transformed circuit
cells_now : {t : Chip} {found : Copies} {flats sizes : List ℕ} → Copied t found → NewCells t.sizes.cells 1024 t.kinds t.counts flats sizes
    → NewCells t.sizes.cells (t.sizes.cells + found.count) t.kinds t.counts flats sizes
cells_now K F = record { kind = λ j h. F.kind j (omega (arith, K.few_cells)); count = λ j h. F.count j (omega (arith, K.few_cells)) }

pub new_cells-requires-clause-copies : goal.new_cells-requires-clause-copies
new_cells-requires-clause-copies c j h = (get_or-replicate 1024 j 0 0 h, get_or-replicate 1024 j 1 0 h)

pub put_file-requires : goal.put_file-requires
put_file-requires c =
    let K = c.requires.copied in
    let M = filled (totalled K) (omega (arith, K.is_open.ready.pins)) (cells_now K c.new_cells.ensures) (c.old_nets.ensures.nets K) (c.copy_nets.ensures.nets K) c.copy_nets.ensures.others in
    record { in_limits = M.limits; n_value = M.pins; o_in_bounds = c.requires.room }

pub returns : goal.returns
returns c K =
    let M = filled (totalled K) (omega (arith, K.is_open.ready.pins)) (cells_now K c.new_cells.ensures) (c.old_nets.ensures.nets K) (c.copy_nets.ensures.nets K) c.copy_nets.ensures.others in
    rw (sym M.file) c.put_file.ensures
