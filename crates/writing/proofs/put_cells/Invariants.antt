use Prim.Native.Nat.{ℕ}
use mathlib.Core.Path.{◌≡◌}
use lib.ListN.{get_or}
use Rattle.chip.specs.Netlist.{sum_below}
use Rattle.chip.specs.File.{cells_file}
use Rattle.chip.specs.Inner.Tables.{tabled}
use Rattle.writing.specs.Inner.Put.{Put}
use Rattle.writing.proofs.put_cells.Given as goal

abbrev pub invariant-loop-j : goal.invariant-loop-j
invariant-loop-j l =
    (l.p ≡ sum_below (λ k. get_or l.counts k 0) l.j)
    × ((i o : ℕ) → Put (cells_file (tabled i l.c o l.kinds l.counts l.nets) l.j) l.initial.at l.initial.out l.out l.at)
