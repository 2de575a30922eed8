use Prim.Native.Nat.{ℕ, ◌+◌, ◌*◌}
use mathlib.Core.Path.{◌≡◌}
use mathlib.Core.List.{List}
use lib.ListN.{get_or}
use Rattle.chip.specs.Netlist.{sum_below}
use Rattle.chip.specs.File.{outputs_file}
use Rattle.chip.specs.Inner.Tables.{tabled}
use Rattle.writing.specs.Inner.Put.{Put}
use Rattle.writing.proofs.put_outputs.Given as goal

abbrev pub invariant-loop-z : goal.invariant-loop-z
invariant-loop-z l =
    (l.at ≡ l.initial.at + 3 * l.z)
    × ((i c : ℕ) (kinds counts : List ℕ) → l.first ≡ sum_below (λ j. get_or counts j 0) c
    → Put (outputs_file (tabled i c l.o kinds counts l.nets) (λ z. l.b + 1 + z) l.z) l.initial.at l.initial.out l.out l.at)
