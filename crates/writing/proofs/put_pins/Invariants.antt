use Prim.Native.Nat.{ℕ}
use mathlib.Core.List.{List}
use Rattle.chip.specs.File.{pins_file}
use Rattle.chip.specs.Inner.Tables.{tabled}
use Rattle.writing.specs.Inner.Put.{Put}
use Rattle.writing.proofs.put_pins.Given as goal

abbrev pub invariant-loop-net : goal.invariant-loop-net
invariant-loop-net l =
    (i c o : ℕ) (kinds counts : List ℕ) → Put (pins_file (tabled i c o kinds counts l.nets) l.from l.net-index) l.start l.initial.out l.out l.at
