use Rattle.chip.specs.Format.{pins}
use lib.ListN.{length, take, drop}
use Prim.Native.Nat.{◌+◌, ◌-◌, ◌*◌}
use mathlib.Core.Path.{◌≡◌}
use Rattle.netlist.proofs.read_pins.Given as goal

abbrev pub invariant-loop-k : goal.invariant-loop-k
invariant-loop-k l =
    (length l.nets ≡ length l.initial.nets)
    × (drop (l.first + l.n) l.nets ≡ drop (l.first + l.n) l.initial.nets)
    × (pins l.file l.bound (l.n - l.k) (l.from + 2 * l.k) (take (l.first + l.k) l.nets) ≡ pins l.file l.bound l.n l.from (take l.first l.initial.nets))
