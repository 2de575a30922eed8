use Rattle.chip.specs.Format.{outputs}
use lib.ListN.{length, take, drop}
use Prim.Native.Nat.{◌+◌, ◌-◌, ◌*◌}
use mathlib.Core.Path.{◌≡◌}
use Rattle.netlist.proofs.read_outputs.Given as goal

abbrev pub invariant-loop-z : goal.invariant-loop-z
invariant-loop-z l =
    (length l.pads ≡ length l.initial.pads)
    × (length l.nets ≡ length l.initial.nets)
    × (drop (l.used + l.n) l.pads ≡ drop (l.used + l.n) l.initial.pads)
    × (drop (l.first + l.n) l.nets ≡ drop (l.first + l.n) l.initial.nets)
    × (outputs l.file l.bound (l.n - l.z) (l.from + 3 * l.z) (take (l.used + l.z) l.pads) (take (l.first + l.z) l.nets) ≡ outputs l.file l.bound l.n l.from (take l.used l.initial.pads) (take l.first l.initial.nets))
