use Rattle.netlist.specs.Inner.Steps.{Kept, so_far}
use lib.ListN.{length}
use Prim.Native.Nat.{◌+◌, ◌-◌, ◌*◌, ◌≤◌}
use Rattle.chip.specs.Format.{cells}
use mathlib.Core.Path.{◌≡◌}
use Rattle.netlist.proofs.read_cells.Given as goal

abbrev pub invariant-loop-j : goal.invariant-loop-j
invariant-loop-j l =
    (l.p ≤ 4096)
    × (l.at ≡ l.from + 2 * l.j + 2 * l.p)
    × (length l.kinds ≡ length l.initial.kinds)
    × (length l.counts ≡ length l.initial.counts)
    × (length l.nets ≡ length l.initial.nets)
    × Kept l.j l.p (record { kinds = l.initial.kinds; counts = l.initial.counts; nets = l.initial.nets }) (record { kinds = l.kinds; counts = l.counts; nets = l.nets })
    × (cells l.file l.bound (l.n - l.j) (so_far l.at l.j l.p (record { kinds = l.kinds; counts = l.counts; nets = l.nets }))
    ≡ cells l.file l.bound l.n (so_far l.from 0 0 (record { kinds = l.initial.kinds; counts = l.initial.counts; nets = l.initial.nets })))
