use mathlib.Core.List.{[]}
use Rattle.chip.specs.Format.{inputs}
use lib.ListN.{length, take, drop}
use Prim.Native.Nat.{◌+◌, ◌-◌}
use mathlib.Core.Path.{◌≡◌}
use Rattle.netlist.proofs.read_inputs.Given as goal

abbrev pub invariant-loop-x : goal.invariant-loop-x
invariant-loop-x l =
    (length l.pads ≡ length l.initial.pads)
    × (drop l.n l.pads ≡ drop l.n l.initial.pads)
    × (inputs l.file (l.n - l.x) (2 + l.x) (take l.x l.pads) ≡ inputs l.file l.n 2 [])
