use Prim.Native.Nat.{ℕ, ◌+◌, ◌≤◌, ◌<◌}
use mathlib.Core.Path.{◌≡◌}
use mathlib.Core.Logic.{◌⊎◌}
use lib.ListN.{get_or}
use Rattle.opening.specs.Open.{netlist_of}
use Rattle.transform.specs.Inner.New.{blocks_in, Copied, CopyNets}
use Rattle.transform.proofs.copy_nets.Given as goal

abbrev pub invariant-loop-l : goal.invariant-loop-l
invariant-loop-l l =
    ((K : Copied l.opened l.found) → CopyNets (netlist_of l.opened) (blocks_in K.is_open) l.l l.table)
    × ((p : ℕ) → (p < l.first) ⊎ (l.first + l.found.count ≤ p) → get_or l.table p 0 ≡ get_or l.initial.table p 0)
