use Prim.Native.Nat.{ℕ, ◌<◌}
use mathlib.Core.Path.{◌≡◌}
use lib.ListN.{length, get_or}
use Rattle.order.specs.Sorted.{netlist_in}
use Rattle.chip.specs.Pads.{source}
use Rattle.pads.proofs.pin_sources.Given as goal

abbrev pub invariant-loop-p : goal.invariant-loop-p
invariant-loop-p l =
    (length l.table ≡ 4096) × ((q : ℕ) → q < l.p → get_or l.table q 0 ≡ source (netlist_in l.cells) (get_or l.cells.nets.now q 0))
