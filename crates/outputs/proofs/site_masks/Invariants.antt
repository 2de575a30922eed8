use Prim.Native.Nat.{ℕ, ◌+◌}
use mathlib.Core.Path.{◌≡◌}
use lib.ListN.{length, get_or}
use Rattle.chip.specs.Netlist.{Netlist, all_pins}
use Rattle.levels.specs.Levels.{ReachMasks}
use Rattle.outputs.proofs.Tables.{SitesTo}
use Rattle.outputs.proofs.site_masks.Given as goal

abbrev pub invariant-loop-p : goal.invariant-loop-p
invariant-loop-p l =
    (length l.sites ≡ 5184) × ((N : Netlist) → l.n ≡ all_pins N → l.base ≡ N.inputs + N.cells → ((q : ℕ) → N.net q ≡ get_or l.nets q 0) → ReachMasks N l.cone → SitesTo l.p l.base N l.cone l.sites)
