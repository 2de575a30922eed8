use Prim.Native.Nat.{ℕ, ◌-◌, ◌≤◌, ◌<◌}
use mathlib.Core.Path.{◌≡◌}
use mathlib.Core.Bool.{true, false}
use Rattle.chip.specs.Search.{digit}
use Rattle.walk.specs.Walk.{width_of}
use Rattle.stages.specs.Stage.{Watch}
use Rattle.patterns.specs.Words.{Store}
use Rattle.verdicts.specs.Prepared.{tables_netlist}
use Rattle.verdicts.specs.Verdicts.{AllSofar}
use Rattle.verdicts.proofs.try_outputs.Given as goal

abbrev pub invariant-loop-y : goal.invariant-loop-y
invariant-loop-y l =
    let chip = l.chip in
    let z = chip.sizes in
    (l.y ≤ z.outputs) × ((x : ℕ) → x < l.y → digit x l.todo ≡ false) × ((x : ℕ) → digit x l.todo ≡ true → (x < z.outputs) × (width_of chip.blocks chip.reached.now x ≤ 16)) × Store z.cells l.goods l.vals
    × Watch z.inputs z.cells (tables_netlist chip) chip.counts.now chip.firsts.now chip.order.now l.known.left l.groups
    × AllSofar z.inputs z.cells z.outputs z.pins chip.blocks l.todo chip.kinds.now chip.counts.now chip.nets.now chip.reached.now l.initial.known.left l.known.left l.known.best l.known.pat

abbrev pub decreases-loop-y : goal.decreases-loop-y
decreases-loop-y l = l.chip.sizes.outputs - l.y
