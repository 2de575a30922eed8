use Prim.Native.Nat.{◌+◌, ◌-◌, ◌*◌, ◌≤◌}
use mathlib.Core.Path.{◌≡◌}
use Rattle.known.specs.Setting.{Went}
use Rattle.alone.specs.Alone.{Between, OutStep}
use Rattle.alone.proofs.try_outs.Given as goal

abbrev pub invariant-loop-e : goal.invariant-loop-e
invariant-loop-e l =
    (l.e ≤ l.e-end) × (l.e-end ≡ 2 * l.fn.sizes.outputs) × (l.first ≡ 2 * (l.fn.sizes.inputs + l.fn.sizes.cells + l.fn.sizes.pins - l.fn.sizes.outputs)) × Went (Between l.first (l.first + l.e)) (OutStep l.fn.sizes.inputs l.fn.sizes.cells l.fn.sizes.outputs l.fn.sizes.pins l.trial.chunk l.trial.at l.group.outs.now l.goods) l.initial.known.left l.initial.known.best l.initial.known.pat l.known.left l.known.best l.known.pat

abbrev pub decreases-loop-e : goal.decreases-loop-e
decreases-loop-e l = l.e-end - l.e
