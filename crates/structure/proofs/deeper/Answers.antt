-- `structure::deeper` keeps its contract: the level has the masks at depth e, the branches are joined by them, and what some net reaches some pin does.
use native.Mathlib.Omega.{arith}
use mathlib.Core.Path.{refl}
use Rattle.levels.proofs.Nets.{below_all}
use Rattle.structure.proofs.deeper.Goals as goal

pub join_inputs-requires : goal.join_inputs-requires
join_inputs-requires c =
    let T = c.requires.in_order in
    (T.sorted.limits.few_inputs, T.sorted.limits.few_outputs, omega (arith, T.sorted.limits.few_pins, T.branched.pins))

pub overflow_add-z : goal.overflow_add-z
overflow_add-z c = let T = c.requires.in_order in omega (arith, T.sorted.limits.few_inputs, T.sorted.limits.few_cells)

pub any_net-requires : goal.any_net-requires
any_net-requires c = let T = c.requires.in_order in omega (arith, T.sorted.limits.few_inputs, T.sorted.limits.few_cells)

pub returns : goal.returns
returns c =
    let T = c.requires.in_order in
    let e = c.args.e in
    let masks = c.level.ensures in
    record {
      next = masks.nets;
      joined = c.join_inputs.ensures _ e _ T.sorted.limits T.sorted.ordered refl T.branched masks c.requires.labels;
      reached = below_all _ e T.sorted.limits.sound (c.any_net.ensures _ e (omega arith) masks.nets);
    }
