-- Without flip-flops each path has depth 0, and the order and the limits stay.
use mathlib.Core.Path.{◌≡◌, sym, subst}
use lib.ListN.{replicate}
use Rattle.chip.specs.Inner.Limits.{InLimits}
use Rattle.chip.specs.Inner.Tables.{sized}
use Rattle.chip.specs.Transformed.{flattened}
use Rattle.chip.proofs.Basics.{zero_at}
use Rattle.order.specs.Order.{Ordered}
use Rattle.order.specs.Sorted.{netlist_in}
use Rattle.levels.specs.Levels.{PinMasks}
use Rattle.levels.proofs.Masks.{first_before}
use Rattle.levels.proofs.Flat.{flat_tabled, flat_limits, flat_ordered, flat_masks}
use Rattle.levels.proofs.reach_masks.Goals as goal
use Rattle.levels.proofs.reach_masks.Goals.{After-flat_kinds-gates}

-- the tables with the kinds without their flip-flops
flat_tables : (f : After-flat_kinds-gates) → let t = f.args.cells in sized t.sizes f.flat_kinds-gates.result t.counts.now t.nets.now ≡ flattened (netlist_in t)
flat_tables f =
    let t = f.args.cells in
    let z = t.sizes in
    flat_tabled z.inputs z.cells z.outputs t.kinds.now f.flat_kinds-gates.result t.counts.now t.nets.now f.flat_kinds-gates.ensures

pub level-requires : goal.level-requires
level-requires c =
    let t = c.args.cells in
    let S = c.requires in
    let q = sym (flat_tables (goal.at.level-requires c).After-flat_kinds-gates) in
    record {
      sorted = record {
        limits = subst InLimits q (flat_limits _ S.limits);
        first_pins = S.first_pins;
        ordered = subst (λ M. Ordered M t.order.now) q (flat_ordered _ _ S.ordered);
      };
      masks_before = first_before (sized t.sizes c.flat_kinds-gates.result t.counts.now t.nets.now) (replicate 1088 0) (λ n _. zero_at 1088 n);
    }

pub returns : goal.returns
returns c = flat_masks _ c.level.new.pins (subst (λ M. PinMasks M 0 c.level.new.pins) (flat_tables (goal.at.returns c).After-flat_kinds-gates) c.level.ensures.pins)
