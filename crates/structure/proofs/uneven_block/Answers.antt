-- `structure::uneven_block` keeps its contract: where no input has two depths to one output, no block has.
use native.Mathlib.Omega.{arith}
use Rattle.structure.proofs.Evenness.{none_uneven}
use Rattle.structure.proofs.uneven_block.Goals as goal

pub lowest_uneven-requires : goal.lowest_uneven-requires
lowest_uneven-requires c =
    let P = c.requires in
    record { in_order = P.in_order; d_bound = P.d_bound; few_labels = P.few_labels; one_input = P.one_input; by_index = P.by_index }

pub returns-then-x-i : goal.returns-then-x-i
returns-then-x-i c = c.lowest_uneven.ensures

pub see_all-requires : goal.see_all-requires
see_all-requires c = let P = c.requires in record { in_order = P.in_order; few_labels = P.few_labels; by_index = P.by_index }

pub returns : goal.returns
returns c =
    let P = c.requires in
    record {
      lowest = none_uneven _ c.args.branches.now P.in_order.branched.table c.args.x P.lowest_uneven (omega arith) c.args.block.now;
      seen_all = c.see_all.ensures c.args.d P.d_bound.1;
    }
