-- `structure::prepare_ordered` keeps its contract: the blocks are numbered by the lowest pins that the depths joined, and their labels decide the class.
use Rattle.std.proofs.lemmas.Result.{err_from_is_err_and, MatchResult-at_ok, MatchResult-at_err}
use mathlib.Core.Logic.{inr}
use Rattle.order.proofs.Order.{order_free}
use Rattle.structure.proofs.Preparing.{blocks_few, blocks_one, shaped}
use Rattle.structure.proofs.prepare_ordered.Goals as goal

pub join_blocks-requires : goal.join_blocks-requires
join_blocks-requires c = c.requires.in_order

pub returns-in_err-w : goal.returns-in_err-w
returns-in_err-w c =
    let p = err_from_is_err_and c.from_residual.result c.from_residual.ensures.1 in
    rw (p.1, p.2) (inr (order_free c.requires.in_order.sorted.ordered, MatchResult-at_err _ _ _ c.in_err-w.was c.join_blocks.ensures))

pub number_blocks-b-requires : goal.number_blocks-b-requires
number_blocks-b-requires c =
    let T = c.requires.in_order in
    (_, T.sorted.limits, T.branched, (MatchResult-at_ok _ _ _ c.in_ok-w.was c.join_blocks.ensures).0.lowest)

pub uneven_block-y-requires : goal.uneven_block-y-requires
uneven_block-y-requires c =
    let (D, U) = MatchResult-at_ok _ _ _ c.in_ok-w.was c.join_blocks.ensures in
    let P = c.requires in
    let T = P.in_order in
    let n = c.number_blocks-b.ensures _ T.branched D.lowest in
    record { in_order = T; d_bound = (D.shallow, D.depth.within); few_labels = blocks_few _ T.sorted.limits _ D.lowest _ _ n _ _ _ T.branched; one_input = blocks_one _ T.sorted.limits _ D.lowest _ _ n; by_index = P.by_index; lowest_uneven = U }

pub returns : goal.returns
returns c =
    let (D, U) = MatchResult-at_ok _ _ _ c.in_ok-w.was c.join_blocks.ensures in
    let T = c.requires.in_order in
    let n = c.number_blocks-b.ensures _ T.branched D.lowest in
    shaped _ T.sorted.limits _ D.lowest _ _ n _ T.branched.table _ _ _ _ _ _ _ T.sorted.first_pins T.sorted.ordered D U c.uneven_block-y.ensures c.classify.ensures
