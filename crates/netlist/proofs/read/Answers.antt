-- The tables start as zeros, and what `read_tables` leaves alone is still 0, so a taken file's tables are the definition's.
use Rattle.std.proofs.lemmas.Result.{err_from_is_err_and, IfOk-at_ok}
use Rattle.netlist.proofs.Laws.{said, taken}
use Rattle.netlist.specs.Answer.{tables_of, zeros}
use Rattle.netlist.proofs.read.Goals as goal

pub returns-in_err-sizes : goal.returns-in_err-sizes
unfolding tables_of
returns-in_err-sizes c =
    let p = err_from_is_err_and c.from_residual.result c.from_residual.ensures.1 in
    rw (p.1, p.2, said _ c.read_tables.ensures.answer c.in_err-sizes.was)

pub returns : goal.returns
unfolding zeros
returns c =
    let r = c.read_tables in
    taken _ _ _ _ (said _ r.ensures.answer c.in_ok-sizes.was) (IfOk-at_ok _ c.in_ok-sizes.was r.ensures.kept) r.auto.pads r.auto.kinds r.auto.counts r.auto.nets
