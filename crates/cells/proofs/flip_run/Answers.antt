-- Before the flip all places obey, so after it only readers of the home may not, and these are marked for the run.
use Rattle.cells.proofs.Trying.{flip_marked, flip_ran}
use Rattle.cells.proofs.flip_run.Goals as goal

pub run-requires-clause-marked : goal.run-requires-clause-marked
run-requires-clause-marked c =
    let a = c.args in flip_marked _ _ _ _ _ _ _ _ _ c.requires.chip _ _ c.from-j.result c.requires.p_lt_c.0 c.from-j.ensures a.acc.now _ _ _ _ _ _ c.requires.p_lt_c.3 c.requires.p_lt_c.4
    c.requires.good c.flip.ensures c.put_bit.ensures c.mark_readers.ensures

pub returns-clause-flip_ran : goal.returns-clause-flip_ran
returns-clause-flip_ran c =
    let a = c.args in flip_ran _ _ _ _ _ _ _ _ _ c.requires.chip _ _ c.from-j.result c.requires.p_lt_c.0 c.from-j.ensures a.acc.now _ _ _ _ _ _ c.requires.p_lt_c.3 c.requires.p_lt_c.4
    c.requires.good c.flip.ensures c.put_bit.ensures c.mark_readers.ensures _ _ c.run.ensures.ran
