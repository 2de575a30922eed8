-- Where the words are as before nothing changes, else the new ones are kept and the readers marked, so unmarked places still obey.
use Rattle.events.proofs.Running.{stepped_new}
use Rattle.events.proofs.step.Goals as goal

pub returns-then-differs : goal.returns-then-differs
returns-then-differs c =
    let e = c.changes.ensures in
    stepped_new _ _ _ _ _ _ _ _ _ c.requires.chip _ _ c.requires.p_lt_c.0 _ _ _ _ _ _ _ _ c.from-j.result c.from-j.ensures c.cell_row.ensures e.filled e.bit_put e.marks
