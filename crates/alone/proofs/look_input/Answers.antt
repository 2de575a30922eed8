-- The run changes only the input's variables and the places marked as changed, so freeing the one and restoring the others brings all words back.
use mathlib.Core.Path.{◌∙◌}
use Rattle.cells.proofs.Trying.{same_table, clear_blank}
use Rattle.alone.proofs.look_input.Goals as goal

pub run_input-requires-clause-goods_len : goal.run_input-requires-clause-goods_len
run_input-requires-clause-goods_len c =
    let p = c.requires.goods_len in (p.0, p.1, clear_blank, clear_blank)

pub returns-clause-vals_after : goal.returns-clause-vals_after
returns-clause-vals_after c =
    let X = c.run_input.ensures in
    let P = c.free_input.ensures in
    let R = c.restore.ensures in same_table _ _ (R.long ∙ P.long ∙ X.input_ran.long) R.good
