-- The readers of the stuck variables are all marked, so the run makes every place that reaches an output of u obey its cell.
use Rattle.alone.proofs.Inputs.{input_marked, input_ran}
use Rattle.alone.proofs.run_input.Goals as goal

pub run-requires-clause-marked : goal.run-requires-clause-marked
run-requires-clause-marked c =
    let B = c.requires.goods_len in
    let E = c.set_input.ensures in input_marked _ _ _ _ _ _ _ _ _ _ _ _ _ _ _ c.requires.chip c.requires.variable_readers c.requires.good _ _ _ _ _ c.load.ensures (rw B.1 at E.vars_put) E.vars_marked
    B.2

pub returns-clause-input_ran : goal.returns-clause-input_ran
returns-clause-input_ran c =
    let B = c.requires.goods_len in
    let E = c.set_input.ensures in input_ran _ _ _ _ _ _ _ _ _ _ _ _ _ _ _ c.requires.chip c.requires.variable_readers c.requires.good _ _ _ _ _ c.load.ensures (rw B.1 at E.vars_put) E.vars_marked B.2
    _ _ _ B.3 c.run.ensures.ran
