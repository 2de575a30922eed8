-- Without an open output in g the fault stays as it is, and otherwise its run tells the patterns that show it.
use lib.ListN.{get_or}
use Rattle.alone.proofs.Inputs.{input_went, input_idle}
use Rattle.alone.proofs.try_input.Goals as goal

pub returns-then-u-ne0-clause-went : goal.returns-then-u-ne0-clause-went
returns-then-u-ne0-clause-went c =
    let a = c.args in
    let E = c.look_input.ensures in input_went _ _ _ _ _ _ _ _ _ _ _ _ _ _ _ _ _ _ _ _ _ _ c.requires.inputs_bound.1 (c.requires.good_run.good (get_or a.known.now.left a.f 0)) E.input_tried c.requires.long

pub returns-else-u-ne0-clause-went : goal.returns-else-u-ne0-clause-went
returns-else-u-ne0-clause-went c = input_idle _ _ _ _ _ _ _ _ _ _ _ _ _ _ _ _ _ _ _ c.requires.long c.if-u-ne0.false
