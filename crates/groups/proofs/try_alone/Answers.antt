-- Faults of inputs, of pad buffers and of output pins are three sets apart, so the three steps together take on all.
use Rattle.groups.proofs.Chunks.{alone_went}
use Rattle.groups.proofs.try_alone.Goals as goal

pub returns-clause-went : goal.returns-clause-went
returns-clause-went c =
    let (cone, low, rel, S) = c.requires.by_index in
    let A = c.try_inputs.ensures in
    let B = c.try_pads.ensures in alone_went _ _ _ _ _ _ _ _ _ _ _ _ _ _ _ _ _ _ _ _ _ _ _ low rel S c.requires.good_run _ _ _ _ _ _ _ _ _ _ _ _ A.went B.went c.try_outs.ensures
