-- The inputs change no slot of a gate, so the gates are ready on the slots that `put_inputs` leaves, and are worked out in each lane.
use native.Mathlib.Omega.{arith}
use lib.ListN.{length}
use Rattle.words.specs.Lanes.{Runnable}
use Rattle.running.specs.Clock.{fed}
use Rattle.running.proofs.Words.{fed_length, fits_ready, ran}
use Rattle.running.proofs.settle.Goals as goal

pub returns : goal.returns
returns c =
    let a = c.args in
    let before = fed a.part.now a.slots.now a.i in
    let whole : Runnable a.kinds.now a.firsts.now a.counts.now a.sources.now a.i (length a.slots.now) a.gates.now a.g =
    fits_ready c.requires.list_fits.0 c.requires.list_fits.1 (omega arith) (omega arith) (omega arith) (omega arith) (omega arith) in
    ran a.kinds.now a.firsts.now a.counts.now a.sources.now a.i a.gates.now a.g before _ (rw fed_length whole) (rw c.put_inputs.ensures at c.run_cells.ensures)
