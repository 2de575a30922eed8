-- A fault that is open at no output of g stays as it is, and an open one goes on by the run on its own slots.
use mathlib.Core.Path.{refl}
use Rattle.buffers.proofs.Slots.{outs_fit, chip_there}
use Rattle.buffers.proofs.Faults.{ran_went, idle_went}
use Rattle.buffers.proofs.try_fault.Goals as goal

pub run_fault-requires-clause-by_index : goal.run_fault-requires-clause-by_index
run_fault-requires-clause-by_index c =
    let T = c.requires.tables in
    let D = c.faulty_slots.ensures in
    let w = outs_fit T in chip_there T D

pub returns-then-u-ne0-clause-went : goal.returns-then-u-ne0-clause-went
returns-then-u-ne0-clause-went c = ran_went _ _ _ _ _ _ _ _ _ _ _ _ _ _ _ _ c.requires.tables _ _ _ _ _ _ _ c.requires.vals_value.1 _ c.faulty_slots.ensures _ refl c.run_fault.ensures.fault_ran

pub returns-else-u-ne0-clause-went : goal.returns-else-u-ne0-clause-went
returns-else-u-ne0-clause-went c = idle_went _ _ _ _ _ _ _ _ _ _ _ _ _ _ _ _ c.requires.tables _ _ _ _ c.requires.vals_value.1 c.if-u-ne0.false
