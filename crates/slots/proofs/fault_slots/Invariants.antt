use Rattle.slots.specs.Slots.{FaultSlots}
use Rattle.slots.proofs.fault_slots.Given as goal

abbrev pub invariant-loop-p : goal.invariant-loop-p
invariant-loop-p l = FaultSlots l.p l.decided l.good l.faulty
