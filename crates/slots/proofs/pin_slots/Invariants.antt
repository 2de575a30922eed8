use Rattle.slots.specs.Slots.{PinSlots}
use Rattle.slots.proofs.pin_slots.Given as goal

abbrev pub invariant-loop-p : goal.invariant-loop-p
invariant-loop-p l = PinSlots l.i l.p l.slots l.branches l.nets l.block l.sources
