use Rattle.blocks.specs.Steps.{PinJoined}
use Rattle.blocks.proofs.join_pin.Given as goal

abbrev pub invariant-loop-z : goal.invariant-loop-z
invariant-loop-z l =
    PinJoined l.x l.o l.p l.word l.z l.initial.owners l.initial.low l.owners l.low
