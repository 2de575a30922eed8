use Rattle.levels.specs.Marking.{Marked, out_word}
use Rattle.levels.proofs.mark_outputs.Given as goal

abbrev pub invariant-loop-z : goal.invariant-loop-z
invariant-loop-z l =
    Marked l.nets (out_word l.e) l.a l.z l.initial.pins l.initial.reached l.pins l.reached
