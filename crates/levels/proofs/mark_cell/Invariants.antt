use Rattle.levels.specs.Marking.{Marked}
use Rattle.levels.proofs.mark_cell.Given as goal

abbrev pub invariant-loop-k : goal.invariant-loop-k
invariant-loop-k l =
    Marked l.nets (λ _. l.word) l.a l.k l.initial.pins l.initial.reached l.pins l.reached
