use Rattle.sweeps.specs.Copied.{marked, Copied}
use Rattle.sweeps.proofs.copy_marked.Given as goal

abbrev pub invariant-loop-p : goal.invariant-loop-p
invariant-loop-p l = Copied l.p (marked l.i l.z l.nets l.words) l.from l.to l.source l.initial.target l.target
