use Prim.Native.Nat.{◌*◌, ◌≤◌}
use Rattle.outputs.proofs.Answers.{Passed, Counts}
use Rattle.outputs.proofs.verdict.Given as goal

abbrev pub invariant-loop-z : goal.invariant-loop-z
invariant-loop-z l = (l.tries ≤ l.z * 65536) × Passed l.outs l.best l.z × Counts l.o l.outs l.best l.pat l.widths l.z l.tries
