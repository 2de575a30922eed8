use Prim.Native.Nat.{◌+◌}
use Rattle.chip.specs.File.{inputs_file}
use Rattle.writing.specs.Inner.Put.{Put}
use Rattle.writing.proofs.put_inputs.Given as goal

abbrev pub invariant-loop-k : goal.invariant-loop-k
invariant-loop-k l = Put (inputs_file (λ k. k + 1) l.k) l.at l.initial.out l.out (l.at + l.k)
