use Prim.Native.Nat.{ℕ}
use Rattle.readers.specs.Readers.{Counted, Summed}
use Rattle.readers.proofs.sum_readers.Given as goal

abbrev pub invariant-loop-head : goal.invariant-loop-head
invariant-loop-head l = (n : ℕ) (key : ℕ → ℕ) → Counted n key l.initial.heads → Summed l.head-index n key l.heads l.end
