-- `structure::classify` keeps its contract: each way out is one row of the table.
use native.Mathlib.Omega.{arith}
use Rattle.structure.proofs.classify.Goals as goal

pub returns-then-block-i : goal.returns-then-block-i
returns-then-block-i c = record { one = λ l. omega arith; two = λ l m. omega arith; three = λ l m. omega arith }

pub returns-then-input-i : goal.returns-then-input-i
returns-then-input-i c = record { one = λ l. omega arith; two = λ l m. omega arith; three = λ l m. omega arith }

pub returns-else-input-i : goal.returns-else-input-i
returns-else-input-i c = record { one = λ l. omega arith; two = λ l m. omega arith; three = λ l m. omega arith }
