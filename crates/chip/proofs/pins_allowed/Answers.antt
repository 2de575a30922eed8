-- Kinds 2 to 7 take 2 to 8 pins and the others one, and the arms settle each comparison of the definition.
use Rattle.chip.specs.Netlist.{takes}
use borrow.Author.Tests.{le-leb, lt-leb}
use native.Mathlib.Omega.{arith}
use Rattle.chip.proofs.pins_allowed.Goals as goal
use Rattle.chip.proofs.pins_allowed.Goals.{in_default-via-then-kind-lt2, in_default-via-else-kind-lt2+else-kind-lt8}

pub returns-then-pins-ge2 : goal.returns-then-pins-ge2
unfolding takes
returns-then-pins-ge2 c = rw (le-leb 2 c.args.kind (omega arith), le-leb c.args.kind 7 (omega arith), le-leb 2 c.args.pins c.if-pins-ge2.true)

pub returns-else-pins-ge2 : goal.returns-else-pins-ge2
unfolding takes
returns-else-pins-ge2 c = rw (le-leb 2 c.args.kind (omega arith), le-leb c.args.kind 7 (omega arith), lt-leb 2 c.args.pins c.if-pins-ge2.false)

pub returns-in_default : goal.returns-in_default
unfolding takes
returns-in_default c =
    elim c.in_default.branch [
      | in_default-via-then-kind-lt2 w ↦ rw (lt-leb 2 c.args.kind (omega arith))
      | in_default-via-else-kind-lt2+else-kind-lt8 w ↦ rw (le-leb 2 c.args.kind (omega arith), lt-leb c.args.kind 7 (omega arith))
    ]
