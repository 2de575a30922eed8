-- The two tests of the code are the two kinds of the definition.
use borrow.Author.Tests.{eq-eqb, ne_eqb}
use Rattle.chip.specs.Netlist.{is_flop}
use Rattle.running.proofs.is_flop.Goals as goal

pub returns-then-kind-eq8 : goal.returns-then-kind-eq8
unfolding is_flop
returns-then-kind-eq8 c = rw (eq-eqb _ _ c.if-kind-eq8.true)

pub returns-else-kind-eq8 : goal.returns-else-kind-eq8
unfolding is_flop
returns-else-kind-eq8 c = rw (ne_eqb _ _ c.if-kind-eq8.false)
