-- The two tests are those that the definition joins: the pin names an input, and its word has the bit.
use mathlib.Core.Path.{refl}
use native.Mathlib.Omega.{arith}
use borrow.Author.Tests.{lt-ltb, le-ltb}
use lib.ListN.{get_or}
use Rattle.sweeps.specs.Copied.{marked}
use Rattle.sweeps.proofs.is_marked.Goals as goal

pub returns-then-from-i : goal.returns-then-from-i
unfolding marked
returns-then-from-i c = rw (lt-ltb (get_or c.args.nets.now c.args.p 0) c.args.i (omega (arith, c.if-from-i.true, c.from.ensures))) c.has_bit.ensures

pub returns-else-from-i : goal.returns-else-from-i
unfolding marked
returns-else-from-i c =
    rw (le-ltb (get_or c.args.nets.now c.args.p 0) c.args.i (omega (arith, c.if-from-i.false, c.from.ensures)), le-ltb c.from.result c.args.i (omega (arith, c.if-from-i.false))) refl
