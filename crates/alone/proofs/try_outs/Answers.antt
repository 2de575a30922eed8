-- The first e of the 2 * o faults have gone on, and number e is the pin of output e / 2 stuck at e % 2.
use mathlib.Core.Path.{refl}
use native.Mathlib.Omega.{arith}
use Rattle.alone.proofs.Outs.{outs_more}
use Rattle.alone.proofs.try_outs.Goals as goal

pub loop-e-preserved : goal.loop-e-preserved
loop-e-preserved c = let a = c.args in let l = c.loop-e in (omega (arith, c.loop-e-test.true), l.invariant.1, l.invariant.2, outs_more a.sizes.inputs a.sizes.cells a.sizes.outputs a.sizes.pins a.trial.chunk a.trial.at _ l.e _ _ a.group.outs.now a.goods.now a.known.now.left a.known.now.best a.known.now.pat l.known.left l.known.best l.known.pat _ _ _ c.requires.inputs_bound.4 l.invariant.2 refl refl l.invariant.3 c.try_out.ensures)
