-- The run's slots are the outputs' own but for the constant's at output z, so nothing but the good words is needed.
use mathlib.Core.Path.{refl}
use native.Mathlib.Omega.{arith}
use Rattle.alone.proofs.Outs.{out_looked, out_idle}
use Rattle.alone.proofs.try_out.Goals as goal

pub returns-then-u-ne0 : goal.returns-then-u-ne0
returns-then-u-ne0 c = out_looked _ _ _ _ _ _ _ _ _ _ _ _ _ _ _ (omega (arith, c.requires.chunk_bound.2, c.copy_from_slice.ensures.len)) refl c.look_all.ensures

pub returns-else-u-ne0 : goal.returns-else-u-ne0
returns-else-u-ne0 c = out_idle _ _ _ _ _ _ _ _ _ _ c.requires.chunk_bound.2 c.requires.chunk_bound.4 c.if-u-ne0.false
