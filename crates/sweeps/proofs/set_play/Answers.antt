-- What is laid has the pattern's bits at the places that are set and is idle at the others, which are then filled with 0: so the pattern is set.
use native.Mathlib.Numerals.{add-one}
use Rattle.sweeps.proofs.Tables.{set_all}
use Rattle.sweeps.proofs.set_play.Goals as goal

pub returns : goal.returns
returns c low L = set_all c.requires.by_index.0.1 c.requires.by_index.1 c.requires.output_lt_outputs.0 low L _ _ _ _ c.requires.output_lt_outputs.3 (c.lay_play.ensures low L) (rw (add-one c.args.s.depth) at c.fill_idle.ensures)
