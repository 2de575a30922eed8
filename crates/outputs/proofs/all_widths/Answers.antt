-- At most 4,160 blocks are counted, and that fits an entry.
use native.Mathlib.Omega.{arith}
use Rattle.chip.proofs.Blocks.{tally_most}
use Rattle.slots.specs.Slots.{rel_of}
use Rattle.outputs.proofs.all_widths.Goals as goal

pub overflow_cast-widths : goal.overflow_cast-widths
overflow_cast-widths c = omega (arith, c.width_of.ensures, tally_most (rel_of c.args.reached.now c.loop-z.z) c.args.b, c.requires.1)
