-- A free entry becomes the pin's, and a taken one names the pin to join to.
use Prim.Native.Nat.{◌-◌}
use native.Mathlib.Omega.{arith}
use Rattle.blocks.proofs.Meeting.{met_first, met_next}
use Rattle.blocks.proofs.meet.Goals as goal

pub returns-then-owner-eq0 : goal.returns-then-owner-eq0
returns-then-owner-eq0 c = met_first c.args.at c.args.p c.args.owners.now c.args.low.now (omega arith) c.requires.1 c.requires.2 (omega arith)

pub returns-else-owner-eq0 : goal.returns-else-owner-eq0
returns-else-owner-eq0 c = met_next c.args.at c.args.p (c.from-owner.result - 1) c.args.owners.now c.args.low.now c.join.new.low c.requires.2 (omega arith) c.join.ensures
