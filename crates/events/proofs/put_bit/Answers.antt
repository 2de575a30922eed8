-- The or with one power of two sets the bit of place p and keeps every other bit of the word.
use Rattle.events.proofs.Places.{bit_put}
use native.Mathlib.Omega.{arith}
use Rattle.events.proofs.put_bit.Goals as goal

pub returns : goal.returns
returns c = bit_put c.args.p c.args.bits.now c.one_bit.result (omega arith) c.requires.1 c.one_bit.ensures
