-- The word shifted right by at % 64 begins with the bit of place at, so its lowest one is the next mark in the word.
use Rattle.events.proofs.Places.{low_mark}
use Prim.Native.Nat.{◌/◌}
use native.Mathlib.Omega.{arith}
use Rattle.events.proofs.low_mark.Goals as goal

pub returns : goal.returns
returns c = low_mark c.args.bits.now c.args.at c.lowest_bit.result (omega (arith, c.type_inv.bits (c.args.at / 64))) c.lowest_bit.ensures
