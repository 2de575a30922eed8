-- Bit k of a word is the lowest bit of the word shifted right by k, so whether that is odd.
use mathlib.Core.Path.{sym}
use Rattle.words.proofs.Bits.{digit_shift}
use Rattle.words.proofs.has_bit.Goals as goal

pub returns : goal.returns
returns c = sym (digit_shift c.args.k c.args.w)
