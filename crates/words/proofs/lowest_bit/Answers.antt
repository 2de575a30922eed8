-- The bits below the lowest one are zeros, and trailing_zeros counts just these, or all 64 of a word that is 0.
use Rattle.words.proofs.Lowest.{lowest}
use Rattle.words.proofs.lowest_bit.Goals as goal

pub returns : goal.returns
returns c = lowest c.args.w
