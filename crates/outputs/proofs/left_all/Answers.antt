-- The word is the words joined by or, from the first to the last, so it has the outputs that one of them has.
use borrow.Author.Rules.{rules}
use mathlib.Core.Path.{◌≡◌}
use lib.ListN.{take}
use lib.Bits.{bit_or}
use Rattle.std.specs.List.{fold}
use Rattle.outputs.proofs.Words.{joined_fold}
use Rattle.outputs.proofs.left_all.Goals as goal

pub returns : goal.returns
returns c =
    let a = c.args in
    let e : c.fold.result ≡ fold bit_or 0 (take a.n a.left.now) = search rules in
    rw e (joined_fold a.n a.left.now c.requires)
