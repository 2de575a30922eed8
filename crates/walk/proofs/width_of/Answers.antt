-- The words that are left are those of the blocks that reach the output, and these are counted.
use borrow.Author.Rules.{rules}
use mathlib.Core.Path.{◌≡◌, ◌∙◌}
use native.Mathlib.Omega.{arith}
use lib.ListN.{take}
use Rattle.std.specs.List.{count_by}
use Rattle.chip.specs.Search.{digit}
use Rattle.walk.proofs.Widths.{counted}
use Rattle.walk.proofs.width_of.Goals as goal

pub returns : goal.returns
returns c =
    let a = c.args in
    let e : c.count.result ≡ count_by (digit a.z) (take a.b a.reached.now) = search rules in
    e ∙ counted a.z a.reached.now a.b (omega (arith, c.told-reached, c.requires))
