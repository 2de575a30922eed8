-- The word is the words of the nets joined by `|`, which joins the masks of two sets of nets.
use mathlib.Core.Path.{◌≡◌}
use native.Mathlib.Omega.{arith}
use lib.ListN.{take}
use Rattle.std.proofs.Common.{rules, fold}
use Rattle.std.specs.Int.Bits.{bit_or}
use Rattle.levels.proofs.Nets.{gathered}
use Rattle.levels.proofs.any_net.Goals as goal

pub returns : goal.returns
returns c N e l m =
    let q : c.fold.result ≡ fold bit_or 0 (take c.args.n c.args.reached.now) = search rules in
    rw q (gathered N e _ m c.args.n (omega arith) l)
