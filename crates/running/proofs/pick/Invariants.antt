use mathlib.Core.Path.{◌≡◌}
use lib.ListN.{length, get_or}
use Rattle.running.specs.Lists.{Picked}
use Rattle.running.proofs.pick.Given as goal

abbrev pub invariant-loop-j : goal.invariant-loop-j
invariant-loop-j l =
    Picked (λ j. get_or l.kinds j 0) l.order l.j-index l.flop l.cells l.count × (length l.cells ≡ 1024)
