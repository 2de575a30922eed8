-- What comes to a pin follows from the nets decided before, and the stuck value at the site's own pin is put on top of it.
use mathlib.Core.Path.{refl}
use lib.ListN.{get_or-replicate}
use Rattle.faults.proofs.decided.Goals as goal

pub stuck_nets-requires : goal.stuck_nets-requires
stuck_nets-requires c = (refl, λ n l. get_or-replicate 1088 n 2 0 l)
