-- With a lane set the home is flipped and looked at, and with none no open fault changes the home, so none can show.
use Rattle.cells.proofs.Trying.{home_still}
use native.Mathlib.Omega.{arith}
use Rattle.cells.proofs.try_home.Goals as goal

pub returns-else-any-clause-home_tried : goal.returns-else-any-clause-home_tried
returns-else-any-clause-home_tried c = home_still _ _ _ _ _ _ _ _ _ _ _ _ _ _ _ _ _ _ _ _ _ _ c.requires.good (omega arith) (omega arith) (omega arith) c.home_lanes.ensures (c.any.ensures c.if-any.false)
