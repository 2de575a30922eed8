use Rattle.homes.specs.Homes.{HomeLanes}
use Rattle.homes.proofs.each_lane.Given as goal

abbrev pub invariant-loop-e : goal.invariant-loop-e
invariant-loop-e l = HomeLanes l.e l.home.kind l.home.net l.home.pin l.h l.home.first l.home.count l.u l.src l.left l.goods l.acc
