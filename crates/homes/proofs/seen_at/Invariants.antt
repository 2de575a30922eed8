use Rattle.homes.proofs.Lanes.{SeenSo}
use Rattle.homes.proofs.seen_at.Given as goal

abbrev pub invariant-loop-z : goal.invariant-loop-z
invariant-loop-z l = SeenSo l.u l.z-iterator.rest l.outs l.goods l.vals l.seen
