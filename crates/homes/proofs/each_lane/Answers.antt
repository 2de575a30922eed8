-- After e faults acc holds the lanes of all open ones among them, since joining keeps lanes and a fault that is not open asks none.
use Rattle.homes.proofs.Looking.{lanes_skip, lanes_join}
use Rattle.homes.proofs.each_lane.Goals as goal
use Rattle.homes.proofs.each_lane.Goals.{else-left-number-ne0, then-left-number-ne0}

pub loop-e-preserved : goal.loop-e-preserved
loop-e-preserved c =
    let H = c.loop-e.invariant in
    elim c.if-left-number-ne0.branch [
      | then-left-number-ne0 x ↦ rw x.acc-is (lanes_join _ _ _ _ _ _ _ _ _ _ _ _ _ _ _ H x.home_diff.ensures x.join.ensures)
      | else-left-number-ne0 x ↦ rw x.acc-is (lanes_skip _ _ _ _ _ _ _ _ _ _ _ c.number.result _ H c.number.ensures x.if-left-number-ne0.false)
    ]
