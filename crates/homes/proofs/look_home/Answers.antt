-- The first e faults are looked for, and each look changes only its own entries, since faults of a home have different numbers.
use Rattle.homes.proofs.Looking.{home_skip, home_more}
use Rattle.homes.proofs.look_home.Goals as goal
use Rattle.homes.proofs.look_home.Goals.{else-open-ne0, then-open-ne0}

pub loop-e-preserved : goal.loop-e-preserved
loop-e-preserved c =
    let np = c.requires.net_lt_pin.0 in
    elim c.if-open-ne0.branch [
      | then-open-ne0 x ↦ rw x.known-is (home_more _ _ _ _ _ _ _ _ _ _ _ _ _ _ _ _ _ _ _ c.loop-e.invariant np c.number-f.result _ _ _ _ _ c.number-f.ensures x.home_diff.ensures x.look.ensures)
      | else-open-ne0 x ↦ rw x.known-is (home_skip _ _ _ _ _ _ _ _ _ _ _ _ _ _ _ _ _ _ _ c.loop-e.invariant np c.number-f.result c.number-f.ensures x.if-open-ne0.false)
    ]
