-- After p places their faults have gone on, and one place more changes only its own faults, since cells have different pins.
use native.Mathlib.Omega.{arith}
use Rattle.places.proofs.Places.{places_more}
use Rattle.places.proofs.try_places.Goals as goal

pub loop-p-preserved : goal.loop-p-preserved
loop-p-preserved c =
    let E = c.try_place.ensures in (
      omega (arith, c.loop-p-test.true),
      places_more _ _ _ _ _ _ _ _ _ _ _ _ _ _ _ _ _ _ _ _ _ _ _ _ _ _ _ c.requires.apart c.requires.chip (omega (arith, c.loop-p-test.true)) c.loop-p.invariant.1 E.place_done,
      E.vals_after,
    )
