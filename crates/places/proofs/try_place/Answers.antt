-- A place with no open output in g stays as it is, and a place that is tried gets the word that covers its faults anew.
use mathlib.Core.Path.{refl}
use native.Mathlib.Omega.{arith}
use Rattle.places.proofs.Places.{place_idle, place_open, home_of}
use Rattle.places.proofs.try_place.Goals as goal

pub try_home-requires-clause-net_lt_pin : goal.try_home-requires-clause-net_lt_pin
try_home-requires-clause-net_lt_pin c =
    let H = c.requires.chip in
    let A = c.requires.apart in
    let R = c.requires.good_run in
    let (l, back) = c.requires.p_lt_cells in rw c.cell_at-home.ensures ((
      omega (arith, A.cell c.args.p l),
      omega (arith, (H.pins c.args.p l).pins, A.pins_long, A.few_inputs, H.few),
      home_of _ _ _ _ _ _ _ _ _ _ H l,
    ))

pub returns-then-u-ne0-clause-place_done : goal.returns-then-u-ne0-clause-place_done
returns-then-u-ne0-clause-place_done c =
    let l = c.requires.p_lt_cells.0 in
    let T = c.try_home.ensures in place_open _ _ _ _ _ _ _ _ _ _ _ _ _ _ _ _ _ _ _ _ _ _ _ _ c.requires.chip c.requires.apart c.requires.good_run l (omega (arith, c.requires.chip.few, l))
    (omega arith) c.if-u-ne0.true (rw c.cell_at-home.ensures at T.home_tried) (rw c.cell_at-home.ensures at c.left_at.ensures) refl

pub returns-else-u-ne0-clause-place_done : goal.returns-else-u-ne0-clause-place_done
returns-else-u-ne0-clause-place_done c = place_idle _ _ _ _ _ _ _ _ _ _ _ _ _ _ _ _ _ (record { long_left = omega arith; long_best = omega arith; long_pat = omega arith }) (omega arith) c.if-u-ne0.false
