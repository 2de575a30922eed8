-- The play is cleared before its ones are put, and each bit's one goes to its variable's place, so the number is spread over the play.
use Prim.Native.Nat.{suc, ◌+◌, ◌*◌}
use mathlib.Core.Path.{◌≡◌, refl}
use native.Mathlib.Numerals.{add-one}
use native.Mathlib.Omega.{arith}
use Rattle.spots.proofs.Playing.{spot_in, spread_spots}
use Rattle.spots.proofs.play_spots.Goals as goal

pub put_ones-requires : goal.put_ones-requires
put_ones-requires c =
    let (D, H, l) = c.requires.d_bound.2 in
    record { z_bound = c.requires.d_bound.1; by_index = λ k t. omega (arith, spot_in _ _ _ _ D _ H l k t, c.requires.i_in_bounds, c.clear.ensures.long) }

pub returns : goal.returns
returns c D H l =
    let e : (c.args.d + 1) * c.args.i ≡ suc c.args.d * c.args.i = rw (add-one c.args.d) refl in
    spread_spots _ _ _ _ D _ H l _ c.args.play.now _ _ e c.clear.ensures c.put_ones.ensures
