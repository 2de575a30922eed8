-- The answer leaves a found pattern to be set, and its output's row in the table has the places of the blocks that it is set on.
use mathlib.Core.Path.{refl}
use native.Mathlib.Omega.{arith}
use Rattle.spots.proofs.Playing.{drivers, blocks_less, blocks_row, blocks_played}
use Rattle.findings.proofs.Answering.{playable, replies_unset, replies_found}
use Rattle.findings.proofs.search_listed.Goals as goal

pub play_spots-requires : goal.play_spots-requires
play_spots-requires c =
    let p = c.requires in
    let S = (c.answer_judged-answer.ensures _ _ _ _ p.4).found _ _ _ c.in-Found.is in
    let R = p.4.ready in
    let P = playable R _ _ _ _ (p.5.row _ S.output) S in
    record { d_bound = (R.shaped.shallow, omega (arith, S.output, R.limits.few_outputs), (drivers P, blocks_row P, blocks_less P)); i_in_bounds = S.fits }

pub returns-in-Found : goal.returns-in-Found
returns-in-Found c kinds counts nets reached L T =
    let A = c.answer_judged-answer.ensures _ _ _ _ L in
    let S = A.found _ _ _ c.in-Found.is in
    let P = playable L.ready _ _ _ _ (T.row _ S.output) S in
    replies_found _ _ _ _ _ _ A _ refl _ _ _ _ c.in-Found.is
    (blocks_played P _ _ S.fits (c.play_spots.ensures (drivers P) (blocks_row P) (blocks_less P)))

pub returns-in_default : goal.returns-in_default
returns-in_default c kinds counts nets reached L T = replies_unset _ _ _ _ _ _ (c.answer_judged-answer.ensures _ _ _ _ L) _ refl c.in_default.not-Found
