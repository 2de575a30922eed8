-- The tests are passed in the order of the refusals, and a found pattern is set by the places that are worked out for its output alone.
use mathlib.Core.Path.{refl, sym, subst}
use native.Mathlib.Omega.{arith}
use lib.ListN.{length}
use Rattle.chip.specs.Faults.{FaultIn}
use Rattle.faults.specs.Sites.{Known}
use Rattle.opening.specs.Open.{netlist_of}
use Rattle.spots.proofs.Playing.{drivers, blocks_less, blocks_row, blocks_played}
use Rattle.findings.specs.Answered.{Answered}
use Rattle.findings.proofs.Answering.{own_bit, playable, reply_12, reply_11, replies_unset, replies_found}
use Rattle.search.proofs.search_on.Goals as goal
use Rattle.search.proofs.search_on.Goals.{After-answer_alone-answer, After-known, Else-not-known}

-- what the test says of the fault
tells : (c : After-known) → Known (netlist_of c.args.opened.now) c.args.fault c.known.result
tells c = c.known.ensures (netlist_of c.args.opened.now) refl refl (sym c.requires.ready.pins)

site : (c : Else-not-known) → FaultIn (netlist_of c.args.opened.now) c.args.fault
site c = rw c.if-not-known.false at (tells (goal.at.Else-not-known c).After-known)

pub returns-then-not-known : goal.returns-then-not-known
returns-then-not-known c = rw c.at.ensures (reply_12 _ c.requires.ready.shaped.prepared _ _ (rw c.if-not-known.true at (tells (goal.at.returns-then-not-known c).After-known)))

pub returns-then-s-eq1 : goal.returns-then-s-eq1
returns-then-s-eq1 c = let o = c.requires in rw c.at-then-s-eq1.ensures (reply_11 _ o.ready.shaped.prepared _ _ _ (site (goal.at.returns-then-s-eq1 c).Else-not-known) (o.ready.shaped.place c.if-s-eq1.true))

pub fault_number-f-requires : goal.fault_number-f-requires
fault_number-f-requires c = (_, refl, c.requires.ready.limits, site (goal.at.fault_number-f-requires c).Else-not-known)

pub answer_alone-answer-requires-clause-class_nonzero : goal.answer_alone-answer-requires-clause-class_nonzero
answer_alone-answer-requires-clause-class_nonzero c =
    (c.if-s-eq1.false, omega (arith, (c.fault_number-f.ensures _ refl (site (goal.at.answer_alone-answer-requires-clause-class_nonzero c).Else-not-known)).1, c.requires.ready.pins))

-- the answer is that for the fault itself
asked : (c : After-answer_alone-answer)
    → Answered (netlist_of c.args.opened.now) c.args.opened.now.shape c.args.fault c.args.opened.now.reached (length c.args.play.now) c.answer_alone-answer.result
asked c =
    subst (λ f. Answered (netlist_of c.args.opened.now) c.args.opened.now.shape f c.args.opened.now.reached (length c.args.play.now) c.answer_alone-answer.result) (c.fault_number-f.ensures _ refl (site (goal.at.After-answer_alone-answer c).Else-not-known)).0 c.answer_alone-answer.ensures

pub one_bit-requires : goal.one_bit-requires
one_bit-requires c = omega (arith, ((asked (goal.at.one_bit-requires c).After-answer_alone-answer).found _ _ _ c.in-Found.is).output, c.requires.ready.limits.few_outputs)

pub spots_of-spots-requires : goal.spots_of-spots-requires
spots_of-spots-requires c = (c.requires, ((asked (goal.at.spots_of-spots-requires c).After-answer_alone-answer).found _ _ _ c.in-Found.is).even)

pub play_spots-requires : goal.play_spots-requires
play_spots-requires c =
    let R = c.requires.ready in
    let S = (asked (goal.at.play_spots-requires c).After-answer_alone-answer).found _ _ _ c.in-Found.is in
    let P = playable R _ _ _ _ (c.spots_of-spots.ensures _ (own_bit _ _ c.one_bit.ensures)) S in
    record { d_bound = (R.shaped.shallow, omega (arith, S.output, R.limits.few_outputs), (drivers P, blocks_row P, blocks_less P)); i_in_bounds = S.fits }

pub returns-in-Found : goal.returns-in-Found
returns-in-Found c =
    let S = (asked (goal.at.returns-in-Found c).After-answer_alone-answer).found _ _ _ c.in-Found.is in
    let P = playable c.requires.ready _ _ _ _ (c.spots_of-spots.ensures _ (own_bit _ _ c.one_bit.ensures)) S in
    replies_found _ _ _ _ _ _ (asked (goal.at.returns-in-Found c).After-answer_alone-answer) _ refl _ _ _ _ c.in-Found.is
    (blocks_played P _ _ S.fits (c.play_spots.ensures (drivers P) (blocks_row P) (blocks_less P)))

pub returns-in_default : goal.returns-in_default
returns-in_default c = replies_unset _ _ _ _ _ _ (asked (goal.at.returns-in_default c).After-answer_alone-answer) _ refl c.in_default.not-Found
