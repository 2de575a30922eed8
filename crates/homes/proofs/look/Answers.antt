-- No output is to come at the end, so no output of u shows a lane.
use mathlib.Core.Path.{refl}
use mathlib.Core.Logic.{inl}
use Rattle.std.proofs.Common.{rules}
use Rattle.homes.proofs.Lanes.{look_hit, passed_all}
use Rattle.homes.proofs.look.Goals as goal

pub returns-in-Some-common : goal.returns-in-Some-common
returns-in-Some-common c =
    let l = c.loop-z.invariant in
    let B = c.requires.f_bound in
    rw (← l.0)
    (look_hit _ _ _ _ _ _ _ _ _ _ _ c.in-Some.z _ c.in-Some-common.l (search (rules, B)) (search (rules, B)) (search (rules, B)) l.1 c.in-Some.ensures.steps (rw (c.from.ensures, c.from-in-loop-z.ensures) at c.in-Some-common.ensures) c.enter.ensures.left_after c.enter.ensures.best_after c.enter.ensures.pat_after)

pub returns : goal.returns
returns c =
    let l = c.loop-z in
    rw l.invariant.0 (record {
      long_left = refl;
      long_best = refl;
      long_pat = refl;
      other_left = λ x g. refl;
      other_best = λ x g. refl;
      other_pat = λ x g. refl;
      entry = inl (record { left_same = refl; best_same = refl; pat_same = refl; none = λ z i h d k. passed_all _ _ _ l.invariant.1 c.in-None.ensures.steps z h d i k });
    })
