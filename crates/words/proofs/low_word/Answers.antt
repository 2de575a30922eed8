-- Each of the six constants is checked against bit i of the lane number by computing all 64 lanes.
use mathlib.Core.Path.{◌≡◌, refl}
use native.Mathlib.Omega.{arith}
use Rattle.words.proofs.Pattern.{agreed}
use Rattle.words.proofs.low_word.Goals as goal

pub returns-in-0 : goal.returns-in-0
returns-in-0 c l h = rw c.in-0.is (agreed _ 0 64 refl l h)

pub returns-in-1 : goal.returns-in-1
returns-in-1 c l h = rw c.in-1.is (agreed _ 1 64 refl l h)

pub returns-in-2 : goal.returns-in-2
returns-in-2 c l h = rw c.in-2.is (agreed _ 2 64 refl l h)

pub returns-in-3 : goal.returns-in-3
returns-in-3 c l h = rw c.in-3.is (agreed _ 3 64 refl l h)

pub returns-in-4 : goal.returns-in-4
returns-in-4 c l h = rw c.in-4.is (agreed _ 4 64 refl l h)

pub returns-in_default : goal.returns-in_default
returns-in_default c l h =
    let five : c.args.i ≡ 5 = omega arith in
    rw five (agreed _ 5 64 refl l h)
