-- After s heads the running sum is the number of pins with a lower head, so each head passed has where its readers end.
use mathlib.Core.Path.{◌≡◌, refl}
use native.Mathlib.Omega.{arith}
use Rattle.readers.proofs.Counting.{sum_none, sum_more, sum_small, sum_all}
use Rattle.readers.proofs.sum_readers.Goals as goal

pub loop-head-init : goal.loop-head-init
loop-head-init c = λ n key. sum_none n key _

pub overflow_add-end : goal.overflow_add-end
overflow_add-end c =
    let (n, key, few, C) = c.requires in
    omega (arith, few, sum_small c.loop-head.head-index n key _ _ (c.loop-head.invariant n key C) (omega (arith, C.long)))

pub loop-head-preserved : goal.loop-head-preserved
loop-head-preserved c = λ n key C. sum_more _ _ _ _ _ _ (c.loop-head.invariant n key C) (omega (arith, C.long)) refl

pub returns : goal.returns
returns c = λ n key C.
    let l = c.loop-head in
    let e : l.head-index ≡ 5185 = omega (arith, C.long) in
    sum_all _ _ _ _ (rw e at (l.invariant n key C))
