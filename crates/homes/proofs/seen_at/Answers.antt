-- Each output that is no longer to come is in the word or shows no difference.
use mathlib.Core.Path.{◌≡◌, ap, ◌∙◌}
use Rattle.homes.proofs.Lanes.{seen_start, seen_new, seen_done}
use Rattle.homes.proofs.seen_at.Goals as goal

pub loop-z-init : goal.loop-z-init
loop-z-init c =
    let e : c.into_iter-z-iterator.result.rest ≡ c.args.u = ap (λ s. s.rest) c.into_iter-z-iterator.ensures.into_iter_gives ∙ c.each_output-z-items.ensures in
    rw e (seen_start _ _ _ _)

pub loop-z-preserved-then-differs : goal.loop-z-preserved-then-differs
loop-z-preserved-then-differs c = seen_new _ _ _ _ _ _ _ _ c.loop-z.invariant c.in-Some.ensures.steps _ c.one_bit-seen.ensures

pub returns : goal.returns
returns c = seen_done _ _ _ _ c.loop-z.z-iterator.rest _ c.in-None.ensures.steps c.loop-z.invariant
