-- After t places the pins of their cells have them, and no later place writes over these, since no two cells share a pin.
use Prim.Native.Nat.{ℕ, ◌<◌}
use mathlib.Core.Path.{◌≡◌, refl, ap, ◌∙◌}
use native.Mathlib.Omega.{arith}
use lib.ListN.{get_or}
use Rattle.std.proofs.lemmas.List.{get_or-take, length-take}
use Rattle.readers.proofs.Counting.{owned_more}
use Rattle.readers.proofs.owners.Goals as goal

pub loop-t-preserved : goal.loop-t-preserved
loop-t-preserved c =
    let a = c.args in
    let t = c.loop-t.t in
    let (i, n, branches, nets, block, D) = c.requires.wires in
    let l : t < a.c = omega (arith, length-take {A = ℕ}) in
    let j : c.from-j.result ≡ get_or a.order.now t 0 = c.from-j.ensures ∙ get_or-take a.c a.order.now t 0 l in
    owned_more _ _ _ _ _ _ _ _ _ _ _ _ _ _ _ D l c.loop-t.invariant (c.from-first.ensures ∙ ap (λ x. get_or a.firsts.now x 0) j) (c.from.ensures ∙ ap (λ x. get_or a.counts.now x 0) j) refl c.own.ensures
