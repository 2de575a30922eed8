-- After p pins the marks are those of the first p pins, in every netlist that has the tables, and each turn adds those of one pin.
use mathlib.Core.Path.{◌≡◌}
use native.Mathlib.Omega.{arith}
use Rattle.copies.proofs.mark_copies.Goals as goal

pub loop-p-preserved : goal.loop-p-preserved
loop-p-preserved c =
    let l = c.loop-p in
    let h = c.loop-p-test.true in
    let e = c.mark_pin.ensures in
    λ o kinds counts low W t f. e.1 o kinds counts low h W t f (l.invariant o kinds counts low W t f)

pub returns : goal.returns
returns c o kinds counts low W t f = let e : c.loop-p.p ≡ c.args.z.pins = omega arith in rw e at (c.loop-p.invariant o kinds counts low W t f)
