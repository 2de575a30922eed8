-- No lane of the first k words is set, so the lowest bit of the first word that is not 0 is the first lane.
use lib.Bits.{bit_and, bit_xor, and_le_l}
use Rattle.homes.proofs.Lanes.{lanes_more, lanes_found}
use Prim.Native.Nat.{◌+◌, ◌*◌}
use mathlib.Core.Path.{refl}
use native.Mathlib.Omega.{arith}
use lib.ListN.{get_or}
use Rattle.homes.proofs.common.Goals as goal

pub returns-then-x-ne0 : goal.returns-then-x-ne0
returns-then-x-ne0 c =
    let s = c.args in
    let l = c.loop-k in
    let y = bit_xor (get_or s.goods.now (16 * s.s + l.k) 0) (get_or s.vals.now (16 * s.e + l.k) 0) in
    lanes_found _ _ _ _ _ l.k (bit_and (get_or s.t.now l.k 0) y) c.lowest_bit.result (omega arith) l.invariant refl c.if-x-ne0.true (omega (arith, and_le_l (get_or s.t.now l.k 0) y, c.type_inv.t l.k)) c.lowest_bit.ensures

pub loop-k-preserved : goal.loop-k-preserved
loop-k-preserved c = lanes_more _ _ _ _ _ c.loop-k.k c.loop-k.invariant c.if-x-ne0.false
