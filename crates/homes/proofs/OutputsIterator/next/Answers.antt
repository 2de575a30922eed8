-- The lowest bit is taken out, so that the word gets less.
use Prim.Native.Nat.{◌<◌, ◌-◌}
use native.Mathlib.Omega.{arith}
use borrow.Author.Rules.{rules}
use lib.Bits.{bit_and, and_le_l}
use Rattle.homes.proofs.Lanes.{lowest_out, fewer}
use Rattle.homes.proofs.OutputsIterator.next.Goals as goal

pub one_bit-requires : goal.one_bit-requires
one_bit-requires c = (lowest_out c.args.self.now.rest _ (omega arith) c.if-self-eq0.false c.lowest_bit-z.ensures).low

pub returns-clause-steps : goal.returns-clause-steps
returns-clause-steps c = rw c.one_bit.ensures (lowest_out _ _ (omega arith) c.if-self-eq0.false c.lowest_bit-z.ensures)

pub returns-clause-goes : goal.returns-clause-goes
returns-clause-goes c =
    let u = c.args.self.now.rest in
    let O = lowest_out u _ (omega arith) c.if-self-eq0.false c.lowest_bit-z.ensures in
    let l : bit_and u (18446744073709551615 - c.one_bit.result) < u = rw c.one_bit.ensures (fewer u _ _ O (and_le_l u _)) in
    search rules
