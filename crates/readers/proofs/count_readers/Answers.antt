-- The entry of each head is the number of the pins so far that have it, and there are 4,096 at most.
use native.Mathlib.Omega.{arith}
use Rattle.readers.specs.Readers.{pin_key}
use Rattle.readers.proofs.Counting.{same_few}
use Rattle.readers.proofs.count_readers.Goals as goal

pub overflow_add-heads : goal.overflow_add-heads
overflow_add-heads c =
    let l = c.loop-p in
    let s = c.head.result in
    omega (arith, l.invariant.at s (omega (arith, c.head.ensures.1)), same_few (pin_key c.args.pins.now) s l.p, c.requires.heads.few_pins)
