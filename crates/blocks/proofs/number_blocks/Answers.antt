-- The inputs are numbered one after another, each from the number behind the last.
use mathlib.Core.Path.{◌≡◌}
use native.Mathlib.Omega.{arith}
use Rattle.blocks.specs.Labels.{label_of}
use Rattle.blocks.proofs.Labels.{label_in}
use Rattle.blocks.proofs.Numbers.{counted_more, counted_all, counted_few, lowest_under}
use Rattle.blocks.proofs.number_blocks.Goals as goal

pub number_input-next-requires : goal.number_input-next-requires
number_input-next-requires c =
    let (N, L, B, K) = c.requires in (
      omega (arith, L.few_inputs, L.few_pins, B.inputs, B.pins, counted_few _ _ _ _ _ (c.loop-x.invariant N B K)),
      omega (arith, L.few_pins, B.pins),
      λ p h. omega (arith, lowest_under N (label_of N c.args.low.now) K p (omega (arith, B.pins)), label_in N c.args.low.now p (omega (arith, B.pins))),
    )

pub loop-x-preserved : goal.loop-x-preserved
loop-x-preserved c N B K = counted_more _ _ _ _ _ _ _ (c.loop-x.invariant N B K) (c.number_input-next.ensures N c.args.i B c.loop-x-test.true K)

pub returns : goal.returns
returns c N B K = let q : c.loop-x.x ≡ N.inputs = omega (arith, B.inputs) in counted_all _ _ _ _ (rw q at (c.loop-x.invariant N B K))
