-- Places before at obey their rules, as do those from at on without a mark, and no place before looks at a cell that a step changes.
use Rattle.events.proofs.Running.{run_step}
use native.Mathlib.Omega.{arith}
use Rattle.events.proofs.run.Goals as goal

pub loop-at-preserved-then-l-lt64 : goal.loop-at-preserved-then-l-lt64
loop-at-preserved-then-l-lt64 c =
    let l = c.loop-at in (
      run_step _ _ _ _ _ _ _ _ _ c.requires.chip _ _ _ _ _ _ _ _ l.invariant.0 c.low_mark-l.result c.low_mark-l.ensures _ _ _
          c.if-l-lt64.true c.step.ensures,
      omega (arith, c.requires.chip.few, c.loop-at-test.true),
    )
