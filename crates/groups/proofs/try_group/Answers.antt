-- After q chunks all faults are known on the patterns below 64 q, and once none is open at g the rest changes nothing.
use native.Mathlib.Omega.{arith}
use Rattle.rows.proofs.Bits.{split}
use Rattle.groups.proofs.Chunks.{stage_fewer}
use Rattle.groups.proofs.Trying.{group_step, outs_step, group_done, group_idle}
use Rattle.groups.proofs.try_group.Goals as goal

pub returns-then-u-eq0-clause-group_tried : goal.returns-then-u-eq0-clause-group_tried
returns-then-u-eq0-clause-group_tried c =
    let k = c.args.known.now in
    let l = c.loop-q in
    group_idle _ _ _ _ _ _ _ _ _ _ _ _ _ _ _ _ _ _ _ _ k.left k.best k.pat _ _ _ _ _ l.invariant.4 c.left_all.ensures c.if-u-eq0.true l.invariant.7

pub try_chunk-requires-clause-by_index : goal.try_chunk-requires-clause-by_index
try_chunk-requires-clause-by_index c =
    let (cone, low, rel, S) = c.requires.by_index in
    (cone, low, rel, stage_fewer _ _ _ _ _ c.args.trial.at _ _ _ _ _ _ _ _ _ _ _ _ _ _ _ _ low rel (λ z d. (split c.left_all.result c.args.trial.at z d).1) S)

pub loop-q-preserved : goal.loop-q-preserved
loop-q-preserved c =
    let k = c.args.known.now in
    let (cone, low, rel, S) = c.requires.by_index in
    let l = c.loop-q in
    let T = c.try_chunk.ensures in (
      omega (arith, c.loop-q-test.true, l.invariant.0, l.invariant.1, l.invariant.2),
      l.invariant.1,
      l.invariant.2,
      T.store,
      T.chunk_tried.long,
      outs_step _ _ _ _ _ _ _ _ _ _ _ _ _ _ _ _ _ _ _ _ k.left k.best k.pat l.q _ _ _ _ _ _ _ c.left_all.ensures T.chunk_tried l.invariant.7 cone low rel S c.requires.long.1,
      T.watch,
      group_step _ _ _ _ _ _ _ _ _ _ _ _ _ _ _ _ _ _ _ _ k.left k.best k.pat l.q _ _ _ _ _ _ _ c.left_all.ensures T.chunk_tried l.invariant.7,
    )

pub returns-clause-group_tried : goal.returns-clause-group_tried
returns-clause-group_tried c =
    let k = c.args.known.now in
    let l = c.loop-q in
    group_done _ _ _ _ _ _ _ _ _ _ _ _ _ _ _ _ _ _ _ _ k.left k.best k.pat _ _ _ _ l.invariant.4 (omega (arith, l.invariant.1, c.loop-q-test.false)) l.invariant.7

pub returns-else-u-eq0-clause-group_tried : goal.returns-else-u-eq0-clause-group_tried
returns-else-u-eq0-clause-group_tried c =
    let k = c.args.known.now in
    let l = c.loop-q in
    let T = c.try_chunk.ensures.chunk_tried in
    group_done _ _ _ _ _ _ _ _ _ _ _ _ _ _ _ _ _ _ _ _ k.left k.best k.pat _ _ _ _ T.long (omega (arith, l.invariant.1))
    (group_step _ _ _ _ _ _ _ _ _ _ _ _ _ _ _ _ _ _ _ _ k.left k.best k.pat l.q _ _ _ _ _ _ _ c.left_all.ensures T l.invariant.7)
