-- The outputs in `todo` are still to be tried and none is below y, so at the end none is left and all patterns are tried.
use Prim.Native.Nat.{ℕ, ◌<◌}
use mathlib.Core.Path.{◌≡◌, sym, ◌∙◌}
use mathlib.Core.Bool.{true}
use native.Mathlib.Omega.{arith}
use lib.ListN.{length-replicate}
use lib.Bits.{bit_and}
use Rattle.chip.specs.Class.{Lowest, blocks}
use Rattle.chip.specs.Search.{digit}
use Rattle.chip.proofs.Basics.{zero_at}
use Rattle.rows.proofs.Bits.{split}
use Rattle.walk.proofs.Walking.{ready_few, ready_laid}
use Rattle.patterns.proofs.Words.{store_blank}
use Rattle.verdicts.specs.Prepared.{tables_netlist}
use Rattle.verdicts.proofs.Outputs.{todo_fewer, todo_below, todo_skip, all_start, todo_there, all_step, only_left, all_end, group_of_alike}
use Rattle.verdicts.proofs.try_outputs.Goals as goal
use Rattle.verdicts.proofs.try_outputs.Goals.{else-has_bit, then-has_bit, Start}

-- the blocks are those of the netlist
counted : (s : Start) (low : ℕ → ℕ) → Lowest (tables_netlist s.args.chip) low → s.args.chip.blocks ≡ (blocks (tables_netlist s.args.chip) low).count
counted s low L = let P = s.requires.prepared in sym P.counted ∙ (ready_laid P.ready P.even low L).count_is

pub loop-y-init : goal.loop-y-init
loop-y-init c =
    let J = c.left_all-todo.ensures in
    let W = c.requires.long.1 in
    let chip = c.args.chip in
    let blank = store_blank _ _ _ _ (length-replicate {A = ℕ} 16672 0) (λ x. zero_at 16672 x) c.put_ones.ensures c.put_ones-2.ensures in
    (omega arith, (λ y l. absurd (omega arith)), todo_there _ _ _ _ _ chip.kinds.now chip.counts.now chip.nets.now _ _ _ W _ J, blank, c.requires.watch, all_start _ _ _ _ _ _ _ _ _ _ _ W _ _ c.requires.long.0 J)

pub group_of-requires : goal.group_of-requires
group_of-requires c = let P = c.requires.prepared in (omega (arith, P.ready.limits.few_outputs), omega (arith, P.counted, ready_few P.ready))

pub try_like-requires-clause-group : goal.try_like-requires-clause-group
try_like-requires-clause-group c = group_of_alike _ _ _ _ _ _ (omega (arith, c.loop-y-test.true)) (sym c.has_bit.ensures ∙ c.if-has_bit.true) c.loop-y.invariant.2 c.group_of.ensures

pub try_like-requires-clause-long : goal.try_like-requires-clause-long
try_like-requires-clause-long c =
    let S = c.requires.prepared.ready.shaped in
    let A = c.loop-y.invariant.5 in
    (A.long, only_left _ _ _ _ _ _ _ _ _ _ _ c.requires.long.1 (counted (goal.at.try_like-requires-clause-long c).Start) S.low S.prepared.lowest _ _ _ _ A)

pub loop-y-preserved : goal.loop-y-preserved
loop-y-preserved c =
    let l = c.loop-y in
    let low : l.y < c.args.chip.sizes.outputs = omega (arith, c.loop-y-test.true) in
    elim c.if-has_bit.branch [
      | then-has_bit w ↦ let d = sym c.has_bit.ensures ∙ w.if-has_bit.true in
          let G = group_of_alike _ _ _ _ _ _ low d l.invariant.2 w.group_of.ensures in
          let T = w.try_like.ensures in
          let inside : (y : ℕ) → digit y (bit_and w.group_of.result l.todo) ≡ true → digit y l.todo ≡ true = λ y e. (split w.group_of.result l.todo y e).1 in
          rw (w.known-is, w.groups-is, w.goods-is, w.vals-is, w.todo-is) (
            omega arith,
            todo_below _ _ inside _ G.own l.invariant.1,
            (λ y e. l.invariant.2 y (todo_fewer _ _ inside y e)),
            T.store_2,
            T.watch_2,
            all_step _ _ _ _ _ _ _ _ _ _ _ c.requires.long.1 (counted (goal.at.loop-y-preserved c).Start) _ _ _ _ _ _ _ _ _ G l.invariant.5 T.like_tried,
          )
      | else-has_bit w ↦ let d = sym c.has_bit.ensures ∙ w.if-has_bit.false in
          rw (w.known-is, w.groups-is, w.goods-is, w.vals-is, w.todo-is) (omega arith, todo_skip _ _ d l.invariant.1, l.invariant.2, l.invariant.3, l.invariant.4, l.invariant.5)
    ]

pub returns-clause-all_sofar : goal.returns-clause-all_sofar
returns-clause-all_sofar c =
    let l = c.loop-y in
    all_end _ _ _ _ _ _ _ _ _ _ _ c.requires.long.1 _ _ _ _ (λ y h. l.invariant.1 y (omega arith)) l.invariant.5
