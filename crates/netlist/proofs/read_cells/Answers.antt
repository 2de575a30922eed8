-- What the cells left to read add to those stored is always what all n give, and cell j starts at from + 2 * j + 2 * p.
use Rattle.std.proofs.lemmas.Result.{err_from_is_err_and, IfOk-at_ok}
use Rattle.netlist.proofs.Laws.{said, cells_more, cells_stop, cells_done, kept_more}
use Prim.Native.Nat.{◌+◌, ◌*◌}
use mathlib.Core.Path.{◌≡◌, sym, ◌∙◌}
use native.Mathlib.Omega.{arith}
use Rattle.netlist.proofs.read_cells.Goals as goal

pub read_cell-requires : goal.read_cell-requires
read_cell-requires c = omega (arith, c.loop-j-test.true, c.requires)

pub returns-in_err-m : goal.returns-in_err-m
returns-in_err-m c =
    let p = err_from_is_err_and c.from_residual.result c.from_residual.ensures.1 in
    record {
      answer = rw (p.1, p.2) (sym (cells_stop _ _ _ _ _ (omega (arith, c.loop-j-test.true)) (said _ c.read_cell.ensures.answer c.in_err-m.was)) ∙ c.loop-j.invariant.6);
      kept = rw p.1 tt;
    }

pub overflow_add-at : goal.overflow_add-at
overflow_add-at c = let k = IfOk-at_ok _ c.in_ok-m.was c.read_cell.ensures.kept in omega (arith, k.0)

pub loop-j-preserved : goal.loop-j-preserved
loop-j-preserved c =
    let l = c.loop-j in
    let e = said _ c.read_cell.ensures.answer c.in_ok-m.was in
    let at_more : l.at + (2 + 2 * c.in_ok-m.m) ≡ l.at + 2 + 2 * c.in_ok-m.m = omega arith in
    let k = IfOk-at_ok _ c.in_ok-m.was c.read_cell.ensures.kept in (
      k.0,
      omega arith,
      omega arith,
      omega arith,
      omega arith,
      kept_more l.j l.p _ _ _ _ l.invariant.5 k.1,
      rw at_more (sym (cells_more _ _ _ _ _ _ (omega (arith, c.loop-j-test.true)) e) ∙ l.invariant.6),
    )

pub returns : goal.returns
returns c =
    let l = c.loop-j in
    let a = c.args in
    let e : l.j ≡ a.n = omega (arith, c.loop-j-test.false, l.auto) in
    record {
      answer = rw e at (sym (cells_done _ _ _ _ (omega (arith, c.loop-j-test.false))) ∙ l.invariant.6);
      kept = (l.invariant.0, omega arith, rw e at l.invariant.5);
    }
