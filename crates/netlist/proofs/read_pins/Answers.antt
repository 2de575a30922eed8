-- The pins left to read, put behind those stored, always give what reading all n gives.
use Rattle.std.proofs.lemmas.Result.{err_from_is_err_and}
use Rattle.netlist.proofs.Laws.{pins_more, pins_stop, pins_done, front_more}
use Rattle.chip.specs.Got.{got}
use lib.Seq.{drop-set-lt}
use lib.ListN.{length, take, length-set}
use Prim.Native.Nat.{ℕ, ◌+◌, ◌<◌}
use mathlib.Core.Path.{◌≡◌, sym, ap, ◌∙◌}
use native.Mathlib.Omega.{arith}
use Rattle.netlist.proofs.read_pins.Goals as goal

pub returns-in_err-nets : goal.returns-in_err-nets
returns-in_err-nets c =
    let l = c.loop-k in
    let p = err_from_is_err_and c.from_residual.result c.from_residual.ensures.1 in
    record {
      answer = rw (p.1, p.2) (sym (pins_stop _ _ _ _ _ _ (omega (arith, c.loop-k-test.true)) (sym c.net_at.ensures.result_value ∙ c.in_err-nets.was)) ∙ l.invariant.2);
      kept = l.invariant.1;
    }

pub loop-k-preserved : goal.loop-k-preserved
loop-k-preserved c =
    let l = c.loop-k in
    let a = c.args in
    let q< : a.first + l.k < length l.nets = omega (arith, c.loop-k-test.true) in (
      simp length-set l.invariant.0,
      drop-set-lt (a.first + a.n) l.nets (a.first + l.k) _ (omega (arith, c.loop-k-test.true)) ∙ l.invariant.1,
      rw (front_more l.nets (a.first + l.k) (a.first + (l.k + 1)) _ (omega arith) q<)
          (sym (pins_more _ _ _ _ _ _ _ _ (omega (arith, c.loop-k-test.true)) (omega arith) (sym c.net_at.ensures.result_value ∙ c.in_ok-nets.was)) ∙ l.invariant.2),
    )

pub returns : goal.returns
returns c =
    let l = c.loop-k in
    let a = c.args in
    let e : a.first + a.n ≡ a.first + l.k = omega (arith, c.loop-k-test.false, l.auto) in
    record {
      answer = ap (λ (j : ℕ). got (take j l.nets)) e ∙ sym (pins_done _ _ _ _ _ (omega (arith, c.loop-k-test.false))) ∙ l.invariant.2;
      kept = l.invariant.1;
    }
