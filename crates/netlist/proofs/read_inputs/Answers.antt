-- The inputs left to read, put behind the first x pads, always give what reading all n from place 2 gives.
use Rattle.std.proofs.lemmas.Result.{err_from_is_err_and}
use Rattle.netlist.proofs.Laws.{inputs_more, inputs_stop, inputs_done, front_more}
use Rattle.chip.specs.Got.{got}
use lib.Seq.{drop-set-lt}
use lib.ListN.{length, take, length-set}
use Prim.Native.Nat.{ℕ, ◌+◌, ◌<◌}
use mathlib.Core.Path.{◌≡◌, sym, ap, ◌∙◌}
use native.Mathlib.Omega.{arith}
use Rattle.netlist.proofs.read_inputs.Goals as goal

pub returns-in_err-pad : goal.returns-in_err-pad
returns-in_err-pad c =
    let l = c.loop-x in
    let p = err_from_is_err_and c.from_residual.result c.from_residual.ensures.1 in
    record {
      answer = rw (p.1, p.2) (sym (inputs_stop _ _ _ _ _ (omega (arith, c.loop-x-test.true)) (sym c.pad_at.ensures ∙ c.in_err-pad.was)) ∙ l.invariant.2);
      kept = l.invariant.1;
    }

pub loop-x-preserved : goal.loop-x-preserved
loop-x-preserved c =
    let l = c.loop-x in
    let x< : l.x < length l.pads = omega (arith, c.loop-x-test.true) in (
      simp length-set l.invariant.0,
      drop-set-lt c.args.n l.pads l.x _ (omega (arith, c.loop-x-test.true)) ∙ l.invariant.1,
      rw (front_more l.pads l.x (l.x + 1) _ (omega arith) x<)
          (sym (inputs_more _ _ _ _ _ _ _ (omega (arith, c.loop-x-test.true)) (omega arith) (sym c.pad_at.ensures ∙ c.in_ok-pad.was)) ∙ l.invariant.2),
    )

pub returns : goal.returns
returns c =
    let l = c.loop-x in
    let e : c.args.n ≡ l.x = omega (arith, c.loop-x-test.false, l.auto) in
    record {
      answer = ap (λ (j : ℕ). got (take j l.pads)) e ∙ sym (inputs_done _ _ _ _ (omega (arith, c.loop-x-test.false))) ∙ l.invariant.2;
      kept = l.invariant.1;
    }
