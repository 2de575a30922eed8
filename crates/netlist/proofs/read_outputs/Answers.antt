-- Each turn stores one pad and one net, and what is left, read behind these, gives what all n outputs give.
use Rattle.std.proofs.lemmas.Result.{err_from_is_err_and}
use Rattle.netlist.proofs.Laws.{outputs_more, outputs_stop, outputs_stop_net, outputs_done, front_more}
use lib.Seq.{drop-set-lt}
use lib.ListN.{length, length-set}
use Prim.Native.Nat.{◌+◌, ◌<◌}
use mathlib.Core.Path.{◌≡◌, sym, ◌∙◌}
use native.Mathlib.Omega.{arith}
use Rattle.netlist.proofs.read_outputs.Goals as goal

pub returns-in_err-pad : goal.returns-in_err-pad
returns-in_err-pad c =
    let l = c.loop-z in
    let p = err_from_is_err_and c.from_residual.result c.from_residual.ensures.1 in
    record {
      answer = rw (p.1, p.2) (sym (outputs_stop _ _ _ _ _ _ _ (omega (arith, c.loop-z-test.true)) (sym c.pad_at.ensures ∙ c.in_err-pad.was)) ∙ l.invariant.4);
      pads_kept = l.invariant.2;
      nets_kept = l.invariant.3;
    }

pub returns-in_err-nets : goal.returns-in_err-nets
returns-in_err-nets c =
    let l = c.loop-z in
    let a = c.args in
    let p = err_from_is_err_and c.from_residual-in_err-nets.result c.from_residual-in_err-nets.ensures.1 in
    record {
      answer = rw (p.1, p.2)
          (sym (outputs_stop_net _ _ _ _ _ _ _ _ (omega (arith, c.loop-z-test.true)) (sym c.pad_at.ensures ∙ c.in_ok-pad.was) (sym c.net_at.ensures.result_value ∙ c.in_err-nets.was)) ∙ l.invariant.4);
      pads_kept = drop-set-lt (a.used + a.n) l.pads (a.used + l.z) _ (omega (arith, c.loop-z-test.true)) ∙ l.invariant.2;
      nets_kept = l.invariant.3;
    }

pub loop-z-preserved : goal.loop-z-preserved
loop-z-preserved c =
    let l = c.loop-z in
    let a = c.args in
    let q< : a.first + l.z < length l.nets = omega (arith, c.loop-z-test.true) in
    let k< : a.used + l.z < length l.pads = omega (arith, c.loop-z-test.true) in (
      simp length-set l.invariant.0,
      simp length-set l.invariant.1,
      drop-set-lt (a.used + a.n) l.pads (a.used + l.z) _ (omega (arith, c.loop-z-test.true)) ∙ l.invariant.2,
      drop-set-lt (a.first + a.n) l.nets (a.first + l.z) _ (omega (arith, c.loop-z-test.true)) ∙ l.invariant.3,
      rw (front_more l.nets (a.first + l.z) (a.first + (l.z + 1)) _ (omega arith) q<, front_more l.pads (a.used + l.z) (a.used + (l.z + 1)) _ (omega arith) k<)
          (sym (outputs_more _ _ _ _ _ _ _ _ _ _ (omega (arith, c.loop-z-test.true)) (omega arith) (sym c.pad_at.ensures ∙ c.in_ok-pad.was) (sym c.net_at.ensures.result_value ∙ c.in_ok-nets.was)) ∙ l.invariant.4),
    )

pub returns : goal.returns
returns c =
    let l = c.loop-z in
    let a = c.args in
    let e : a.first + a.n ≡ a.first + l.z = omega (arith, c.loop-z-test.false, l.auto) in
    let d : a.used + a.n ≡ a.used + l.z = omega (arith, c.loop-z-test.false, l.auto) in
    record { answer = rw (e, d) (sym (outputs_done _ _ _ _ _ _ (omega (arith, c.loop-z-test.false))) ∙ l.invariant.4); pads_kept = l.invariant.2; nets_kept = l.invariant.3 }
