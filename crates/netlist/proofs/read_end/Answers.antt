-- The tests for the count, for 4,096 pins, for the outputs and for bytes behind the end come in the definition's order.
use Rattle.std.proofs.lemmas.Result.{err_from_is_err_and, IfOk-at_ok}
use Rattle.netlist.proofs.Laws.{said}
use Rattle.chip.specs.Format.{ending}
use mathlib.Core.Path.{◌≡◌, refl, sym, ◌∙◌}
use borrow.Author.Tests.{le-leb, lt-leb}
use lib.ListN.{length, take}
use lib.Seq.{length-take-le}
use native.Mathlib.Omega.{arith}
use Rattle.netlist.proofs.read_end.Goals as goal

pub returns-in_err-o : goal.returns-in_err-o
unfolding ending
returns-in_err-o c =
    let p = err_from_is_err_and c.from_residual.result c.from_residual.ensures.1 in
    record { answer = λ kinds counts. rw (p.1, p.2, sym c.count_at.ensures.result_value ∙ c.in_err-o.was); kept = rw p.1 tt }

pub returns-then-p-o-gt4096 : goal.returns-then-p-o-gt4096
unfolding ending
returns-then-p-o-gt4096 c =
    let a = c.args in
    let w : length (take a.p a.nets.now) ≡ a.p = length-take-le _ _ (omega (arith, c.requires)) in
    record {
      answer = λ kinds counts. rw (c.at.ensures, sym c.count_at.ensures.result_value ∙ c.in_ok-o.was, w, lt-leb _ _ c.if-p-o-gt4096.true);
      kept = tt;
    }

pub returns-in_err-read_outputs : goal.returns-in_err-read_outputs
unfolding ending
returns-in_err-read_outputs c =
    let a = c.args in
    let w : length (take a.p a.nets.now) ≡ a.p = length-take-le _ _ (omega (arith, c.requires)) in
    let p = err_from_is_err_and c.from_residual-in_err-read_outputs.result c.from_residual-in_err-read_outputs.ensures.1 in
    record {
      answer = λ kinds counts. rw (
        p.1,
        p.2,
        sym c.count_at.ensures.result_value ∙ c.in_ok-o.was,
        w,
        le-leb _ _ c.if-p-o-gt4096.false,
        said _ c.read_outputs.ensures.answer c.in_err-read_outputs.was,
      );
      kept = rw p.1 tt;
    }

pub returns-then-end-file : goal.returns-then-end-file
unfolding ending
returns-then-end-file c =
    let a = c.args in
    let w : length (take a.p a.nets.now) ≡ a.p = length-take-le _ _ (omega (arith, c.requires)) in
    record {
      answer = λ kinds counts. rw (
        c.at-then-end-file.ensures,
        sym c.count_at.ensures.result_value ∙ c.in_ok-o.was,
        w,
        le-leb _ _ c.if-p-o-gt4096.false,
        said _ c.read_outputs.ensures.answer c.in_ok-read_outputs.was,
        lt-leb _ _ c.if-end-file.true,
      );
      kept = tt;
    }

pub returns : goal.returns
unfolding ending
returns c =
    let a = c.args in
    let w : length (take a.p a.nets.now) ≡ a.p = length-take-le _ _ (omega (arith, c.requires)) in
    let b = IfOk-at_ok _ c.in_ok-o.was c.count_at.ensures.below in
    record {
      answer = λ kinds counts. rw (
        sym c.count_at.ensures.result_value ∙ c.in_ok-o.was,
        w,
        le-leb _ _ c.if-p-o-gt4096.false,
        said _ c.read_outputs.ensures.answer c.in_ok-read_outputs.was,
        le-leb _ _ c.if-end-file.false,
      );
      kept = record {
        inputs = refl;
        cells = refl;
        outputs = omega arith;
        pins = refl;
        pins_fit = c.if-p-o-gt4096.false;
        pads_rest = c.read_outputs.ensures.pads_kept;
        nets_rest = c.read_outputs.ensures.nets_kept;
      };
    }
