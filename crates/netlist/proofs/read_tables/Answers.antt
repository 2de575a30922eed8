-- Each return is one path through the sections of the format, with what the sections before it were read as.
use Rattle.std.proofs.lemmas.Result.{err_from_is_err_and, IfOk-at_ok}
use Rattle.netlist.proofs.Laws.{said, end_read}
use Rattle.chip.specs.Format.{read_of}
use mathlib.Core.Path.{sym, ◌∙◌}
use native.Mathlib.Omega.{arith}
use Rattle.netlist.proofs.read_tables.Goals as goal

pub returns-in_err-i : goal.returns-in_err-i
unfolding read_of
returns-in_err-i c =
    let p = err_from_is_err_and c.from_residual.result c.from_residual.ensures.1 in
    record { answer = rw (p.1, p.2, sym c.count_at.ensures.result_value ∙ c.in_err-i.was); kept = rw p.1 tt }

pub returns-in_err-read_inputs : goal.returns-in_err-read_inputs
unfolding read_of
returns-in_err-read_inputs c =
    let p = err_from_is_err_and c.from_residual-in_err-read_inputs.result c.from_residual-in_err-read_inputs.ensures.1 in
    record {
      answer = rw (
        p.1,
        p.2,
        sym c.count_at.ensures.result_value ∙ c.in_ok-i.was,
        said _ c.read_inputs.ensures.answer c.in_err-read_inputs.was,
      );
      kept = rw p.1 tt;
    }

pub returns-in_err-n : goal.returns-in_err-n
unfolding read_of
returns-in_err-n c =
    let p = err_from_is_err_and c.from_residual-in_err-n.result c.from_residual-in_err-n.ensures.1 in
    record {
      answer = rw (
        p.1,
        p.2,
        sym c.count_at.ensures.result_value ∙ c.in_ok-i.was,
        said _ c.read_inputs.ensures.answer c.in_ok-read_inputs.was,
        sym c.count_at-2.ensures.result_value ∙ c.in_err-n.was,
      );
      kept = rw p.1 tt;
    }

pub returns-in_err-at : goal.returns-in_err-at
unfolding read_of
returns-in_err-at c =
    let p = err_from_is_err_and c.from_residual-in_err-at.result c.from_residual-in_err-at.ensures.1 in
    record {
      answer = rw (
        p.1,
        p.2,
        sym c.count_at.ensures.result_value ∙ c.in_ok-i.was,
        said _ c.read_inputs.ensures.answer c.in_ok-read_inputs.was,
        sym c.count_at-2.ensures.result_value ∙ c.in_ok-n.was,
        said _ c.read_cells.ensures.answer c.in_err-at.was,
      );
      kept = rw p.1 tt;
    }

pub returns : goal.returns
unfolding read_of
returns c =
    let b = IfOk-at_ok _ c.in_ok-i.was c.count_at.ensures.below in
    let d = IfOk-at_ok _ c.in_ok-n.was c.count_at-2.ensures.below in
    let k = IfOk-at_ok _ c.in_ok-at.was c.read_cells.ensures.kept in
    let z = end_read _ _ _ _ _ _ _ _ _ _ _ _ (omega arith) (omega arith) c.read_inputs.ensures.kept k.2 c.read_end.ensures in
    record {
      answer = rw (
        sym c.count_at.ensures.result_value ∙ c.in_ok-i.was,
        said _ c.read_inputs.ensures.answer c.in_ok-read_inputs.was,
        sym c.count_at-2.ensures.result_value ∙ c.in_ok-n.was,
        said _ c.read_cells.ensures.answer c.in_ok-at.was,
      ) z.0;
      kept = z.1;
    }
