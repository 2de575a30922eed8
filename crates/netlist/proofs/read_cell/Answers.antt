-- Kind, pin count and pins are read in the order of the definition, and the first that is refused is the answer.
use Rattle.std.proofs.lemmas.Result.{err_from_is_err_and, IfOk-at_ok}
use Rattle.netlist.proofs.Laws.{said, front_more}
use Rattle.chip.specs.Format.{cell}
use Prim.Native.Nat.{◌+◌}
use mathlib.Core.Path.{◌≡◌, sym, ◌∙◌}
use lib.ListN.{length, take}
use lib.Seq.{length-take-le, drop-set-lt}
use native.Mathlib.Omega.{arith}
use Rattle.netlist.proofs.read_cell.Goals as goal

pub returns-in_err-kind : goal.returns-in_err-kind
unfolding cell
returns-in_err-kind c =
    let p = err_from_is_err_and c.from_residual.result c.from_residual.ensures.1 in
    record { answer = rw (p.1, p.2, sym c.kind_at.ensures.result_value ∙ c.in_err-kind.was); kept = rw p.1 tt }

pub returns-in_err-m : goal.returns-in_err-m
unfolding cell
returns-in_err-m c =
    let a = c.args in
    let w : length (take a.p a.nets.now) ≡ a.p = length-take-le _ _ (omega (arith, c.requires)) in
    let p = err_from_is_err_and c.from_residual-in_err-m.result c.from_residual-in_err-m.ensures.1 in
    record {
      answer = rw (p.1, p.2, sym c.kind_at.ensures.result_value ∙ c.in_ok-kind.was, w, rw c.from.ensures at (sym c.pin_count_at.ensures.result_value ∙ c.in_err-m.was));
      kept = rw p.1 tt;
    }

pub returns-in_err-read_pins : goal.returns-in_err-read_pins
unfolding cell
returns-in_err-read_pins c =
    let a = c.args in
    let w : length (take a.p a.nets.now) ≡ a.p = length-take-le _ _ (omega (arith, c.requires)) in
    let p = err_from_is_err_and c.from_residual-in_err-read_pins.result c.from_residual-in_err-read_pins.ensures.1 in
    record {
      answer = rw (
        p.1,
        p.2,
        sym c.kind_at.ensures.result_value ∙ c.in_ok-kind.was,
        w,
        rw c.from.ensures at (sym c.pin_count_at.ensures.result_value ∙ c.in_ok-m.was),
        sym c.from-pins.ensures,
        said _ c.read_pins.ensures.answer c.in_err-read_pins.was,
      );
      kept = rw p.1 tt;
    }

pub returns : goal.returns
unfolding cell
returns c =
    let a = c.args in
    let w : length (take a.p a.nets.now) ≡ a.p = length-take-le _ _ (omega (arith, c.requires)) in
    let r = IfOk-at_ok _ c.in_ok-m.was c.pin_count_at.ensures.pin_room in
    record {
      answer = rw (
        sym c.kind_at.ensures.result_value ∙ c.in_ok-kind.was,
        w,
        rw c.from.ensures at (sym c.pin_count_at.ensures.result_value ∙ c.in_ok-m.was),
        sym c.from-pins.ensures,
        said _ c.read_pins.ensures.answer c.in_ok-read_pins.was,
        front_more a.kinds.now a.j (a.j + 1) _ (omega arith) c.requires.0,
        front_more a.counts.now a.j (a.j + 1) _ (omega arith) c.requires.1,
      );
      kept = (
        omega arith,
        record {
          kinds = drop-set-lt (a.j + 1) a.kinds.now a.j _ (omega arith);
          counts = drop-set-lt (a.j + 1) a.counts.now a.j _ (omega arith);
          nets = c.read_pins.ensures.kept;
        },
      );
    }
