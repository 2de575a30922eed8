-- Each return is one way that a file opens: not read, looped, too deep, or prepared with all of its tables.
use Rattle.std.proofs.lemmas.Result.{err_from_is_err_and, MatchResult-at_ok, MatchResult-at_err}
use mathlib.Core.Path.{sym, ◌∙◌}
use lib.ListN.{get_or-replicate}
use Rattle.chip.specs.Refusals.{unread}
use Rattle.netlist.proofs.Use.{holds, refuses}
use Rattle.opening.proofs.Answers.{tables_limits, tables_pins, opens_unfit, opens_chip}
use Rattle.opening.proofs.open.Goals as goal

pub returns-in_err-t : goal.returns-in_err-t
returns-in_err-t c =
    let p = err_from_is_err_and c.from_residual.result c.from_residual.ensures.1 in
    rw (p.1, p.2) (unread (refuses _ _ (sym c.read.ensures ∙ c.in_err-t.was)))

pub prepare-requires : goal.prepare-requires
prepare-requires c =
    let h = holds _ _ (sym c.read.ensures ∙ c.in_ok-t.was) in
    record { in_limits = tables_limits _ _ h; pins_value = tables_pins _ _ h; by_index = λ l b. get_or-replicate 4160 l 0 0 b }

pub returns-in_err-shape : goal.returns-in_err-shape
returns-in_err-shape c =
    let h = holds _ _ (sym c.read.ensures ∙ c.in_ok-t.was) in
    let p = err_from_is_err_and c.from_residual-in_err-shape.result c.from_residual-in_err-shape.ensures.1 in
    rw (p.1, p.2) (opens_unfit _ _ h _ (MatchResult-at_err _ _ _ c.in_err-shape.was c.prepare.ensures))

pub returns : goal.returns
returns c =
    let h = holds _ _ (sym c.read.ensures ∙ c.in_ok-t.was) in
    let S = MatchResult-at_ok _ _ _ c.in_ok-shape.was c.prepare.ensures in
    (opens_chip _ _ h _ _ _ S.prepared S.shallow, record { ready = record { limits = tables_limits _ _ h; pins = tables_pins _ _ h; shaped = S } })
