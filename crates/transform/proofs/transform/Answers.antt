-- A file that does not open keeps the buffer and passes its refusal on, and on an open chip the reply is that of transform_on.
use Rattle.std.proofs.lemmas.Result.{err_from_is_err_and, MatchResult-at_ok, MatchResult-at_err}
use Rattle.chip.specs.Refusals.{unopened, opened}
use Rattle.transform.proofs.transform.Goals as goal

pub returns-in_err-opened : goal.returns-in_err-opened
returns-in_err-opened c =
    let p = err_from_is_err_and c.from_residual.result c.from_residual.ensures.1 in
    rw (p.1, p.2) (unopened (MatchResult-at_err _ _ _ c.in_err-opened.was c.open.ensures))

pub transform_on-requires : goal.transform_on-requires
transform_on-requires c = (MatchResult-at_ok _ _ _ c.in_ok-opened.was c.open.ensures).1

pub returns : goal.returns
returns c = opened (MatchResult-at_ok _ _ _ c.in_ok-opened.was c.open.ensures).0 c.transform_on.ensures
