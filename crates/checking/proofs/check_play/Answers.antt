-- A file that is refused has that reply, and one that is open the reply of its chip.
use Rattle.std.proofs.lemmas.Result.{err_from_is_err_and, MatchResult-at_ok, MatchResult-at_err}
use Rattle.chip.specs.Refusals.{unopened, opened}
use Rattle.checking.proofs.check_play.Goals as goal

pub returns-in_err-opened : goal.returns-in_err-opened
returns-in_err-opened c =
    let p = err_from_is_err_and c.from_residual.result c.from_residual.ensures.1 in
    rw (p.1, p.2) (unopened (MatchResult-at_err _ _ _ c.in_err-opened.was c.open.ensures))

pub returns : goal.returns
returns c = opened (MatchResult-at_ok _ _ _ c.in_ok-opened.was c.open.ensures).0 c.check_on.ensures
