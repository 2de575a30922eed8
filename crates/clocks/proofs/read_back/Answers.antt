-- A file that is refused is answered with its refusal, and one that opens with what the call on the open chip answers.
use Rattle.std.proofs.lemmas.Result.{err_from_is_err_and, MatchResult-at_ok, MatchResult-at_err}
use Rattle.chip.specs.Refusals.{unopened, opened}
use Rattle.clocks.proofs.read_back.Goals as goal

pub returns-in_err-opened : goal.returns-in_err-opened
returns-in_err-opened c =
    let p = err_from_is_err_and c.from_residual.result c.from_residual.ensures.1 in
    rw (p.1, p.2) (unopened (MatchResult-at_err _ _ _ c.in_err-opened.was c.open.ensures))

pub read_on-requires : goal.read_on-requires
read_on-requires c = (MatchResult-at_ok _ _ _ c.in_ok-opened.was c.open.ensures).1

pub returns : goal.returns
returns c = opened (MatchResult-at_ok _ _ _ c.in_ok-opened.was c.open.ensures).0 c.read_on.ensures
