-- A file that does not open passes its refusal on and leaves the buffer, and on an open chip the reply is that of search_on.
use Rattle.std.proofs.lemmas.Result.{MatchResult-at_ok, MatchResult-at_err}
use Rattle.chip.specs.Refusals.{unopened, opened}
use Rattle.search.proofs.search.Goals as goal

pub search_on-requires : goal.search_on-requires
search_on-requires c = (MatchResult-at_ok _ _ _ c.in-Ok.is c.open.ensures).1

pub returns-in-Err : goal.returns-in-Err
returns-in-Err c = unopened (MatchResult-at_err _ _ _ c.in-Err.is c.open.ensures)

pub returns-in-Ok : goal.returns-in-Ok
returns-in-Ok c = opened (MatchResult-at_ok _ _ _ c.in-Ok.is c.open.ensures).0 c.search_on.ensures
