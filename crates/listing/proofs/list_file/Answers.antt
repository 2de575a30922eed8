-- Behind the two refusals the chip is open and not of class 1, which is what the listing asks.
use Rattle.std.proofs.lemmas.Result.{MatchResult-at_ok}
use Rattle.listing.proofs.list_file.Goals as goal

pub list-requires : goal.list-requires
list-requires c = ((MatchResult-at_ok _ _ _ c.in_ok-opened.was c.open.ensures).1, c.if-s-eq1.false, c.requires)
