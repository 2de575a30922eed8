use Rattle.balance.specs.Balance.{InputsMet}
use Rattle.balance.proofs.meet_inputs.Given as goal

abbrev pub invariant-loop-x : goal.invariant-loop-x
invariant-loop-x l = InputsMet l.x l.reached l.initial.seen l.best l.seen l.lowest
