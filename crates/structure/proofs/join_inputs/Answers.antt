-- `structure::join_inputs` keeps its contract: where no input's net reaches an output no branch does, and there is nothing to join.
use native.Mathlib.Omega.{arith}
use Rattle.order.proofs.Order.{ranked_of}
use Rattle.balance.proofs.Inputs.{no_branch}
use Rattle.structure.proofs.Joining.{joined_none}
use Rattle.structure.proofs.join_inputs.Goals as goal

pub returns-then-any_net-eq0 : goal.returns-then-any_net-eq0
returns-then-any_net-eq0 c =
    λ N e order L O o B M K.
    let m = c.any_net.ensures N e (omega (arith, B.inputs)) M.nets in
    joined_none N e _ (no_branch N L.sound (ranked_of O) e (rw (c.if-any_net-eq0.true, ← B.inputs) at m)) K

pub returns : goal.returns
returns c = λ N e order L O o B M K. c.join_level.ensures N e L o B M.pins K
