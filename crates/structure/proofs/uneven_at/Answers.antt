-- `structure::uneven_at` keeps its contract: where no input's net reaches an output no branch does, and so there is no conflict and no label is seen at one.
use Prim.Native.Nat.{◌+◌}
use native.Mathlib.Omega.{arith}
use Rattle.order.proofs.Order.{ranked_of}
use Rattle.balance.proofs.Inputs.{no_branch}
use Rattle.structure.proofs.Evenness.{span_one, seen_none}
use Rattle.structure.proofs.uneven_at.Goals as goal

pub returns-then-any_net-eq0 : goal.returns-then-any_net-eq0
returns-then-any_net-eq0 c =
    λ N e order L O B M K.
    let m = c.any_net.ensures N e (omega (arith, B.inputs)) M.nets in
    seen_none N _ e _ _ (no_branch N L.sound (ranked_of O) e (rw (c.if-any_net-eq0.true, ← B.inputs) at m)) K

pub conflict-lowest-requires : goal.conflict-lowest-requires
conflict-lowest-requires c = let P = c.requires in (P.1, P.2)

pub see-requires : goal.see-requires
see-requires c = let P = c.requires in (P.1, P.2)

pub returns : goal.returns
returns c =
    λ N e order L O B M K.
    let pins = c.args.pins.now in
    record { lowest = c.conflict-lowest.ensures N e B M.pins K; seen_now = c.see.ensures N e (e + 1) (omega arith) B (span_one N e pins M.pins) K }
