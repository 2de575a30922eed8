-- A word of all lanes takes nothing away, so the lanes looked at are those in which the good words and the run's differ.
use Prim.Native.Nat.{◌-◌, ◌^◌}
use lib.ListN.{replicate, get_or-replicate}
use Rattle.known.proofs.Steps.{looked_runs}
use Rattle.known.proofs.look_all.Goals as goal

pub returns : goal.returns
returns c =
    let a = c.args in
    looked_runs _ _ _ (replicate 16 (2 ^ 64 - 1)) a.run.outs.now a.run.ends.now a.run.goods.now a.run.vals.now _ _ _ _ _ _ (λ k l. get_or-replicate 16 k _ 0 l) c.look.ensures
