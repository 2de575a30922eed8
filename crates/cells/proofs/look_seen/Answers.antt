-- At an output that is not seen the words are the good ones, so no fault shows there, and the seen ones are all to look at.
use Rattle.cells.proofs.Trying.{looked_all}
use Prim.Native.Nat.{◌+◌, ◌*◌}
use Rattle.cells.proofs.look_seen.Goals as goal

pub returns : goal.returns
returns c = let a = c.args in looked_all a.home.now.kind a.home.now.net a.home.now.pin (16 + a.home.now.number) a.home.now.first a.home.now.count a.q a.u c.seen_at-seen.result _ _ a.goods.now a.vals.now c.seen_at-seen.ensures (2 * a.home.now.count + 2) a.known.now.left a.known.now.best a.known.now.pat _ _ _ c.look_home.ensures
