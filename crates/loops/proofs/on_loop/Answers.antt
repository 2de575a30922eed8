-- All cells on the list feed the cell's net, and once the pins of each are followed, all that feed it are on the list.
use mathlib.Core.Path.{refl}
use native.Mathlib.Omega.{arith}
use lib.ListN.{get_or-replicate}
use Rattle.order.proofs.Listed.{none_listed}
use Rattle.loops.proofs.Walk.{walk_start, walk_more, walk_done}
use Rattle.loops.proofs.on_loop.Goals as goal

pub follow-n-requires-clause-listed : goal.follow-n-requires-clause-listed
follow-n-requires-clause-listed c = none_listed _ _ _ refl refl (λ j l. get_or-replicate 1024 j 0 0 (omega (arith, c.requires.wired.few_cells)))

pub loop-k-init : goal.loop-k-init
loop-k-init c = walk_start c.requires.wired c.requires.own_lt_c c.follow-n.ensures

pub loop-k-preserved : goal.loop-k-preserved
loop-k-preserved c = walk_more c.requires.wired c.requires.own_lt_c c.loop-k.invariant c.loop-k-test.true (rw c.from-j.ensures at c.follow-n-in-loop-k.ensures)

pub returns : goal.returns
returns c o kinds counts F = walk_done c.requires.wired c.requires.own_lt_c c.loop-k.invariant (omega (arith, c.loop-k-test.false)) o kinds counts F _ refl
