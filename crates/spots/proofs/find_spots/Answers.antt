-- A block is listed at its number and gets the place of the one depth with which its branches reach the output.
use Prim.Native.Nat.{ℕ}
use lib.ListN.{length-replicate}
use Rattle.walk.proofs.Walking.{ready_few}
use Rattle.spots.proofs.Finding.{spots_found}
use Rattle.spots.proofs.find_spots.Goals as goal

pub list_blocks-requires : goal.list_blocks-requires
list_blocks-requires c = let R = c.requires.ready in (R.limits.few_outputs, ready_few R, length-replicate {A = ℕ} 1024 0)

pub returns : goal.returns
returns c y t = spots_found c.requires.ready c.requires.class_nonzero _ _ _ _ _ c.list_blocks.ensures c.put_depths.ensures y t
