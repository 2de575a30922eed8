use Prim.Native.Nat.{◌≤◌}
use Rattle.copies.specs.Inner.Marks.{NextBlock}
use Rattle.copies.proofs.next_block.Given as goal

abbrev pub invariant-loop-p : goal.invariant-loop-p
invariant-loop-p l = (l.next ≤ 65) × NextBlock l.branches l.block l.x l.at l.p l.next
