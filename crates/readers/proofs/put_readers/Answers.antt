-- The pins from p on have their entries, and each head stands behind the pins below p that share it, so pin p - 1 goes just before.
use Prim.Native.Nat.{◌+◌, ◌-◌}
use mathlib.Core.Path.{◌≡◌, refl}
use native.Mathlib.Omega.{arith}
use lib.ListN.{get_or}
use Rattle.readers.specs.Readers.{pin_key, spot}
use Rattle.readers.proofs.Counting.{put_here, put_more, read_more, spot_room}
use Rattle.readers.proofs.put_readers.Goals as goal
use Rattle.readers.proofs.put_readers.Goals.{After-head-s}

-- the entry of the pin at hand
here : (c : After-head-s) → get_or c.loop-p.heads c.head-s.result 0 ≡ spot (pin_key c.args.pins.now) c.args.n (c.loop-p.p - 1) + 1
here c = let l = c.loop-p in put_here l.p (l.p - 1) c.args.n _ l.heads c.head-s.result l.invariant.0 (omega arith) c.head-s.ensures.0 (omega (arith, c.head-s.ensures.1))

pub overflow_sub-r : goal.overflow_sub-r
overflow_sub-r c = omega (arith, here (goal.at.overflow_sub-r c).After-head-s)

pub bounds-readers-from : goal.bounds-readers-from
bounds-readers-from c =
    omega (arith, here (goal.at.bounds-readers-from c).After-head-s, spot_room (pin_key c.args.pins.now) c.args.n (c.loop-p.p - 1) (omega arith), c.from.ensures, c.loop-p.invariant.1.long)

pub loop-p-preserved : goal.loop-p-preserved
loop-p-preserved c =
    let l = c.loop-p in
    let h = c.head-s in
    let q = here (goal.at.loop-p-preserved c).After-head-s in (
      put_more _ _ _ _ _ _ _ l.invariant.0 (omega arith) h.ensures.0 (omega (arith, h.ensures.1)) (omega (arith, q)),
      read_more _ _ _ _ _ _ _ _ _ l.invariant.1 (omega arith) (omega arith) (omega (arith, q, c.from.ensures)) refl (c.requires.owner_len.1 (l.p - 1) (omega arith)),
    )
