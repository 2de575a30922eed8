-- A cell has a first pin, whatever its kind, and the slot that the pin looks at is there.
use native.Mathlib.Omega.{arith}
use Rattle.rows.proofs.Fill.{first_row}
use Rattle.rows.proofs.gate.Goals as goal

pub bounds-src-a : goal.bounds-src-a
bounds-src-a c = (first_row c.args.kind _ _ _ _ c.requires.0 c.requires.2).0

pub slot-requires : goal.slot-requires
slot-requires c = omega (arith, c.from.ensures, (first_row c.args.kind _ _ _ _ c.requires.0 c.requires.2).1)

pub bounds-src-a-in-1 : goal.bounds-src-a-in-1
bounds-src-a-in-1 c = (first_row c.args.kind _ _ _ _ c.requires.0 c.requires.2).0

pub slot-requires-in-1 : goal.slot-requires-in-1
slot-requires-in-1 c = omega (arith, c.from-in-1.ensures, (first_row c.args.kind _ _ _ _ c.requires.0 c.requires.2).1)
