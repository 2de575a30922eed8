-- A cell has a first pin, whatever its kind, and the slot that the pin looks at is there.
use native.Mathlib.Omega.{arith}
use Rattle.words.proofs.Lanes.{first_pin}
use Rattle.words.proofs.gate_word.Goals as goal

pub bounds-sources-first : goal.bounds-sources-first
bounds-sources-first c = (first_pin c.args.kind _ _ _ _ c.requires.count_value c.requires.in_slots).0

pub bounds-slots-from : goal.bounds-slots-from
bounds-slots-from c = omega (arith, c.from.ensures, (first_pin c.args.kind _ _ _ _ c.requires.count_value c.requires.in_slots).1)
