-- Pins counted by head, summed and put from the last on leave each head where its readers begin, and each pin's place among them.
use Rattle.chip.proofs.Basics.{zero_at}
use mathlib.Core.Path.{refl}
use Rattle.readers.proofs.Counting.{built}
use Rattle.readers.proofs.build.Goals as goal

pub owners-requires : goal.owners-requires
owners-requires c = record { wires = (_, _, _, _, _, c.requires.wires); owner_len = (refl, λ x. zero_at 4096 x) }

pub put_readers-requires-clause-put : goal.put_readers-requires-clause-put
put_readers-requires-clause-put c = c.sum_readers.ensures _ _ c.count_readers.ensures

pub returns : goal.returns
returns c = built _ _ _ _ _ _ _ _ _ _ _ _ c.requires.wires c.owners.ensures c.put_readers.ensures.put_2 c.put_readers.ensures.read_2
