-- The sources tell the pad buffers for the first words of the places, and a prepared chip gives what the other tables are made of.
use Prim.Native.Nat.{ℕ, ◌-◌}
use mathlib.Core.Path.{refl}
use native.Mathlib.Omega.{arith}
use lib.ListN.{length-replicate}
use lib.Seq.{length-take-le}
use Rattle.chip.proofs.Basics.{zero_at}
use Rattle.benches.proofs.Tables.{zero_part}
use Rattle.verdicts.proofs.try_faults.Goals as goal

pub chip_tables-requires-clause-heads_len : goal.chip_tables-requires-clause-heads_len
chip_tables-requires-clause-heads_len c = (refl, λ x. zero_at 5185 x)

pub chip_tables-requires-clause-readers_len : goal.chip_tables-requires-clause-readers_len
chip_tables-requires-clause-readers_len c =
    let R = c.requires.opened.0.ready in
    let z = c.args.opened.now.sizes in
    (length-take-le _ _ (omega (arith, R.pins, R.limits.few_pins, length-replicate {A = ℕ} 4096 0)), λ x. zero_part (z.pins - z.outputs) 4096 x)
