-- The faults of a chip by their numbers, in the order of the listing: nets ascending, then pins, stuck at 0 before 1.
use Rattle.std.specs.Prelude.{ℕ, ◌-◌, ◌/◌, ◌%◌, cond, ltb}
use Rattle.chip.specs.declared.Site.TheVariants.{Net, Pin}
use Rattle.chip.specs.declared.Fault.{Fault}

-- fault f of a chip with so many nets
abbrev pub fault_number : ℕ → ℕ → Fault
fault_number nets f = record { site = cond (ltb (f / 2) nets) (Net (f / 2)) (Pin (f / 2 - nets)); stuck = f % 2 }
