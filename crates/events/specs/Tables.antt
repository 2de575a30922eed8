-- The definitions over single tables, read of a chip's tables.
use Rattle.std.specs.Prelude.{ℕ, List}
use Rattle.events.specs.declared.ChipTables.{ChipTables}
use Rattle.events.specs.Events.{Chip, Good}

-- the chip is one whose pins look at these slots
abbrev pub ChipOn : ChipTables → List ℕ → Type 0
ChipOn chip src = Chip chip.sizes.cells chip.kinds.now chip.counts.now chip.firsts.now src chip.order.now chip.reach.now chip.heads.now chip.readers.now

-- the words of all places that reach an output of u are what their cells show on these slots
abbrev pub GoodOn : ChipTables → List ℕ → ℕ → List ℕ → Type 0
GoodOn chip src u goods = Good chip.sizes.cells u chip.kinds.now chip.counts.now chip.firsts.now src chip.order.now chip.reach.now goods
