-- An open chip: what calls on it may rely on, and what opening a file answers.
use Rattle.std.specs.Prelude.{List, ℕ, Err, MatchResult}
use Rattle.chip.specs.Netlist.{Netlist}
use Rattle.chip.specs.Inner.Tables.{sized}
use Rattle.chip.specs.Got.{Got, got}
use Rattle.chip.specs.Refusals.{Opens}
use Rattle.structure.specs.Inner.Shape.{Ready}
use Rattle.opening.specs.declared.Chip.{Chip}

-- the netlist that the tables hold
abbrev pub netlist_of : Chip → Netlist
netlist_of t = sized t.sizes t.kinds t.counts t.nets

-- the chip is open: its tables are those of a chip that is ready
pub record IsOpen (t : Chip) : Type 0 where
  pub ready : Ready (netlist_of t) t.sizes.pins t.shape t.firsts t.order t.branches t.block t.reached

-- the file opens as the netlist of the chip, which is open, or is refused
abbrev pub OpenIs : List ℕ → Got Chip → Type 0
OpenIs file r = MatchResult r (λ t. Opens file (got (netlist_of t)) × IsOpen t) (λ e. Opens file (Err e))
