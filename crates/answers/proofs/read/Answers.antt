-- The tables of a file that is taken hold as many entries as its sizes say.
use mathlib.Core.Path.{sym, ◌∙◌}
use Rattle.netlist.proofs.Use.{holds}
use Rattle.answers.proofs.read.Goals as goal

pub tables-requires : goal.tables-requires
tables-requires c =
    let (file, e) = c.requires in
    (file, holds _ _ (sym e ∙ c.in-Ok.is))
