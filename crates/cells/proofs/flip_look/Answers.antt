-- The run leaves the slots of the flipped home for the look, and its changed bits tell all that must go back.
use Rattle.cells.proofs.Trying.{same_table, clear_blank}
use mathlib.Core.Path.{ap, ◌∙◌}
use lib.ListN.{length}
use Rattle.cells.proofs.flip_look.Goals as goal

pub flip_run-requires-clause-p_lt_c : goal.flip_run-requires-clause-p_lt_c
flip_run-requires-clause-p_lt_c c =
    let same = c.requires.place_lt_cells.4 in (c.requires.place_lt_cells.0, c.requires.place_lt_cells.2, ap length same ∙ c.requires.place_lt_cells.3, clear_blank, clear_blank)

pub returns-clause-vals_after : goal.returns-clause-vals_after
returns-clause-vals_after c =
    let f = c.flip_run.ensures.flip_ran in
    let same = c.requires.place_lt_cells.4 in
    let v = c.restore.ensures in same_table _ _ (v.long ∙ f.long ∙ ap length same) v.good
