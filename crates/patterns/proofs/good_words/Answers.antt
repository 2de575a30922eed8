-- The variables are set, the cells worked out over them, and the copy makes both tables agree where they did not already.
use Rattle.patterns.proofs.Words.{good_words}
use Rattle.patterns.proofs.good_words.Goals as goal

pub returns : goal.returns
returns c =
    let (_, _, chip) = c.requires.by_index in
    let k = c.requires.width_bound in
    good_words _ _ _ _ _ _ _ _ _ _ _ _ _ _ _ _ _ k.0 chip k.3 k.4
    c.set_variables.ensures
    c.good_cells.ensures c.copy_words.ensures
