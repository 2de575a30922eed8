-- The words that the flip-flops take are worked out before one is stored, so all are those of the clock that ends.
use mathlib.Core.Path.{◌∙◌}
use lib.ListN.{get_or}
use Rattle.words.specs.Lanes.{wired}
use Rattle.running.specs.Clock.{cell_word}
use Rattle.running.proofs.Words.{stored_same}
use Rattle.running.proofs.advance.Goals as goal

pub returns : goal.returns
returns c =
    let a = c.args in
    let w = wired a.kinds.now a.firsts.now a.counts.now a.sources.now a.i in
    c.store_words.ensures ∙ stored_same a.i (λ s. get_or a.flops.now s 0) _ (λ s. cell_word w a.slots.now (get_or a.flops.now s 0)) a.slots.now a.n (λ s l. c.next_words.ensures a.i s l)
