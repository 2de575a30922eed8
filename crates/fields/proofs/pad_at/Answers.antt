-- A byte that is missing is refused, then a pad that is 0 or was used before.
use Rattle.chip.specs.Format.{pad_at}
use mathlib.Core.Path.{sym, ◌∙◌}
use borrow.Author.Tests.{eq-eqb, ne_eqb}
use lib.ListN.{take}
use Rattle.fields.proofs.Laws.{in_any}
use Rattle.fields.proofs.pad_at.Goals.{then-pad-eq0-via-then-pad-eq0, then-pad-eq0-via-else-pad-eq0+then-contains}
use Rattle.fields.proofs.pad_at.Goals as goal

pub returns-then-pad-eq0 : goal.returns-then-pad-eq0
unfolding pad_at
returns-then-pad-eq0 c =
    rw (c.at.ensures, sym c.byte_at.ensures ∙ c.in_ok-pad.was) (elim c.then-pad-eq0.branch [
      | then-pad-eq0-via-then-pad-eq0 w ↦ rw (eq-eqb _ _ w.if-pad-eq0.true)
      | then-pad-eq0-via-else-pad-eq0+then-contains w ↦
          rw (ne_eqb _ _ w.if-pad-eq0.false, in_any c.in_ok-pad.pad (take c.args.n c.args.pads.now) ∙ sym w.contains.ensures.value ∙ w.if-contains.true)
    ])

pub returns : goal.returns
unfolding pad_at
returns c =
    rw (
      sym c.byte_at.ensures ∙ c.in_ok-pad.was,
      ne_eqb _ _ c.if-pad-eq0.false,
      in_any c.in_ok-pad.pad (take c.args.n c.args.pads.now) ∙ sym c.contains.ensures.value ∙ c.if-contains.false,
    )
