-- Masks, widths and wide outputs say where each fault is looked for, and what `try_faults` knows at the end is then the answer.
use mathlib.Core.Path.{refl}
use Rattle.opening.specs.Open.{netlist_of}
use Rattle.walk.proofs.Walking.{ready_few}
use Rattle.verdicts.proofs.Judging.{sought, judged}
use Rattle.verdicts.proofs.judge.Goals as goal

pub all_widths-requires : goal.all_widths-requires
all_widths-requires c = let R = c.requires.opened.0.ready in (R.limits.few_outputs, ready_few R, c.requires.sites_len.2)

pub try_faults-requires-clause-sought : goal.try_faults-requires-clause-sought
try_faults-requires-clause-sought c =
    let R = c.requires.opened.0.ready in
    let L = c.requires.fresh.0 in (
      record { long_left = c.start.ensures.long; long_best = L.long_best; long_pat = L.long_pat },
      sought _ _ _ _ _ _ _ _ _ _ _ _ _ _ _ R.pins (c.site_masks.ensures (netlist_of c.args.opened.now) R.pins refl (λ p. refl) c.reach_masks.ensures) c.all_widths.ensures c.wide_outputs-wides.ensures c.start.ensures _ R.limits c.requires.fresh.1,
    )

pub returns : goal.returns
returns c =
    let R = c.requires.opened.0.ready in
    judged _ _ _ _ _ _ _ _ _ _ _ _ _ _ _ R.pins (c.site_masks.ensures (netlist_of c.args.opened.now) R.pins refl (λ p. refl) c.reach_masks.ensures) c.all_widths.ensures c.wide_outputs-wides.ensures c.start.ensures _ _ _ c.requires.from_le_to.1 c.try_faults.ensures
