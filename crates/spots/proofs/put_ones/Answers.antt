-- After k bits a one stands at the place of each that is set, and no other place has changed.
use mathlib.Core.Path.{sym, ◌∙◌}
use native.Mathlib.Omega.{arith}
use Rattle.spots.proofs.Changing.{ones_yes, ones_no}
use Rattle.spots.proofs.put_ones.Goals as goal
use Rattle.spots.proofs.put_ones.Goals.{else-has_bit, then-has_bit}

pub loop-k-preserved : goal.loop-k-preserved
loop-k-preserved c =
    elim c.if-has_bit.branch [
      | then-has_bit w ↦ let y = sym c.has_bit.ensures ∙ w.if-has_bit.true in
          (rw w.play-is (ones_yes _ _ _ c.loop-k.k _ _ _ w.from.ensures (omega (arith, w.from.ensures, c.loop-k.invariant.long, c.requires.by_index c.loop-k.k y)) y c.loop-k.invariant))
      | else-has_bit w ↦ (rw w.play-is (ones_no _ _ _ c.loop-k.k _ _ (sym c.has_bit.ensures ∙ w.if-has_bit.false) c.loop-k.invariant))
    ]
