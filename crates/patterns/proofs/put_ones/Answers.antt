-- The 16 words from the slot on are filled, and the others stay where they were.
use native.Mathlib.Omega.{arith}
use Rattle.patterns.proofs.Setting.{part_filled}
use Rattle.patterns.proofs.put_ones.Goals as goal

pub returns : goal.returns
returns c = part_filled 16656 16 _ _ _ (omega (arith, c.requires)) (c.fill.ensures.after (λ y e. e))
