-- The copied pins with pin q replaced are the slots of the changed cell, and `gate` works out its words from them.
use Rattle.homes.proofs.Lanes.{pin_words}
use native.Mathlib.Omega.{arith}
use Rattle.homes.proofs.pin_row.Goals as goal

pub returns : goal.returns
returns c =
    let a = c.args in
    let H = c.requires.3 in
    pin_words a.home.now.kind a.home.now.first a.home.now.count a.q a.slot a.src.now a.vals.now _ _ _ _ H.taken c.requires.0 (omega (arith, H.few)) c.copy_pins.ensures c.gate.ensures
