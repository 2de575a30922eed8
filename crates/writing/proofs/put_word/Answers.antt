-- The number's two bytes are copied to the place, which moves by two.
use Prim.Native.Nat.{◌+◌, ◌-◌, ◌/◌, ◌%◌}
use mathlib.Core.Path.{◌≡◌, ◌∙◌}
use native.Mathlib.Omega.{arith}
use Rattle.chip.specs.File.{word}
use Rattle.writing.proofs.Puts.{put_part}
use Rattle.writing.proofs.put_word.Goals as goal

pub returns : goal.returns
returns c =
    let a = c.args in
    let e : a.at + 2 - a.at ≡ 2 = omega arith in
    let q : a.x / 256 % 256 ≡ a.x / 256 = omega arith in
    let b : c.copy_from_slice.new.self ≡ word a.x = rw q at (c.copy_from_slice.ensures.after ∙ c.to_le_bytes.ensures) in
    rw (e, b) (put_part (word a.x) a.at a.out.now c.requires)
