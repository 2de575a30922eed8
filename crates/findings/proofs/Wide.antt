-- A fault that no wide output stands before.
use Prim.Native.Nat.{ℕ, ◌^◌, ◌≤◌, ◌<◌}
use mathlib.Core.Path.{◌≡◌, refl}
use mathlib.Core.Bool.{Bool, true, false}
use mathlib.Core.List.{List}
use native.Mathlib.Omega.{arith}
use lib.Bits.{bit_and, and_le_r}
use Rattle.chip.specs.Search.{digit}
use Rattle.words.proofs.Bits.{word_zero}
use Rattle.rows.proofs.Bits.{split}
use Rattle.walk.specs.Walk.{TooWide}
use Rattle.outputs.specs.Sites.{Widths, WideWord}

-- a word without a wide output has none in common with that of the wide ones
pub narrow_word : (o b outs wides y : ℕ) (reached widths : List ℕ) → wides < 2 ^ 64 → Widths o b reached widths → WideWord o widths wides → TooWide o b outs reached y → o ≤ y → bit_and outs wides ≡ 0
narrow_word o b outs wides y reached widths l W X T h = word_zero (bit_and outs wides) (omega (arith, and_le_r outs wides)) (λ z zl. dark z (digit z (bit_and outs wides)) refl)
  where
    dark : (z : ℕ) (t : Bool) → digit z (bit_and outs wides) ≡ t → digit z (bit_and outs wides) ≡ false
    dark z true d = let s = split outs wides z d in let x = X.wide z s.1 in absurd (omega (arith, T.none_below z (omega arith) s.0, x.1, W.at z x.0))
    dark z false d = d
