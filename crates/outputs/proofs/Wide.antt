-- The lowest output that is in the word and wide is the lowest common bit of the two words.
use Prim.Native.Nat.{ℕ, ◌^◌, ◌≤◌, ◌<◌}
use mathlib.Core.Path.{◌≡◌, sym, ap, ◌∙◌}
use mathlib.Core.Logic.{◌≢◌}
use mathlib.Core.Bool.{true, false, false≢true}
use mathlib.Core.List.{List}
use native.Mathlib.Omega.{arith}
use native.Mathlib.Decide.{dec_lt}
use lib.Bits.{bit_and, and_le_l}
use Rattle.chip.specs.Search.{digit}
use Rattle.words.specs.Bits.{LowestBit}
use Rattle.words.proofs.Bits.{digit_zero, word_zero}
use Rattle.walk.specs.Walk.{out_of, width_of, TooWide}
use Rattle.rows.proofs.Bits.{split, meet}
use Rattle.outputs.specs.Sites.{Widths, WideWord}

module _ (o b outs wides : ℕ) (reached widths : List ℕ) (W : Widths o b reached widths) (D : WideWord o widths wides) where
  -- an output that is not in both words is not wide
  pub not_wide : (y : ℕ) → y < o → out_of outs y ≡ true → digit y (bit_and outs wides) ≡ false → width_of b reached y ≤ 16
  not_wide y l d e = elim (dec_lt 16 (width_of b reached y)) [
    | yes h ↦ absurd (false≢true (sym e ∙ meet outs wides y d (D.all y l (omega (arith, W.at y l)))))
    | no g ↦ omega arith
  ]

  pub wide_in_none : bit_and outs wides ≡ 0 → TooWide o b outs reached o
  wide_in_none e =
      record { upto = omega arith; in_word = λ l. absurd (omega arith); wide = λ l. absurd (omega arith); none_below = λ y l d. not_wide y l d (ap (digit y) e ∙ digit_zero y) }

  pub wide_first : (r : ℕ) → outs < 2 ^ 64 → bit_and outs wides ≢ 0 → LowestBit (bit_and outs wides) r → TooWide o b outs reached r
  wide_first r l g L =
      let low : r < 64 = elim (dec_lt r 64) [
        | yes h ↦ h
        | no n ↦ absurd (g (word_zero (bit_and outs wides) (omega (arith, and_le_l outs wides)) (λ k h. L.zeros k (omega arith))))
      ] in
      let both = split outs wides r (L.one low) in
      let it-is = D.wide r both.1 in
      record {
        upto = omega (arith, it-is.0);
        in_word = λ h. both.0;
        wide = λ h. omega (arith, it-is.1, W.at r h);
        none_below = λ y h d. not_wide y (omega (arith, it-is.0)) d (L.zeros y h);
      }
