-- The word of the outputs left to the faults of a cell: words joined by or lose no bit.
use Prim.Native.Nat.{ℕ, zero, suc, ◌+◌, ◌*◌, ◌-◌, ◌<◌, ◌≤◌}
use mathlib.Core.Path.{◌≡◌, sym, ap, ◌∙◌}
use mathlib.Core.Bool.{true}
use mathlib.Core.List.{List, [], ◌∷◌}
use native.Mathlib.Nat.{le_of_suc-le-suc}
use native.Mathlib.Omega.{arith}
use native.Mathlib.Decide.{dec_lt, ℕ_discrete}
use lib.ListN.{length, get_or, take, drop}
use lib.Bits.{bit_or}
use Rattle.std.specs.List.{fold}
use Rattle.std.proofs.lemmas.List.{get_or-take, get_or-drop, length-take, length-drop}
use Rattle.chip.specs.Search.{digit}
use Rattle.rows.proofs.Bits.{bit_l, bit_r}
use Rattle.homes.proofs.Looking.{number_low, number_high}
use Rattle.stages.specs.Stage.{Covers}

kept : (xs : List ℕ) (w z : ℕ) → digit z w ≡ true → digit z (fold bit_or w xs) ≡ true
kept [] w z d = d
kept (x ∷ xs) w z d = kept xs (bit_or w x) z (bit_l w x z d)

one_of : (xs : List ℕ) (w z i : ℕ) → i < length xs → digit z (get_or xs i 0) ≡ true → digit z (fold bit_or w xs) ≡ true
one_of [] w z i l d = absurd (omega arith)
one_of (x ∷ xs) w z zero l d = kept xs (bit_or w x) z (bit_r w x z d)
one_of (x ∷ xs) w z (suc i) l d = one_of xs (bit_or w x) z i (le_of_suc-le-suc l) d

-- the two faults of the net, and then the 2 * n of the pins, which stand side by side
pub covered : (net pin n m : ℕ) (left : List ℕ) → m ≡ 2 * n → 2 * pin + m ≤ length left
    → Covers net pin n left (fold bit_or (bit_or (get_or left (2 * net) 0) (get_or left (2 * net + 1) 0)) (take m (drop (2 * pin) left)))
covered net pin n m left e h = record {
  all = λ f z l d. elim (dec_lt f 2) [
    | yes b ↦ kept (take m (drop (2 * pin) left)) (bit_or (get_or left (2 * net) 0) (get_or left (2 * net + 1) 0)) z (elim (ℕ_discrete f 0) [
      | yes q ↦ bit_l (get_or left (2 * net) 0) (get_or left (2 * net + 1) 0) z (ap (λ x. digit z (get_or left x 0)) (omega (arith, number_low f net pin b)) ∙ d)
      | no q ↦ bit_r (get_or left (2 * net) 0) (get_or left (2 * net + 1) 0) z (ap (λ x. digit z (get_or left x 0)) (omega (arith, number_low f net pin b)) ∙ d)
    ])
    | no g ↦
        let i : f - 2 < m = omega arith in
        let at = get_or-take m (drop (2 * pin) left) (f - 2) 0 i ∙ get_or-drop (2 * pin) left (f - 2) 0 ∙ ap (λ x. get_or left x 0) (sym (number_high f net pin (omega arith))) in
        one_of (take m (drop (2 * pin) left)) _ z (f - 2) (simp (length-take, length-drop) (omega arith)) (ap (digit z) at ∙ d)
  ];
}
