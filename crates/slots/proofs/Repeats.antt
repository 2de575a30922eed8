-- The patterns of an output with w variables repeat after 2 ^ w.
use Prim.Native.Nat.{ℕ, zero, suc, ◌+◌, ◌/◌, ◌%◌, ◌^◌, ◌<◌}
use mathlib.Core.Path.{◌≡◌, refl}
use mathlib.Core.Bool.{Bool, true, false, ◌&&◌}
use native.Mathlib.Omega.{arith}
use Rattle.chip.specs.Netlist.{Netlist}
use Rattle.chip.specs.Class.{Blocks, tally}
use Rattle.chip.specs.Transformed.{transformed}
use Rattle.chip.specs.Faults.{Lines, transformed_lines}
use Rattle.chip.specs.Search.{digit, width, pattern, Tried}
use Rattle.chip.proofs.Blocks.{tally_past}
use Rattle.chip.proofs.Runs.{shown_same}

digit_repeats : (i w m : ℕ) → i < w → digit i (m + 2 ^ w) ≡ digit i m
digit_repeats i zero m l = absurd (omega arith)
digit_repeats zero (suc w) m l = let e : (m + 2 ^ suc w) % 2 ≡ m % 2 = omega arith in rw e refl
digit_repeats (suc i) (suc w) m l = let e : (m + 2 ^ suc w) / 2 ≡ m / 2 + 2 ^ w = omega arith in rw e (digit_repeats i w (m / 2) (omega arith))

pub tried_repeats : (N : Netlist) (B : Blocks) (f : Lines) (rel : ℕ → ℕ → Bool) (z m : ℕ) → Tried N B f rel z (m + 2 ^ width B rel z) → Tried N B f rel z m
tried_repeats N B f rel z m = shown_same (transformed N B) (transformed_lines N B f) (λ _. pattern rel z (m + 2 ^ width B rel z)) (λ _. pattern rel z m) z 0 (λ t b h. go b h (rel z b) refl)
  where
    go : (b : ℕ) → b < B.count → (r : Bool) → rel z b ≡ r → (r && digit (tally (rel z) b) (m + 2 ^ width B rel z)) ≡ (r && digit (tally (rel z) b) m)
    go b h true e = digit_repeats (tally (rel z) b) (width B rel z) m (tally_past (rel z) b B.count h e)
    go b h false e = refl
