-- Tables that are made of zeros have their lengths, and no mark.
use Prim.Native.Nat.{ℕ, zero, suc}
use mathlib.Core.Path.{◌≡◌, refl}
use lib.ListN.{get_or, replicate, length-replicate}
use Rattle.copies.proofs.Copies.none.Goals as goal

all_zero : (n l : ℕ) → ◌≡◌ {A = ℕ} (get_or (replicate n 0) l 0) 0
all_zero zero l = refl
all_zero (suc n) zero = refl
all_zero (suc n) (suc l) = all_zero n l

pub returns : goal.returns
returns c =
    record { lowest_long = length-replicate {A = ℕ} 64 0; marks_long = length-replicate {A = ℕ} 65536 0; numbers_long = length-replicate {A = ℕ} 65536 0; unmarked = all_zero 65536 }
