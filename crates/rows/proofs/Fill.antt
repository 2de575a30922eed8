-- Entries of a table filled one after the other.
use Prim.Native.Nat.{ℕ, ◌+◌, ◌*◌, ◌≤◌, ◌<◌}
use mathlib.Core.Path.{◌≡◌, ap, ◌∙◌}
use mathlib.Core.List.{List}
use native.Mathlib.Omega.{arith}
use native.Mathlib.Nat.{add-zero}
use mathlib.Core.Bool.{true}
use Rattle.chip.specs.Netlist.{takes}
use Rattle.chip.proofs.Basics.{some_pin}
use lib.ListN.{length, get_or}
use lib.Bits.{bit_or, bit_xor, or_add_and, xor_add_and, xor_zero_r, and_le_l, and_le_r}
use borrow.Author.Count.{below_more}
use Rattle.rows.specs.Rows.{Filled, Pins}

-- ---- words that do not differ

or_none : (x y : ℕ) → bit_or x y ≡ 0 → (x ≡ 0) × (y ≡ 0)
or_none x y e = (omega (arith, or_add_and x y, and_le_l x y, and_le_r x y), omega (arith, or_add_and x y, and_le_l x y, and_le_r x y))

xor_none : (a b : ℕ) → bit_xor a b ≡ 0 → a ≡ b
xor_none a b e = omega (arith, xor_add_and a b, and_le_l a b, and_le_r a b)

pub same_more : (acc words : List ℕ) (k x : ℕ) → (x ≡ 0 → (i : ℕ) → i < k → get_or acc i 0 ≡ get_or words i 0)
    → bit_or x (bit_xor (get_or acc k 0) (get_or words k 0)) ≡ 0 → (i : ℕ) → i < k + 1 → get_or acc i 0 ≡ get_or words i 0
same_more acc words k x before e =
    let (a, b) = or_none x (bit_xor (get_or acc k 0) (get_or words k 0)) e in
    below_more (λ i. get_or acc i 0 ≡ get_or words i 0) k (before a) (xor_none (get_or acc k 0) (get_or words k 0) b)

-- ---- words on pins

-- a word of which no bit is turned
pub unturned : (w : ℕ) → bit_xor w 0 ≡ w
unturned = xor_zero_r

pub row_at : (n : ℕ) (word : ℕ → ℕ) (a m : List ℕ) → Filled 0 n word a m → (k : ℕ) → k < n → get_or m k 0 ≡ word k
row_at n word a m F k l = let e : k ≡ 0 + k = omega arith in ap (λ x. get_or m x 0) e ∙ F.done k l

pub fill_same : (b n : ℕ) (word word' : ℕ → ℕ) (a m : List ℕ) → Filled b n word a m → ((k : ℕ) → k < n → word k ≡ word' k) → Filled b n word' a m
fill_same b n word word' a m F h = record { long = F.long; done = λ k l. F.done k l ∙ h k l; below = F.below; above = F.above }

-- a cell has a first pin, and the slot that it looks at is there
pub first_row : (kind a n size : ℕ) (src : List ℕ) → takes kind n ≡ true → Pins src size a n → (a < length src) × (16 * get_or src a 0 + 16 ≤ size)
first_row kind a n size src t w = let some = some_pin kind n t in (omega (arith, w.pins), rw add-zero at (w.slots 0 some))
