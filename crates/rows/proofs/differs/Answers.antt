-- While x is 0 the words passed are those of the slot, and x is 0 exactly if its upper bits and its lowest bit are.
use Prim.Native.Nat.{ℕ, ◌/◌, ◌%◌}
use mathlib.Core.Path.{◌≡◌, sym, ap, ◌∙◌}
use mathlib.Core.Bool.{false, not, false≢true}
use native.Mathlib.Decide.{ℕ_discrete}
use native.Mathlib.Omega.{arith}
use borrow.Author.Tests.{ne_eqb}
use lib.Dec.{eqb}
use lib.Bits.{bit_or, or_add_and, and_le_l, and_le_r}
use Rattle.rows.proofs.Fill.{same_more}
use Rattle.rows.proofs.differs.Goals as goal

zero_of : (x : ℕ) → not (eqb (bit_or (x / 2) (x % 2)) 0) ≡ false → x ≡ 0
zero_of x e = elim (ℕ_discrete (bit_or (x / 2) (x % 2)) 0) [
  | yes q ↦ omega (arith, or_add_and (x / 2) (x % 2), and_le_l (x / 2) (x % 2), and_le_r (x / 2) (x % 2))
  | no g ↦ absurd (false≢true (sym e ∙ ap not (ne_eqb (bit_or (x / 2) (x % 2)) 0 g)))
]

pub loop-k-preserved : goal.loop-k-preserved
loop-k-preserved c = same_more c.args.acc.now c.slot-words.result.now c.loop-k.k c.loop-k.x c.loop-k.invariant

pub returns : goal.returns
returns c = λ e k l. c.loop-k.invariant (zero_of _ e) k (omega arith) ∙ c.slot-words.ensures.words k l
