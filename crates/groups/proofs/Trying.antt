-- A group of outputs over the chunks of its patterns.
use Prim.Native.Nat.{ℕ, ◌+◌, ◌-◌, ◌*◌, ◌/◌, ◌^◌, ◌≤◌, ◌<◌}
use mathlib.Core.Path.{◌≡◌, sym, ap, ◌∙◌}
use mathlib.Core.Logic.{inl, inr}
use mathlib.Core.Bool.{Bool, false≢true}
use mathlib.Core.List.{List}
use lib.ListN.{get_or}
use lib.Bits.{bit_and}
use Rattle.chip.specs.Search.{digit}
use Rattle.words.proofs.Bits.{digit_zero}
use Rattle.known.specs.Known.{Known}
use Rattle.known.specs.Setting.{Shows, Long}
use Rattle.rows.proofs.Bits.{split, meet}
use Rattle.stages.specs.Stage.{Stage, OutsOnly}
use Rattle.outputs.specs.Groups.{Joined}
use Rattle.groups.specs.Chunks.{ChunkTried, GroupTried}
use Rattle.groups.proofs.Groups.{chunk_more}
use Rattle.groups.proofs.Chunks.{stage_fewer}

module _ (i c o n w g : ℕ) (kinds counts firsts nets order branches sources reach heads readers src outs list input : List ℕ) (left₀ best₀ pat₀ : List ℕ) where
  -- what is known of all faults once the patterns below 64 q are tried
  abbrev pub AllKnown : ℕ → List ℕ → List ℕ → List ℕ → Type 0
  AllKnown q left best pat = (cone : List ℕ) (low : ℕ → ℕ) (rel : ℕ → ℕ → Bool) → Stage i c o n w g kinds counts firsts nets order branches sources cone reach heads readers src outs list input low rel
      → (f : ℕ) → f < 2 * (i + c + n) → Known (Shows i c o kinds counts nets low rel f) g (64 * q) (get_or left₀ f 0) (get_or best₀ f 0) (get_or pat₀ f 0) (get_or left f 0) (get_or best f 0) (get_or pat f 0)

  pub group_step : (q x : ℕ) (left best pat left' best' pat' : List ℕ) → Joined (2 * (i + c + n)) left x
      → ChunkTried i c o n w q (bit_and x g) kinds counts firsts nets order branches sources reach heads readers src outs list input left best pat left' best' pat'
      → AllKnown q left best pat → AllKnown (q + 16) left' best' pat'
  group_step q x left best pat left' best' pat' J T K cone low rel S f l =
      chunk_more (Shows i c o kinds counts nets low rel f) g (bit_and x g) q (get_or left₀ f 0) (get_or best₀ f 0) (get_or pat₀ f 0) (get_or left f 0) (get_or best f 0) (get_or pat f 0) (get_or left' f 0) (get_or best' f 0) (get_or pat' f 0)
      (λ z d. (split x g z d).1) (λ z d e. meet x g z (J.holds f z l d) e) (K cone low rel S f l)
      (T.advance cone low rel (stage_fewer i c o n w g (bit_and x g) kinds counts firsts nets order branches sources cone reach heads readers src outs list input low rel (λ z d. (split x g z d).1) S) f l)

  -- a fault is never left to more outputs
  outs_kept : (q : ℕ) (left best pat : List ℕ) (cone : List ℕ) (low : ℕ → ℕ) (rel : ℕ → ℕ → Bool)
      → Stage i c o n w g kinds counts firsts nets order branches sources cone reach heads readers src outs list input low rel → AllKnown q left best pat → OutsOnly i c o n left₀ → OutsOnly i c o n left
  outs_kept q left best pat cone low rel S K only f y h l d = go (K cone low rel S f l)
    where
      go : Known (Shows i c o kinds counts nets low rel f) g (64 * q) (get_or left₀ f 0) (get_or best₀ f 0) (get_or pat₀ f 0) (get_or left f 0) (get_or best f 0) (get_or pat f 0) → y ≡ f / 2 - (i + c + n - o)
      go (inl O) = only f y h l (ap (digit y) (sym O.left_same) ∙ d)
      go (inr F) = only f y h l (F.left_in y d).0

  pub outs_step : (q x : ℕ) (left best pat left' best' pat' : List ℕ) → Joined (2 * (i + c + n)) left x
      → ChunkTried i c o n w q (bit_and x g) kinds counts firsts nets order branches sources reach heads readers src outs list input left best pat left' best' pat'
      → AllKnown q left best pat → (cone : List ℕ) (low : ℕ → ℕ) (rel : ℕ → ℕ → Bool)
      → Stage i c o n w g kinds counts firsts nets order branches sources cone reach heads readers src outs list input low rel → OutsOnly i c o n left₀ → OutsOnly i c o n left'
  outs_step q x left best pat left' best' pat' J T K cone low rel S only =
      outs_kept (q + 16) left' best' pat' cone low rel S (group_step q x left best pat left' best' pat' J T K) only

  -- all patterns are tried, or no fault is open at an output of the group
  pub group_done : (q : ℕ) (left best pat : List ℕ) → Long left best pat → 2 ^ w ≤ 64 * q → AllKnown q left best pat
      → GroupTried i c o n w g kinds counts firsts nets order branches sources reach heads readers src outs list input left₀ best₀ pat₀ left best pat
  group_done q left best pat L e K = record { long = L; ended = λ cone low rel S f l. record { below = 64 * q; known = K cone low rel S f l; tried = λ z d h. e } }

  pub group_idle : (q x : ℕ) (left best pat : List ℕ) → Long left best pat → Joined (2 * (i + c + n)) left x → bit_and x g ≡ 0 → AllKnown q left best pat
      → GroupTried i c o n w g kinds counts firsts nets order branches sources reach heads readers src outs list input left₀ best₀ pat₀ left best pat
  group_idle q x left best pat L J e K = record {
    long = L;
    ended = λ cone low rel S f l. record {
      below = 64 * q;
      known = K cone low rel S f l;
      tried = λ z d h. absurd (false≢true (sym (digit_zero z) ∙ ap (digit z) (sym e) ∙ meet x g z (J.holds f z l d) h));
    };
  }
