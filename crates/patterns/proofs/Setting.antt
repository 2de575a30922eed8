-- The variables set word by word, and a chunk once they are.
use Prim.Native.Nat.{ℕ, ◌+◌, ◌-◌, ◌*◌, ◌^◌, ◌≤◌, ◌<◌}
use mathlib.Core.Path.{◌≡◌, ◌∙◌}
use mathlib.Core.List.{List}
use native.Mathlib.Omega.{arith}
use Rattle.std.proofs.Common.{rules}
use Rattle.std.proofs.lemmas.List.{places}
use borrow.Rule.Slice.PartMut.{mid_of, put_mid}
use lib.ListN.{length, get_or, replicate, get_or-replicate}
use Rattle.rows.specs.Rows.{Filled}
use Rattle.bridge.specs.Chunk.{Chunk}
use Rattle.patterns.specs.Variables.{Variables}

-- a part of a table filled with one word
pub part_filled : (a n w : ℕ) (xs ys : List ℕ) → a + n ≤ length xs → ys ≡ replicate (length (mid_of a n xs)) w → Filled a n (λ _. w) xs (put_mid a n xs ys)
part_filled a n w xs ys h e =
    record {
      long = search (rules, places);
      done = λ k l. search (rules, places, get_or-replicate);
      below = λ x l. search (rules, places);
      above = λ x l. search (rules, places);
    }

-- with the constants in their slots this is a chunk
pub chunk_of : (w q : ℕ) (a r : List ℕ) → w ≤ 16 → ((k : ℕ) → k < 16 → get_or a (16 * 1040 + k) 0 ≡ 0) → ((k : ℕ) → k < 16 → get_or a (16 * 1041 + k) 0 ≡ 2 ^ 64 - 1) → Variables w q a r → Chunk w q r
chunk_of w q a r h z o F =
    record {
      bits = λ s k l b c d. F.bits s k l b c d;
      zeros = λ k b. F.others (16 * 1040 + k) (omega arith) ∙ z k b;
      ones = λ k b. F.others (16 * 1041 + k) (omega arith) ∙ o k b;
    }
