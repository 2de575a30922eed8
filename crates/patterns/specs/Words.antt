-- The words of a chunk: the variables, the good words of the cells, and the constants.
use Rattle.std.specs.Prelude.{ℕ, ◌+◌, ◌-◌, ◌*◌, ◌^◌, ◌≤◌, ◌<◌, ◌≡◌, List, length, get_or}
use Rattle.events.specs.Events.{Good}
use Rattle.bridge.specs.Chunk.{Chunk}

-- the words of the variables and cells are those of some chunks, the others do not change
pub record Store (c : ℕ) (goods vals : List ℕ) : Type 0 where
  pub words : length goods ≡ 16672
  pub runs : length vals ≡ 16672
  pub zeros : (k : ℕ) → k < 16 → get_or goods (16 * 1040 + k) 0 ≡ 0
  pub ones : (k : ℕ) → k < 16 → get_or goods (16 * 1041 + k) 0 ≡ 2 ^ 64 - 1
  pub beyond : (x : ℕ) → 16 * (16 + c) ≤ x → get_or vals x 0 ≡ get_or goods x 0

-- the good words of the chunks from q on, for the outputs of u, stand in both tables
pub record GoodWords (c w q u : ℕ) (kinds counts firsts src order reach goods vals : List ℕ) : Type 0 where
  pub words : length goods ≡ 16672
  pub chunk : Chunk w q goods
  pub good : Good c u kinds counts firsts src order reach goods
  pub same : vals ≡ goods
