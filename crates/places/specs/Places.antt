-- The faults of all cells but pad buffers in the chunks from q on, at the outputs of a group g.
use Rattle.std.specs.Prelude.{ℕ, ◌+◌, ◌*◌, ◌<◌, ◌≢◌, ◌≡◌, Bool, false, List, length, get_or}
use Rattle.chip.specs.Inner.Tables.{tabled}
use Rattle.chip.specs.Pads.{pad_buffer}
use Rattle.homes.specs.Homes.{number_of}
use Rattle.stages.specs.Stage.{Covers}
use Rattle.known.specs.Setting.{Setting, Shows, Advance, Long}

abbrev pub fault_of : ℕ → ℕ → List ℕ → List ℕ → ℕ → ℕ → ℕ
fault_of i c firsts order t e = number_of e (i + get_or order t 0) (i + c + get_or firsts (get_or order t 0) 0)

-- The faults of the first n places are taken on over the chunks. groups has for each place that is tried the outputs left to its faults, or more, and 0 for a place that is passed over.
pub record PlacesDone (n i c q g : ℕ) (kinds counts firsts src order reach outs goods left best pat groups left' best' pat' groups' : List ℕ) : Type 0 where
  pub long : Long left' best' pat'
  pub long_groups : length groups' ≡ 1024
  pub covers : (t : ℕ) → t < c → Covers (i + get_or order t 0) (i + c + get_or firsts (get_or order t 0) 0) (get_or counts (get_or order t 0) 0) left (get_or groups t 0) → Covers (i + get_or order t 0) (i + c + get_or firsts (get_or order t 0) 0) (get_or counts (get_or order t 0) 0) left' (get_or groups' t 0)
  pub idle : (t : ℕ) → t < c → get_or groups t 0 ≡ 0 → get_or groups' t 0 ≡ 0
  -- no other entry changed
  pub others : (x : ℕ) → ((t e : ℕ) → t < n → get_or groups t 0 ≢ 0 → e < 2 * get_or counts (get_or order t 0) 0 + 2 → x ≢ fault_of i c firsts order t e)
      → (get_or left' x 0 ≡ get_or left x 0) × (get_or best' x 0 ≡ get_or best x 0) × (get_or pat' x 0 ≡ get_or pat x 0)
  pub advance : (o : ℕ) (nets cone : List ℕ) (low : ℕ → ℕ) (rel : ℕ → ℕ → Bool) → Setting i c o kinds counts nets firsts order cone reach src outs low rel g q goods
      → (t e : ℕ) → t < n → pad_buffer (tabled i c o kinds counts nets) (get_or order t 0) ≡ false → Covers (i + get_or order t 0) (i + c + get_or firsts (get_or order t 0) 0) (get_or counts (get_or order t 0) 0) left (get_or groups t 0) → e < 2 * get_or counts (get_or order t 0) 0 + 2
      → Advance (Shows i c o kinds counts nets low rel (fault_of i c firsts order t e)) g q
      (get_or left (fault_of i c firsts order t e) 0) (get_or best (fault_of i c firsts order t e) 0) (get_or pat (fault_of i c firsts order t e) 0)
      (get_or left' (fault_of i c firsts order t e) 0) (get_or best' (fault_of i c firsts order t e) 0) (get_or pat' (fault_of i c firsts order t e) 0)

-- the same of one place
pub record PlaceDone (p i c q g : ℕ) (kinds counts firsts src order reach outs goods left best pat groups left' best' pat' groups' : List ℕ) : Type 0 where
  pub long : Long left' best' pat'
  pub long_groups : length groups' ≡ 1024
  pub covers : Covers (i + get_or order p 0) (i + c + get_or firsts (get_or order p 0) 0) (get_or counts (get_or order p 0) 0) left (get_or groups p 0) → Covers (i + get_or order p 0) (i + c + get_or firsts (get_or order p 0) 0) (get_or counts (get_or order p 0) 0) left' (get_or groups' p 0)
  pub idle : get_or groups p 0 ≡ 0 → get_or groups' p 0 ≡ 0
  pub groups_others : (t : ℕ) → t ≢ p → get_or groups' t 0 ≡ get_or groups t 0
  pub others : (x : ℕ) → (get_or groups p 0 ≢ 0 → (e : ℕ) → e < 2 * get_or counts (get_or order p 0) 0 + 2 → x ≢ fault_of i c firsts order p e)
      → (get_or left' x 0 ≡ get_or left x 0) × (get_or best' x 0 ≡ get_or best x 0) × (get_or pat' x 0 ≡ get_or pat x 0)
  pub advance : (o : ℕ) (nets cone : List ℕ) (low : ℕ → ℕ) (rel : ℕ → ℕ → Bool) → Setting i c o kinds counts nets firsts order cone reach src outs low rel g q goods
      → (e : ℕ) → pad_buffer (tabled i c o kinds counts nets) (get_or order p 0) ≡ false → Covers (i + get_or order p 0) (i + c + get_or firsts (get_or order p 0) 0) (get_or counts (get_or order p 0) 0) left (get_or groups p 0) → e < 2 * get_or counts (get_or order p 0) 0 + 2
      → Advance (Shows i c o kinds counts nets low rel (fault_of i c firsts order p e)) g q
      (get_or left (fault_of i c firsts order p e) 0) (get_or best (fault_of i c firsts order p e) 0) (get_or pat (fault_of i c firsts order p e) 0)
      (get_or left' (fault_of i c firsts order p e) 0) (get_or best' (fault_of i c firsts order p e) 0) (get_or pat' (fault_of i c firsts order p e) 0)
