-- The faults that are runs of their own, in the chunks from q on, at the outputs of a group g.
use Rattle.std.specs.Prelude.{ℕ, ◌+◌, ◌-◌, ◌*◌, ◌/◌, ◌%◌, ◌≤◌, ◌<◌, ◌≡◌, ◌⊎◌, ◌≢◌, Bool, true, List, length, get_or}
use Rattle.std.specs.Int.Bits.{bit_and}
use Rattle.chip.specs.Netlist.{all_pins}
use Rattle.chip.specs.Inner.Tables.{tabled}
use Rattle.chip.specs.Search.{digit}
use Rattle.events.specs.Events.{marked, Live, Obeys}
use Rattle.homes.specs.Homes.{Looked}
use Rattle.stages.specs.Stage.{Variables}
use Rattle.known.specs.Setting.{Shows, Setting, Advance, GoodRun, lane_of_run}

-- the faults from a up to b
abbrev pub Between : ℕ → ℕ → ℕ → Type 0
Between a b f = (a ≤ f) × (f < b)

-- ---- stuck pins of outputs

-- fault f, whose run has output z at slot 1040 + v, looked for at the outputs of g
pub record OutLooked (f z v q g : ℕ) (outs goods left best pat left' best' pat' : List ℕ) : Type 0 where
  pub ends : List ℕ
  pub here : get_or ends z 0 ≡ 1040 + v
  pub looked : Looked f q (bit_and (get_or left f 0) g) (λ y. lane_of_run (get_or outs y 0) (get_or ends y 0) goods goods) left best pat left' best' pat'

-- fault f, a stuck pin of an output, goes on in every chip with these words, if it is left to its output only
pub record OutStep (i c o n q g : ℕ) (outs goods : List ℕ) (f left best pat left' best' pat' : ℕ) : Type 0 where
  pub advance : (kinds counts nets firsts order cone reach src : List ℕ) (low : ℕ → ℕ) (rel : ℕ → ℕ → Bool)
      → Setting i c o kinds counts nets firsts order cone reach src outs low rel g q goods → GoodRun c q g kinds counts firsts src order reach outs goods
      → n ≡ all_pins (tabled i c o kinds counts nets) → ((y : ℕ) → digit y left ≡ true → y ≡ f / 2 - (i + c + n - o))
      → Advance (Shows i c o kinds counts nets low rel f) g q left best pat left' best' pat'

-- ---- stuck inputs: variable k stands for block list k, and input has the input of each block

-- variable k, if it is of input x, holds new words; no other slot changed
pub record VarPut (k x : ℕ) (list input : List ℕ) (word : ℕ → ℕ → ℕ) (vals vals' : List ℕ) : Type 0 where
  pub long : length vals' ≡ length vals
  pub here : get_or input (get_or list k 0) 0 ≡ x → (j : ℕ) → j < 16 → get_or vals' (16 * k + j) 0 ≡ word k j
  pub others : (y : ℕ) → (get_or input (get_or list k 0) 0 ≡ x → y / 16 ≢ k) → get_or vals' y 0 ≡ get_or vals y 0

-- the same of the first m variables
pub record VarsPut (m x : ℕ) (list input : List ℕ) (word : ℕ → ℕ → ℕ) (vals vals' : List ℕ) : Type 0 where
  pub long : length vals' ≡ length vals
  pub here : (k : ℕ) → k < m → get_or input (get_or list k 0) 0 ≡ x → (j : ℕ) → j < 16 → get_or vals' (16 * k + j) 0 ≡ word k j
  pub others : (y : ℕ) → ((k : ℕ) → k < m → get_or input (get_or list k 0) 0 ≡ x → y / 16 ≢ k) → get_or vals' y 0 ≡ get_or vals y 0

-- the readers of variable k, if it is of input x, are marked where they reach an output of u, and no other place but readers is marked anew
pub record VarMarked (k x u : ℕ) (list input heads readers reach marks marks' : List ℕ) : Type 0 where
  pub long : length marks' ≡ 16
  pub kept : (t : ℕ) → marked marks t ≡ true → marked marks' t ≡ true
  pub put : get_or input (get_or list k 0) 0 ≡ x → (r : ℕ) → get_or heads (get_or list k 0) 0 ≤ r → r < get_or heads (get_or list k 0 + 1) 0 → Live reach u (get_or readers r 0) → marked marks' (get_or readers r 0) ≡ true
  pub only : (t : ℕ) → marked marks' t ≡ true → (marked marks t ≡ true) ⊎ ((r : ℕ) × (r < length readers) × (t ≡ get_or readers r 0))

pub record VarsMarked (m x u : ℕ) (list input heads readers reach marks marks' : List ℕ) : Type 0 where
  pub long : length marks' ≡ 16
  pub put : (k : ℕ) → k < m → get_or input (get_or list k 0) 0 ≡ x → (r : ℕ) → get_or heads (get_or list k 0) 0 ≤ r → r < get_or heads (get_or list k 0 + 1) 0 → Live reach u (get_or readers r 0) → marked marks' (get_or readers r 0) ≡ true
  pub only : (t : ℕ) → marked marks' t ≡ true → (marked marks t ≡ true) ⊎ ((r : ℕ) × (r < length readers) × (t ≡ get_or readers r 0))

-- the run of fault f, a stuck input: its variables hold the stuck value, and all places that reach an output of u what their cells then show
pub record InputRan (c w f u : ℕ) (kinds counts firsts src order reach list input goods vals changed : List ℕ) : Type 0 where
  pub long : length vals ≡ length goods
  pub long_changed : length changed ≡ 16
  pub bounded : (t : ℕ) → marked changed t ≡ true → t < c
  pub obeys : (t : ℕ) → t < c → Live reach u t → Obeys kinds counts firsts src order vals t
  pub stuck : (k j : ℕ) → k < w → j < 16 → get_or input (get_or list k 0) 0 ≡ f / 2 → get_or vals (16 * k + j) 0 ≡ get_or goods (16 * (1040 + f % 2) + j) 0
  pub free : (k j : ℕ) → k < w → j < 16 → get_or input (get_or list k 0) 0 ≢ f / 2 → get_or vals (16 * k + j) 0 ≡ get_or goods (16 * k + j) 0
  pub agree : (y : ℕ) → ((t : ℕ) → t < c → marked changed t ≡ true → y / 16 ≢ 16 + get_or order t 0) → ((k : ℕ) → k < w → get_or input (get_or list k 0) 0 ≡ f / 2 → y / 16 ≢ k) → get_or vals y 0 ≡ get_or goods y 0

-- fault f looked for at the outputs of u
pub record InputTried (f c w q u : ℕ) (kinds counts firsts src order reach outs list input goods left best pat left' best' pat' : List ℕ) : Type 0 where
  pub vals : List ℕ
  pub changed : List ℕ
  pub ran : InputRan c w f u kinds counts firsts src order reach list input goods vals changed
  pub looked : Looked f q u (λ z. lane_of_run (get_or outs z 0) (get_or outs z 0) goods vals) left best pat left' best' pat'

-- fault f, a stuck input, goes on in every chip with these tables
pub record InputStep (i c w q g : ℕ) (kinds counts firsts src order reach outs list input goods : List ℕ) (f left best pat left' best' pat' : ℕ) : Type 0 where
  pub advance : (o : ℕ) (nets cone : List ℕ) (low : ℕ → ℕ) (rel : ℕ → ℕ → Bool) → Setting i c o kinds counts nets firsts order cone reach src outs low rel g q goods
      → Variables (tabled i c o kinds counts nets) low rel g w list input → Advance (Shows i c o kinds counts nets low rel f) g q left best pat left' best' pat'
