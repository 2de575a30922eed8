-- 'Refusal numbers': the guards that a call passes through, the opening of a file with which it begins, and the conditions of the refusals.
use Rattle.std.specs.Prelude.{ℕ, ◌*◌, ◌≤◌, ◌<◌, ◌≡◌, ◌⊎◌, Bool, true, List, ◌++◌, length, get_or, drop}
use Rattle.chip.specs.Netlist.{Netlist}
use Rattle.chip.specs.Got.{Got, refused, got}
use Rattle.chip.specs.Format.{Parsed, read_of, chip_of}
use Rattle.chip.specs.Class.{Reach, Feeds, Blocks, TwoDepths, Prepared}
use Rattle.chip.specs.Search.{Tables, width}
use Rattle.chip.specs.declared.Site.{Site}
use Rattle.chip.specs.declared.Reason.{Reason}

-- The guards. A condition says of which place it holds.

-- refuses at the place of which the condition holds; if it holds of none, goes on with the rest
pub data Step {A : Type 0} (When : ℕ → Type 0) (refuse : ℕ → A) (Rest : A → Type 0) : A → Type 0 where
  refuses : {p : ℕ} → When p → Step When refuse Rest (refuse p)
  goes_on : {a : A} → ((p : ℕ) → ¬ When p) → Rest a → Step When refuse Rest a

-- what holds of one place, if it holds
pub record At (place : ℕ) (Holds : Type 0) (p : ℕ) : Type 0 where
  pub there : p ≡ place
  pub holds : Holds

-- the lowest place of which something holds
pub record Least (Holds : ℕ → Type 0) (p : ℕ) : Type 0 where
  pub holds : Holds p
  pub none_below : (q : ℕ) → q < p → ¬ Holds q

-- the one answer that is left
abbrev pub Is : {A : Type 0} → A → A → Type 0
Is a b = b ≡ a

-- The opening of a file, with which every call begins.

-- a path from an input to output z has more than 255 flip-flops
pub record Deep (N : Netlist) (z : ℕ) : Type 0 where
  pub pin : ℕ
  pub depth : ℕ
  pub input : N.net pin < N.inputs
  pub reach : Reach N z pin depth
  pub over : 255 < depth

-- 9 at the lowest net that reaches itself (02, W2), and 10 at the lowest output that is too deep
abbrev pub When9 : Netlist → ℕ → Type 0
When9 N = Least (λ n. Feeds N n n)

abbrev pub When10 : Netlist → ℕ → Type 0
When10 N = Least (Deep N)

-- what a file opens as: a refusal of reading, 9, 10, or its netlist
pub data Opens (file : List ℕ) : Got Netlist → Type 0 where
  unread : {r : Reason} {p : ℕ} → read_of file ≡ refused r p → Opens file (refused r p)
  read : {x : Parsed} {a : Got Netlist} → read_of file ≡ got x → Step (When9 (chip_of x)) (refused Reason.Looped) (Step (When10 (chip_of x)) (refused Reason.TooDeep) (Is (got (chip_of x)))) a → Opens file a

-- a call on a file: what the file is refused by, or the call on the netlist that it opens as
pub data Start {A : Type 0} (refuse : Reason → ℕ → A) (Call : Netlist → A → Type 0) (file : List ℕ) : A → Type 0 where
  unopened : {r : Reason} {p : ℕ} → Opens file (refused r p) → Start refuse Call file (refuse r p)
  opened : {N : Netlist} {a : A} → Opens file (got N) → Call N a → Start refuse Call file a

-- a call on a netlist, with the depth, the blocks and the class that it has
pub data Knowing {A : Type 0} (N : Netlist) (Call : ℕ → (ℕ → ℕ) → ℕ → A → Type 0) : A → Type 0 where
  prepared : {d : ℕ} {low : ℕ → ℕ} {k : ℕ} {a : A} → Prepared N d low k → Call d low k a → Knowing N Call a

-- The conditions that are more than a comparison.

-- 11 at the lowest input with a block of two depths to one output
abbrev pub When11 : Netlist → ℕ → Type 0
When11 N = Least (TwoDepths N)

-- a play of n clocks for i inputs: its bytes are n times i, and n is at most 1,024. 14 if it is no such play
pub record Clocks (i : ℕ) (play : List ℕ) (n : ℕ) : Type 0 where
  pub long : length play ≡ n * i
  pub few : n ≤ 1024

-- the site reaches output z, and more than 16 blocks do
pub record Wide (N : Netlist) (B : Blocks) (site : Site) (z : ℕ) : Type 0 where
  pub out : ℕ → Bool
  pub rel : ℕ → ℕ → Bool
  pub tables : Tables N B site out rel
  pub output : z < N.outs
  pub reached : out z ≡ true
  pub wide : 16 < width B rel z

-- 16 at the lowest such output
abbrev pub When16 : Netlist → Blocks → Site → ℕ → Type 0
When16 N B site = Least (Wide N B site)

-- byte k is above 1; 18 at the lowest such byte (02, W2)
pub record AboveOne (bytes : List ℕ) (k : ℕ) : Type 0 where
  pub there : k < length bytes
  pub above : 1 < get_or bytes k 0

abbrev pub When18 : List ℕ → ℕ → Type 0
When18 bytes = Least (AboveOne bytes)

-- 19 (02, W2): the clock is below d or past the play, which has n clocks
pub record When19 (i d : ℕ) (play : List ℕ) (clock n : ℕ) : Type 0 where
  pub clocks : Clocks i play n
  pub outside : (clock < d) ⊎ (n ≤ clock)

-- 15: the lent buffer is shorter than what is needed
abbrev pub Short : List ℕ → ℕ → ℕ → Type 0
Short entry need = At need (length entry < need)

-- What a call leaves in a lent buffer.

-- the bytes are written to its front, and in a longer one the bytes beyond them stay
pub record Wrote (bytes entry exit : List ℕ) : Type 0 where
  pub room : length bytes ≤ length entry
  pub now_is : exit ≡ bytes ++ drop (length bytes) entry

-- "Every refusal returns number and place and writes nothing"
abbrev pub leaving : {A : Type 0} → List ℕ → (Reason → ℕ → A) → Reason → ℕ → A × List ℕ
leaving entry refuse r p = (refuse r p, entry)
