-- 'How much each contract must say' and 'Slips to rule out': the useless versions and the slips that have to be shut out.
-- A version of a call gives an answer for all that the call may be given, and leaves something in the lent buffer.
-- The statements say that no version of a kind is allowed everywhere by the call's contract.
use Rattle.std.specs.Prelude.{ℕ, ◌+◌, ◌≤◌, ◌<◌, ◌≡◌, ◌⊎◌, ◌≢◌, Bool, true, false, ◌&&◌, List, [], ◌∷◌, length, get_or, take, ltb, eqb, Option}
use Rattle.chip.specs.Netlist.{Netlist, sum_below, out_pin}
use Rattle.chip.specs.Got.{Got, refused, got}
use Rattle.chip.specs.Format.{Parsed, read_of, chip_of}
use Rattle.chip.specs.Class.{Feeds, Branch, Joined, Blocks, blocks, Prepared}
use Rattle.chip.specs.Transformed.{transformed}
use Rattle.chip.specs.Faults.{Lines, good, stuck_at, stuck, play_of, sees, StartsAt, Run, Shown}
use Rattle.chip.specs.Clocks.{BlockAt, pattern_of}
use Rattle.chip.specs.Search.{Tables, pattern, patterns, FirstHit}
use Rattle.chip.specs.Search as Search
use Rattle.chip.specs.Refusals.{Least, Opens, Clocks}
use Rattle.chip.specs.Replies.{ClassReply, TransformReply, SetReply, ReadReply, CheckReply, SearchReply, search_refused}
use Rattle.chip.specs.declared.Site.TheVariants.{Net}
use Rattle.chip.specs.declared.Fault.{Fault}
use Rattle.chip.specs.declared.Classed.{Classed}
use Rattle.chip.specs.declared.Reason.{Reason}
use Rattle.chip.specs.declared.Sight.{Sight}
use Rattle.chip.specs.declared.Searched.{Searched}

-- a call: what it may be given, what it answers, what its contract allows it to answer and to leave, and its refusals
pub record Call : Type 1 where
  pub Given : Type 0
  pub Answer : Type 0
  pub Allows : Given → Answer × List ℕ → Type 0
  pub refusal : Reason → ℕ → Answer

-- no version of a kind is allowed everywhere
abbrev pub None : (C : Call) → ((C.Given → C.Answer × List ℕ) → Type 0) → Type 0
None C Kind = (version : C.Given → C.Answer × List ℕ) → Kind version → ¬ ((g : C.Given) → C.Allows g (version g))

-- the answer is a refusal, of some reason and place
abbrev pub IsRefusal : (C : Call) → C.Answer → Type 0
IsRefusal C a = (r : Reason) × (p : ℕ) × (a ≡ C.refusal r p)

-- none refuses everything, whatever reasons and places it gives and whatever it writes
abbrev pub NoneRefuses : Call → Type 0
NoneRefuses C = None C (λ version. (g : C.Given) → IsRefusal C (version g).0)

-- none has a constant answer, be it only where it does not refuse
abbrev pub NoneConstant : Call → Type 0
NoneConstant C = None C (λ version. (a : C.Answer) × ((g : C.Given) → IsRefusal C (version g).0 ⊎ ((version g).0 ≡ a)))

-- none writes nothing
abbrev pub NoneIdle : (C : Call) → (C.Given → List ℕ) → Type 0
NoneIdle C lent = None C (λ version. (g : C.Given) → (version g).1 ≡ lent g)

-- none does without the refusals of a reason
abbrev pub NoneWithout : Call → Reason → Type 0
NoneWithout C r = None C (λ version. (g : C.Given) (p : ℕ) → (version g).0 ≢ C.refusal r p)

-- The calls, over lent bytes. Naming the class and checking lend no buffer, so that it does not matter what is left.

-- all numbers are bytes
abbrev pub are_bytes : List ℕ → Bool
are_bytes [] = true
are_bytes (b ∷ l) = ltb b 256 && are_bytes l

pub record Bytes : Type 0 where
  pub list : List ℕ
  pub right : are_bytes list ≡ true

abbrev pub classing : Call
classing = record { Given = Bytes; Answer = Got Classed; Allows = λ g a. ClassReply g.list a.0; refusal = refused }

pub record ToTransform : Type 0 where
  pub file : Bytes
  pub out : Bytes

abbrev pub transforming : Call
transforming = record { Given = ToTransform; Answer = Got ℕ; Allows = λ g. TransformReply g.file.list g.out.list; refusal = refused }

pub record ToSet : Type 0 where
  pub file : Bytes
  pub output : ℕ
  pub pattern : Bytes
  pub play : Bytes

abbrev pub setting : Call
setting = record { Given = ToSet; Answer = Got ℕ; Allows = λ g. SetReply g.file.list g.output g.pattern.list g.play.list; refusal = refused }

pub record ToRead : Type 0 where
  pub file : Bytes
  pub output : ℕ
  pub play : Bytes
  pub clock : ℕ
  pub pattern : Bytes

abbrev pub reading : Call
reading = record { Given = ToRead; Answer = Got ℕ; Allows = λ g. ReadReply g.file.list g.output g.play.list g.clock g.pattern.list; refusal = refused }

-- a fault and a play: of checking the play that is checked, of searching the lent buffer
pub record ToTest : Type 0 where
  pub file : Bytes
  pub fault : Fault
  pub stuck_byte : fault.stuck < 256
  pub play : Bytes

abbrev pub checking : Call
checking = record { Given = ToTest; Answer = Got (Option Sight); Allows = λ g a. CheckReply g.file.list g.fault g.play.list a.0; refusal = refused }

abbrev pub searching : Call
searching = record { Given = ToTest; Answer = Searched; Allows = λ g. SearchReply g.file.list g.fault g.play.list; refusal = search_refused }

-- What some of the statements speak of.

-- net n hangs from a loop, or lies on one
abbrev pub Hangs : Netlist → ℕ → Type 0
Hangs N n = (m : ℕ) × Feeds N m m × Feeds N m n

-- clock 0 of a play: as many bytes as the file has inputs, which its first byte counts
abbrev pub clock0 : List ℕ → List ℕ → List ℕ
clock0 file play = take (get_or file 0 0) play

-- something holds of the netlist that a file opens as, of its depth and of its blocks: of each such, and of one that there is
abbrev pub EachFile : List ℕ → (Netlist → ℕ → Blocks → Type 0) → Type 0
EachFile file Holds = (N : Netlist) (d : ℕ) (low : ℕ → ℕ) (class : ℕ) → Opens file (got N) → Prepared N d low class → Holds N d (blocks N low)

abbrev pub OfChip : List ℕ → (Netlist → ℕ → Blocks → Type 0) → Type 0
OfChip file Holds = (N : Netlist) × (d : ℕ) × (low : ℕ → ℕ) × (class : ℕ) × Opens file (got N) × Prepared N d low class × Holds N d (blocks N low)

-- something holds of the netlist that a file opens as, and of its blocks
abbrev pub OfFile : List ℕ → (Netlist → Blocks → Type 0) → Type 0
OfFile file Holds = (N : Netlist) × Opens file (got N) × (d : ℕ) × (low : ℕ → ℕ) × (class : ℕ) × Prepared N d low class × Holds N (blocks N low)

-- pairs taken for blocks: n sets of branches that take in every branch, and the lowest of a set is a pair with each other, not separable
pub record Pairs (N : Netlist) (n : ℕ) : Type 0 where
  pub has : ℕ → ℕ → Bool
  pub each : (x p : ℕ) → Branch N x p → (b : ℕ) × (b < n) × (has b p ≡ true)
  pub pairs : (x p q b : ℕ) → Branch N x p → Branch N x q → has b p ≡ true → has b q ≡ true → ((r : ℕ) → Branch N x r → has b r ≡ true → p ≤ r) → (p ≡ q) ⊎ Joined N p q

-- what is given twice with one file, one clock 0 of the play and one length of it
abbrev pub SameStart : Bytes → Bytes → Bytes → Bytes → Type 0
SameStart file play file' play' = (file ≡ file') × (length play.list ≡ length play'.list) × (clock0 file.list play.list ≡ clock0 file'.list play'.list)

-- the good and the faulty chip, started with all flip-flops at 0, differ at output z on clock t
pub record FromZero (N : Netlist) (f : Lines) (play : ℕ → ℕ → Bool) (z t : ℕ) : Type 0 where
  pub v : ℕ → ℕ → Bool
  pub w : ℕ → ℕ → Bool
  pub good_run : Run N good play v
  pub faulty_run : Run N f play w
  pub good_start : StartsAt N good (λ _. false) v
  pub faulty_start : StartsAt N f (λ _. false) w
  pub differ : sees N good v t (out_pin N z) ≢ sees N f w t (out_pin N z)

-- The slips, as kinds of versions: what a version does where it does not refuse.

-- pairs for blocks
abbrev pub HasPairs : (Bytes → Got Classed × List ℕ) → Type 0
HasPairs version =
    (g : Bytes) (k d n : ℕ) → (version g).0 ≡ got (record { class = k; depth = d; blocks = n }) → EachFile g.list (λ N _ _. Pairs N n)

-- one play for all outputs
abbrev pub OnePlay : (ToSet → Got ℕ × List ℕ) → Type 0
OnePlay version =
    (g h : ToSet) (n m : ℕ) → g.file ≡ h.file → g.pattern ≡ h.pattern → g.play ≡ h.play
    → (version g).0 ≡ got n → (version h).0 ≡ got m → (version g).1 ≡ (version h).1

-- clocks counted from the input forward: a block that reaches the output at depth e has its value at clock e
abbrev pub SetsForward : (ToSet → Got ℕ × List ℕ) → Type 0
SetsForward version =
    (g : ToSet) (n : ℕ) → (version g).0 ≡ got n
    → EachFile g.file.list (λ N _ B. (b e : ℕ) → BlockAt N B g.output b e → play_of N.inputs (version g).1 e (B.input b) ≡ pattern_of g.pattern.list b)

-- the same in reading back: of the last d + 1 clocks up to the one that is read, clock e for depth e
abbrev pub ReadsForward : (ToRead → Got ℕ × List ℕ) → Type 0
ReadsForward version =
    (g : ToRead) (n : ℕ) → (version g).0 ≡ got n
    → EachFile g.file.list (λ N d B. (b e s : ℕ) → BlockAt N B g.output b e → s + d ≡ g.clock + e → pattern_of (version g).1 b ≡ play_of N.inputs g.play.list s (B.input b))

-- clock 0 of the play and its length decide what is read back
abbrev pub ReadsClock0 : (ToRead → Got ℕ × List ℕ) → Type 0
ReadsClock0 version =
    (g h : ToRead) (n m : ℕ) → SameStart g.file g.play h.file h.play → g.output ≡ h.output → g.clock ≡ h.clock → g.pattern ≡ h.pattern
    → (version g).0 ≡ got n → (version h).0 ≡ got m → (version g).1 ≡ (version h).1

-- clock 0 of the play and its length decide what is seen
abbrev pub ChecksClock0 : (ToTest → Got (Option Sight) × List ℕ) → Type 0
ChecksClock0 version =
    (g h : ToTest) → SameStart g.file g.play h.file h.play → g.fault ≡ h.fault
    → IsRefusal checking (version g).0 ⊎ (IsRefusal checking (version h).0 ⊎ ((version g).0 ≡ (version h).0))

-- every difference of chips whose flip-flops start at 0 is called seen
abbrev pub SeenFromZero : (ToTest → Got (Option Sight) × List ℕ) → Type 0
SeenFromZero version =
    (g : ToTest) → EachFile g.file.list (λ N _ _. (n t z : ℕ) → Clocks N.inputs g.play.list n → t < n → z < N.outs
    → FromZero N (stuck g.fault) (play_of N.inputs g.play.list) z t → (version g).0 ≢ got Option.None)

-- a stuck input is stuck in one of its blocks only: what is found is the first pattern that shows the transformed circuit with that block stuck
abbrev pub OneBlock : (ToTest → Searched × List ℕ) → Type 0
OneBlock version =
    (g : ToTest) (x z m k : ℕ) → g.fault.site ≡ Net x → (version g).0 ≡ Searched.Found z m k → EachFile g.file.list (λ N _ B.
    x < N.inputs → (out : ℕ → Bool) (rel : ℕ → ℕ → Bool) → Tables N B g.fault.site out rel → (b : ℕ) × (b < B.count) × (B.input b ≡ x)
    × FirstHit N.outs (patterns B out rel) (λ y n. Shown (transformed N B) (stuck_at (Net b) (eqb g.fault.stuck 1)) (λ _. pattern rel y n) y 0) z m k)

pub record ShutOut : Type 0 where
  pub class_refuses : NoneRefuses classing
  pub class_constant : NoneConstant classing
  -- none gives as the place of 9 the lowest net that hangs from a loop, where another is the lowest on one
  pub class_hanging : None classing (λ version. (g : Bytes) (x : Parsed) (n : ℕ) → read_of g.list ≡ got x → Least (Hangs (chip_of x)) n → (version g).0 ≡ refused Reason.Looped n)
  -- none has pairs for blocks
  pub class_pairs : None classing HasPairs
  pub transform_refuses : NoneRefuses transforming
  pub transform_constant : NoneConstant transforming
  pub transform_idle : NoneIdle transforming (λ g. g.out.list)
  pub transform_room : NoneWithout transforming Reason.ShortBuffer
  -- whatever is refused, the lent buffer is left as it was
  pub transform_keeps : (file entry exit : List ℕ) (r : Reason) (p : ℕ) → TransformReply file entry (refused r p, exit) → exit ≡ entry
  pub set_refuses : NoneRefuses setting
  pub set_constant : NoneConstant setting
  pub set_idle : NoneIdle setting (λ g. g.play.list)
  pub set_keeps : (file : List ℕ) (output : ℕ) (pattern entry exit : List ℕ) (r : Reason) (p : ℕ) → SetReply file output pattern entry (refused r p, exit) → exit ≡ entry
  -- none does without 18, as one would that refuses a byte above 1 by 14
  pub set_byte : NoneWithout setting Reason.BadByte
  -- none does without 15
  pub set_room : NoneWithout setting Reason.ShortBuffer
  -- none sets one play for all outputs
  pub set_one_play : None setting OnePlay
  -- none counts clocks from the input forward
  pub set_forward : None setting SetsForward
  pub read_refuses : NoneRefuses reading
  pub read_constant : NoneConstant reading
  pub read_idle : NoneIdle reading (λ g. g.pattern.list)
  pub read_keeps : (file : List ℕ) (output : ℕ) (play : List ℕ) (clock : ℕ) (entry exit : List ℕ) (r : Reason) (p : ℕ) → ReadReply file output play clock entry (refused r p, exit) → exit ≡ entry
  pub read_byte : NoneWithout reading Reason.BadByte
  -- none does without 19, as one would that refuses a clock by 14
  pub read_clock : NoneWithout reading Reason.BadClock
  pub read_room : NoneWithout reading Reason.ShortBuffer
  -- what is read back is read from clock d on
  pub read_late : (file : List ℕ) (output : ℕ) (play : List ℕ) (clock : ℕ) (entry exit : List ℕ) (n : ℕ) → ReadReply file output play clock entry (got n, exit) → OfChip file (λ N d _. d ≤ clock)
  -- none runs clock 0 and repeats it
  pub read_clock_0 : None reading ReadsClock0
  pub read_forward : None reading ReadsForward
  pub check_refuses : NoneRefuses checking
  pub check_constant : NoneConstant checking
  pub check_byte : NoneWithout checking Reason.BadByte
  -- none goes by clock 0 of the play and its length alone
  pub check_clock_0 : None checking (λ version. (answer : List ℕ → Fault → ℕ → List ℕ → Got (Option Sight))
      × ((g : ToTest) → (version g).0 ≡ answer g.file.list g.fault (length g.play.list) (clock0 g.file.list g.play.list)))
  -- none runs clock 0 and repeats it
  pub check_repeats : None checking ChecksClock0
  -- what is shown is shown from clock d on
  pub check_late : (file : List ℕ) (fault : Fault) (play : List ℕ) (t z : ℕ) → CheckReply file fault play (got (Option.Some (record { clock = t; output = z }))) → OfChip file (λ N d _. d ≤ t)
  -- none starts the flip-flops at 0 and calls every difference seen
  pub check_from_zero : None checking SeenFromZero
  pub search_refuses : NoneRefuses searching
  pub search_constant : NoneConstant searching
  pub search_idle : NoneIdle searching (λ g. g.play.list)
  pub search_keeps : (file : List ℕ) (fault : Fault) (entry exit : List ℕ) (r : Reason) (p : ℕ) → SearchReply file fault entry (search_refused r p, exit) → exit ≡ entry
  pub search_room : NoneWithout searching Reason.ShortBuffer
  -- none puts a stuck input into one block only
  pub search_one_block : None searching OneBlock
  -- the tries in an answer are those of the definition, and never more than the sum over the reached outputs
  pub search_tries : (file : List ℕ) (fault : Fault) (entry exit : List ℕ) (z m k : ℕ) → SearchReply file fault entry (Searched.Found z m k, exit)
      → OfFile file (λ N B. (F : Search.Found N B fault z m k) × (k ≤ sum_below (patterns B F.out F.rel) N.outs))
  pub search_all_tries : (file : List ℕ) (fault : Fault) (entry exit : List ℕ) (k : ℕ) → SearchReply file fault entry (Searched.Untestable k, exit)
      → OfFile file (λ N B. (F : Search.Untestable N B fault k) × (k ≡ sum_below (patterns B F.out F.rel) N.outs))
