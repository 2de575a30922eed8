-- 'Refusal numbers': what each call answers and leaves in the lent buffer, on a netlist and on a file.
-- A reply is the list of its guards in the order of 01, with the requests of 02, and the answer behind them.
use Rattle.std.specs.Prelude.{ℕ, suc, ◌+◌, ◌*◌, ◌≤◌, ◌<◌, ◌≡◌, ◌≢◌, Bool, List, length, Option, Some, None}
use Rattle.chip.specs.Netlist.{Netlist, all_pins}
use Rattle.chip.specs.Class.{Blocks, blocks}
use Rattle.chip.specs.Transformed.{copies}
use Rattle.chip.specs.File.{transformed_file}
use Rattle.chip.specs.Faults.{FaultIn, stuck, Shown, play_of, AllBits, IsPlay, Showable}
use Rattle.chip.specs.Clocks.{pattern_of, Sets, Reads}
use Rattle.chip.specs.Checking.{Seen, NotSeen}
use Rattle.chip.specs.Search.{pattern}
use Rattle.chip.specs.Search as S
use Rattle.chip.specs.Refusals.{Step, At, Is, Start, Knowing, When11, Clocks, When16, When18, When19, Short, Wrote, leaving}
use Rattle.chip.specs.declared.Fault.{Fault}
use Rattle.chip.specs.Got.{Got, refused, got}
use Rattle.chip.specs.declared.Reason.{Reason}
use Rattle.chip.specs.declared.Classed.{Classed}
use Rattle.chip.specs.declared.Sight.{Sight}
use Rattle.chip.specs.declared.Searched.{Searched}

-- Naming the class: class, depth and number of blocks. Class 1 is an answer here.

abbrev pub ClassOn : Netlist → Got Classed → Type 0
ClassOn N = Knowing N (λ d low k. Is (got (record { class = k; depth = d; blocks = (blocks N low).count })))

abbrev pub ClassReply : List ℕ → Got Classed → Type 0
ClassReply = Start refused ClassOn

-- Transforming: 17 at B, 2 at 0 and 7 at 0 for a circuit that no file may hold (02, W3), 15 at the file's length; the file is written.

abbrev pub Writes : List ℕ → List ℕ → Got ℕ × List ℕ → Type 0
Writes bytes entry a = (a.0 ≡ got (length bytes)) × Wrote bytes entry a.1

abbrev pub CircuitOn : Netlist → Blocks → List ℕ → Got ℕ × List ℕ → Type 0
CircuitOn N B entry =
    Step (At B.count (64 < B.count)) (leaving entry refused Reason.ManyBlocks)
    (Step (At 0 (1024 < N.cells + copies N B)) (leaving entry refused Reason.BadCount)
    (Step (At 0 (4096 < all_pins N + copies N B)) (leaving entry refused Reason.ManyPins)
    (Step (Short entry (length (transformed_file N B))) (leaving entry refused Reason.ShortBuffer)
    (Writes (transformed_file N B) entry))))

abbrev pub TransformOn : Netlist → List ℕ → Got ℕ × List ℕ → Type 0
TransformOn N entry = Knowing N (λ d low k. CircuitOn N (blocks N low) entry)

abbrev pub TransformReply : List ℕ → List ℕ → Got ℕ × List ℕ → Type 0
TransformReply file entry = Start (leaving entry refused) (λ N. TransformOn N entry) file

-- Setting: 13, 11, 14 at the pattern's length, 18, 15 at I times d + 1; the play is written.

-- the play of d + 1 clocks that is set from a pattern is written to the front of the buffer
pub record PlaySet (N : Netlist) (B : Blocks) (d z : ℕ) (pat : ℕ → Bool) (entry exit : List ℕ) : Type 0 where
  pub play : List ℕ
  pub is_play : IsPlay N.inputs play (suc d)
  pub sets : Sets N B d z pat (play_of N.inputs play)
  pub wrote : Wrote play entry exit

abbrev pub SetsPlay : Netlist → Blocks → ℕ → ℕ → List ℕ → List ℕ → Got ℕ × List ℕ → Type 0
SetsPlay N B d z pattern entry a = (a.0 ≡ got (suc d * N.inputs)) × PlaySet N B d z (pattern_of pattern) entry a.1

abbrev pub SetOn : Netlist → ℕ → List ℕ → List ℕ → Got ℕ × List ℕ → Type 0
SetOn N output pattern entry =
    Knowing N (λ d low k.
    Step (At 0 (N.outs ≤ output)) (leaving entry refused Reason.NoOutput)
    (Step (When11 N) (leaving entry refused Reason.ClassOne)
    (Step (At (length pattern) (length pattern ≢ (blocks N low).count)) (leaving entry refused Reason.BadLength)
    (Step (When18 pattern) (leaving entry refused Reason.BadByte)
    (Step (Short entry (suc d * N.inputs)) (leaving entry refused Reason.ShortBuffer)
    (SetsPlay N (blocks N low) d output pattern entry))))))

abbrev pub SetReply : List ℕ → ℕ → List ℕ → List ℕ → Got ℕ × List ℕ → Type 0
SetReply file output pattern entry = Start (leaving entry refused) (λ N. SetOn N output pattern entry) file

-- Reading back: 13, 11, 14 at the play's length, 18, 19 at the number of clocks, 15 at B; the pattern is written.

-- the pattern that is read back from output z at clock t is written to the front of the buffer
pub record PatternRead (N : Netlist) (B : Blocks) (d z t : ℕ) (play entry exit : List ℕ) : Type 0 where
  pub pattern : List ℕ
  pub long : length pattern ≡ B.count
  pub bits : AllBits pattern
  pub reads : Reads N B d z t (play_of N.inputs play) (pattern_of pattern)
  pub wrote : Wrote pattern entry exit

abbrev pub ReadsPattern : Netlist → Blocks → ℕ → ℕ → List ℕ → ℕ → List ℕ → Got ℕ × List ℕ → Type 0
ReadsPattern N B d z play clock entry a = (a.0 ≡ got B.count) × PatternRead N B d z clock play entry a.1

abbrev pub ReadOn : Netlist → ℕ → List ℕ → ℕ → List ℕ → Got ℕ × List ℕ → Type 0
ReadOn N output play clock entry =
    Knowing N (λ d low k.
    Step (At 0 (N.outs ≤ output)) (leaving entry refused Reason.NoOutput)
    (Step (When11 N) (leaving entry refused Reason.ClassOne)
    (Step (At (length play) ((n : ℕ) → ¬ Clocks N.inputs play n)) (leaving entry refused Reason.BadLength)
    (Step (When18 play) (leaving entry refused Reason.BadByte)
    (Step (When19 N.inputs d play clock) (leaving entry refused Reason.BadClock)
    (Step (Short entry (blocks N low).count) (leaving entry refused Reason.ShortBuffer)
    (ReadsPattern N (blocks N low) d output play clock entry)))))))

abbrev pub ReadReply : List ℕ → ℕ → List ℕ → ℕ → List ℕ → Got ℕ × List ℕ → Type 0
ReadReply file output play clock entry = Start (leaving entry refused) (λ N. ReadOn N output play clock entry) file

-- Checking: 12, 14 at the play's length, 18; shown on clock t at output z, or not seen.

pub data Checks (N : Netlist) (d : ℕ) (fault : Fault) (play : List ℕ) : Got (Option Sight) → Type 0 where
  shows : {n t z : ℕ} → Clocks N.inputs play n → Seen N (stuck fault) (play_of N.inputs play) d n t z → Checks N d fault play (got (Some (record { clock = t; output = z })))
  shows_not : {n : ℕ} → Clocks N.inputs play n → NotSeen N (stuck fault) (play_of N.inputs play) d n → Checks N d fault play (got None)

abbrev pub CheckOn : Netlist → Fault → List ℕ → Got (Option Sight) → Type 0
CheckOn N fault play =
    Knowing N (λ d low k.
    Step (At 0 (¬ FaultIn N fault)) (refused Reason.NoFault)
    (Step (At (length play) ((n : ℕ) → ¬ Clocks N.inputs play n)) (refused Reason.BadLength)
    (Step (When18 play) (refused Reason.BadByte)
    (Checks N d fault play))))

abbrev pub CheckReply : List ℕ → Fault → List ℕ → Got (Option Sight) → Type 0
CheckReply file fault play = Start refused (λ N. CheckOn N fault play) file

-- The search: 12, 11, 16, 15 at I times d + 1, asked for before the first try; found, with the play written, or untestable.

-- its answer is one of three cases, of which a refusal is the third
abbrev pub search_refused : Reason → ℕ → Searched
search_refused r p = Searched.Refused (record { reason = r; place = p })

pub data Searches (N : Netlist) (B : Blocks) (d : ℕ) (fault : Fault) (entry : List ℕ) : Searched × List ℕ → Type 0 where
  -- found: the first pattern that shows the fault, and the play set from it, which shows it on its last clock
  finds : {z m k : ℕ} {exit : List ℕ} (F : S.Found N B fault z m k) (P : PlaySet N B d z (pattern F.rel z m) entry exit)
      → Shown N (stuck fault) (play_of N.inputs P.play) z d → Searches N B d fault entry (Searched.Found z m k, exit)
  -- untestable: no pattern shows it, and so no play of any length at any output on any clock
  finds_none : {k : ℕ} → S.Untestable N B fault k → ¬ Showable N (stuck fault) → Searches N B d fault entry (Searched.Untestable k, entry)

abbrev pub SearchOn : Netlist → Fault → List ℕ → Searched × List ℕ → Type 0
SearchOn N fault entry =
    Knowing N (λ d low k.
    Step (At 0 (¬ FaultIn N fault)) (leaving entry search_refused Reason.NoFault)
    (Step (When11 N) (leaving entry search_refused Reason.ClassOne)
    (Step (When16 N (blocks N low) fault.site) (leaving entry search_refused Reason.WideOutput)
    (Step (Short entry (suc d * N.inputs)) (leaving entry search_refused Reason.ShortBuffer)
    (Searches N (blocks N low) d fault entry)))))

abbrev pub SearchReply : List ℕ → Fault → List ℕ → Searched × List ℕ → Type 0
SearchReply file fault entry = Start (leaving entry search_refused) (λ N. SearchOn N fault entry) file
