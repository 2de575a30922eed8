-- Two replies that a call's contract allows are equal, answer and buffer.
use Rattle.std.specs.Prelude.{Option}
use Prim.Native.Nat.{ℕ, suc, ◌<◌}
use mathlib.Core.Path.{◌≡◌, refl, sym, ap, ◌∙◌, subst}
use mathlib.Core.Bool.{Bool}
use mathlib.Core.List.{List}
use native.Mathlib.Omega.{arith}
use lib.ListN.{length}
use lib.Seq.{ext_get_or}
use Rattle.chip.specs.Netlist.{Netlist}
use Rattle.chip.specs.Inner.Limits.{InLimits}
use Rattle.chip.specs.Class.{Blocks, blocks, Prepared}
use Rattle.chip.specs.Faults.{stuck, AllBits, play_of}
use Rattle.chip.specs.Clocks.{BlockAt, pattern_of}
use Rattle.chip.specs.Checking.{Seen, NotSeen}
use Rattle.chip.specs.Search.{pattern}
use Rattle.chip.specs.Got.{Got}
use Rattle.chip.specs.Refusals.{When11, Clocks}
use Rattle.chip.specs.Replies.{ClassReply, CircuitOn, TransformReply, PlaySet, SetOn, SetReply, PatternRead, ReadOn, ReadReply, Checks, shows, shows_not, CheckReply, Searches, finds, finds_none, SearchReply}
use Rattle.chip.specs.declared.Fault.{Fault}
use Rattle.chip.specs.declared.Classed.{Classed}
use Rattle.chip.specs.declared.Sight.{Sight}
use Rattle.chip.specs.declared.Searched.{Searched}
use Rattle.chip.proofs.LookBack.{Balanced}
use Rattle.chip.proofs.Loops.{ranked}
use Rattle.chip.proofs.Clocks.{one_play, one_pattern, block_low, sets_same}
use Rattle.chip.proofs.Checking.{one_seen, seen_or_not}
use Rattle.chip.proofs.Search.{pattern_same, one_found, one_untestable, not_both}
use Rattle.chip.proofs.Theorem.{balanced_of}
use Rattle.plays.proofs.Bytes.{one_count, bit_same, same_play}
use Rattle.replies.proofs.Guards.{one_at, one_least, not_at, one_step, same_wrote, same_pair}
use Rattle.replies.proofs.Opening.{one_start, one_knowing, even_class}

-- Naming the class.

pub one_class_reply : (file : List ℕ) {a b : Got Classed} → ClassReply file a → ClassReply file b → a ≡ b
one_class_reply file = one_start (λ N L. one_knowing (λ d low k P e f. e ∙ sym f))

-- Transforming.

one_circuit : (N : Netlist) (B : Blocks) (entry : List ℕ) {a b : Got ℕ × List ℕ} → CircuitOn N B entry a → CircuitOn N B entry b → a ≡ b
one_circuit N B entry {a} {b} =
    one_step one_at (λ _. one_step one_at (λ _. one_step one_at (λ _. one_step one_at (λ _ w w'.
    same_pair a b (w.0 ∙ sym w'.0) (same_wrote _ _ entry _ _ refl w.1 w'.1)))))

pub one_transform_reply : (file entry : List ℕ) {a b : Got ℕ × List ℕ} → TransformReply file entry a → TransformReply file entry b → a ≡ b
one_transform_reply file entry = one_start (λ N L. one_knowing (λ d low k P. one_circuit N (blocks N low) entry))

-- Setting and reading back, on a netlist of class 2 or 3.

same_pattern : (s s' : List ℕ) → length s ≡ length s' → AllBits s → AllBits s' → ((b : ℕ) → b < length s → pattern_of s b ≡ pattern_of s' b) → s ≡ s'
same_pattern s s' e P P' same = ext_get_or 0 s s' e (λ k l. bit_same _ _ (P k l) (P' k (omega arith)) (same k l))

module _ (N : Netlist) (L : InLimits N) {d : ℕ} {low : ℕ → ℕ} {k : ℕ} (P : Prepared N d low k) (even : (x : ℕ) → ¬ When11 N x) (z : ℕ) (zo : z < N.outs) where
  abbrev B : Blocks
  B = blocks N low

  bal : Balanced N B
  bal = balanced_of N d low k P (even_class P even)

  -- a pattern is set in one way, whatever it has for blocks that do not reach the output
  one_play_set : (pat pat' : ℕ → Bool) (entry exit exit' : List ℕ) → ((b e : ℕ) → BlockAt N B z b e → pat' b ≡ pat b) → PlaySet N B d z pat entry exit → PlaySet N B d z pat' entry exit' → exit ≡ exit'
  one_play_set pat pat' entry exit exit' same p p' =
      same_wrote p.play p'.play entry exit exit'
      (same_play N.inputs (suc d) p.play p'.play L.some_input p.is_play p'.is_play
      (λ t x l i. one_play N L.sound (ranked N P.loop_free) d P.depth.within B bal z zo pat _ _ p.sets (sets_same N B d z pat' pat _ same p'.sets) t x (omega arith) i))
      p.wrote p'.wrote

  one_pattern_read : (t : ℕ) (play entry exit exit' : List ℕ) → PatternRead N B d z t play entry exit → PatternRead N B d z t play entry exit' → exit ≡ exit'
  one_pattern_read t play entry exit exit' p p' =
      same_wrote p.pattern p'.pattern entry exit exit'
      (same_pattern p.pattern p'.pattern (p.long ∙ sym p'.long) p.bits p'.bits
      (λ b l. one_pattern N L.sound (ranked N P.loop_free) d P.depth.within B bal z zo t (play_of N.inputs play) _ _ p.reads p'.reads b (omega (arith, p.long)))) p.wrote p'.wrote

one_set_on : (N : Netlist) → InLimits N → (output : ℕ) (pattern entry : List ℕ) {a b : Got ℕ × List ℕ} → SetOn N output pattern entry a → SetOn N output pattern entry b → a ≡ b
one_set_on N L output pattern entry {a} {b} =
    one_knowing (λ d low k P.
    one_step one_at (λ there. one_step one_least (λ even. one_step one_at (λ _. one_step one_least (λ _. one_step one_at (λ _ s s'.
    same_pair a b (s.0 ∙ sym s'.0) (one_play_set N L P even output (omega (arith, not_at there)) _ _ entry _ _ (λ _ _ _. refl) s.1 s'.1)))))))

pub one_set_reply : (file : List ℕ) (output : ℕ) (pattern entry : List ℕ) {a b : Got ℕ × List ℕ} → SetReply file output pattern entry a → SetReply file output pattern entry b → a ≡ b
one_set_reply file output pattern entry = one_start (λ N L. one_set_on N L output pattern entry)

one_read_on : (N : Netlist) → InLimits N → (output : ℕ) (play : List ℕ) (clock : ℕ) (entry : List ℕ) {a b : Got ℕ × List ℕ} → ReadOn N output play clock entry a → ReadOn N output play clock entry b → a ≡ b
one_read_on N L output play clock entry {a} {b} =
    one_knowing (λ d low k P.
    one_step one_at (λ there. one_step one_least (λ even. one_step one_at (λ _. one_step one_least (λ _.
    one_step (λ p q h h'. one_count N.inputs play p q L.some_input h.clocks h'.clocks) (λ _. one_step one_at (λ _ s s'.
    same_pair a b (s.0 ∙ sym s'.0) (one_pattern_read N L P even output (omega (arith, not_at there)) clock play entry _ _ s.1 s'.1))))))))

pub one_read_reply : (file : List ℕ) (output : ℕ) (play : List ℕ) (clock : ℕ) (entry : List ℕ) {a b : Got ℕ × List ℕ}
    → ReadReply file output play clock entry a → ReadReply file output play clock entry b → a ≡ b
one_read_reply file output play clock entry = one_start (λ N L. one_read_on N L output play clock entry)

-- Checking.

module _ (N : Netlist) (L : InLimits N) (fault : Fault) (play : List ℕ) (d : ℕ) where
  -- the play has one number of clocks
  clocks_are : (R : ℕ → Type 0) {n m : ℕ} → Clocks N.inputs play n → Clocks N.inputs play m → R m → R n
  clocks_are R {n} {m} C D r = subst R (one_count N.inputs play m n L.some_input D C) r

  seen_and_not : {A : Type 0} {n m t z : ℕ} → Clocks N.inputs play n → Clocks N.inputs play m → Seen N (stuck fault) (play_of N.inputs play) d n t z
      → NotSeen N (stuck fault) (play_of N.inputs play) d m → A
  seen_and_not {n = n} {t = t} {z = z} C D s g =
      absurd (seen_or_not N (stuck fault) (play_of N.inputs play) d n t z s (clocks_are (NotSeen N (stuck fault) (play_of N.inputs play) d) C D g))

  one_checks : {a b : Got (Option Sight)} → Checks N d fault play a → Checks N d fault play b → a ≡ b
  one_checks (shows {n = n} {t = t} {z = z} C s) (shows {t = t'} {z = z'} D r) =
      let (e, f) = one_seen N (stuck fault) (play_of N.inputs play) d n t z t' z' s (clocks_are (λ m. Seen N (stuck fault) (play_of N.inputs play) d m t' z') C D r) in
      rw (e, f) refl
  one_checks (shows C s) (shows_not D g) = seen_and_not C D s g
  one_checks (shows_not D g) (shows C s) = seen_and_not C D s g
  one_checks (shows_not _ _) (shows_not _ _) = refl

pub one_check_reply : (file : List ℕ) (fault : Fault) (play : List ℕ) {a b : Got (Option Sight)} → CheckReply file fault play a → CheckReply file fault play b → a ≡ b
one_check_reply file fault play = one_start (λ N L. one_knowing (λ d low k P. one_step one_at (λ _. one_step one_at (λ _. one_step one_least (λ _. one_checks N L fault play d)))))

-- The search.

one_searches : (N : Netlist) (L : InLimits N) {d : ℕ} {low : ℕ → ℕ} {k : ℕ} (P : Prepared N d low k) (even : (x : ℕ) → ¬ When11 N x) (fault : Fault) (entry : List ℕ) {a b : Searched × List ℕ}
    → Searches N (blocks N low) d fault entry a → Searches N (blocks N low) d fault entry b → a ≡ b
one_searches N L {d} {low} P even fault entry (finds {z = z} {m = m} {k = k} {exit = exit} F p _) (finds {z = z'} {m = m'} {k = k'} {exit = exit'} G p' _) =
    let (e, f, h) = one_found N (blocks N low) fault z m k z' m' k' F G in
    let q : PlaySet N (blocks N low) d z (pattern G.rel z m) entry exit' = subst (λ y. PlaySet N (blocks N low) d y (pattern G.rel y m) entry exit') (sym e)
    (subst (λ n. PlaySet N (blocks N low) d z' (pattern G.rel z' n) entry exit') (sym f) p') in
    let s : exit ≡ exit' = one_play_set N L P even z F.hit.output (pattern F.rel z m) (pattern G.rel z m) entry exit exit'
    (λ b y a. pattern_same N (blocks N low) fault.site G.out F.out G.rel F.rel G.tables F.tables z m b F.hit.output
    (block_low N L.sound (ranked N P.loop_free) d P.depth.within (blocks N low) (balanced_of N d low _ P (even_class P even)) z a)) p q in
    cc
one_searches N L {low = low} P even fault entry (finds {z = z} {m = m} {k = k} F _ _) (finds_none {k = k'} U _) = absurd (not_both N (blocks N low) fault z m k k' F U)
one_searches N L {low = low} P even fault entry (finds_none {k = k'} U _) (finds {z = z} {m = m} {k = k} F _ _) = absurd (not_both N (blocks N low) fault z m k k' F U)
one_searches N L {low = low} P even fault entry (finds_none {k = k} U _) (finds_none {k = k'} U' _) = ap (λ n. (Searched.Untestable n, entry)) (one_untestable N (blocks N low) fault k k' U U')

pub one_search_reply : (file : List ℕ) (fault : Fault) (entry : List ℕ) {a b : Searched × List ℕ} → SearchReply file fault entry a → SearchReply file fault entry b → a ≡ b
one_search_reply file fault entry =
    one_start (λ N L. one_knowing (λ d low k P.
    one_step one_at (λ _. one_step one_least (λ even. one_step one_least (λ _. one_step one_at (λ _. one_searches N L P even fault entry))))))
