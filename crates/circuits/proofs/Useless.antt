-- No useless version of a call, and none with a slip, meets its contract: a contract allows one reply, and these replies are known.
use Rattle.std.specs.Prelude.{Option, Ok, Err}
use Prim.Native.Nat.{ℕ, zero, suc, ◌≤◌, ◌<◌}
use mathlib.Core.Path.{◌≡◌, refl, sym, ap, ◌∙◌}
use mathlib.Core.Logic.{◌⊎◌, inl, inr, ◌≢◌}
use mathlib.Core.Bool.{Bool, true, false, true≢false, false≢true}
use mathlib.Core.List.{List, [], ◌∷◌}
use lib.ListN.{get_or, replicate}
use native.Mathlib.Omega.{arith}
use Rattle.chip.specs.Netlist.{Netlist, sum_below}
use Rattle.chip.specs.Inner.Limits.{Sound}
use Rattle.chip.specs.Class.{Branch, Blocks, blocks}
use Rattle.chip.specs.Transformed.{transformed}
use Rattle.chip.specs.Faults.{Lines, good, stuck_at, stuck, play_of, Shown}
use Rattle.chip.specs.Clocks.{BlockAt, pattern_of}
use Rattle.chip.specs.Got.{Got, refused, got}
use Rattle.chip.specs.Format.{read_of}
use Rattle.chip.specs.Search.{pattern, patterns}
use Rattle.chip.specs.Search as Search
use Rattle.chip.specs.Refusals.{Step, refuses, goes_on, Start, unopened, opened, Knowing, prepared, leaving}
use Rattle.chip.specs.Replies.{TransformReply, SetReply, ReadReply, CheckReply, SearchReply, search_refused, Searches, shows, finds, finds_none}
use Rattle.chip.specs.declared.Site.TheVariants.{Net}
use Rattle.chip.specs.declared.Fault.{Fault}
use Rattle.chip.specs.declared.Reason.{Reason}
use Rattle.chip.specs.declared.Searched.{Searched}
use Rattle.chip.proofs.Decide.{reaches}
use Rattle.chip.proofs.Basics.{Ranked}
use Rattle.chip.proofs.Runs.{made, run, starts}
use Rattle.chip.proofs.Lowest.{Pair, dec_pair}
use Rattle.chip.proofs.LookBack.{Balanced}
use Rattle.chip.proofs.Transforming.{transformed_sound, transformed_ranked, transformed_within}
use Rattle.chip.proofs.Simulation.{dec_shown}
use Rattle.chip.proofs.Theorem.{balanced_of}
use Rattle.chip.proofs.Tables.{yes_of, no_of, rel_table, tables}
use Rattle.chip.proofs.Search.{bounded}
use Rattle.replies.proofs.Guards.{same_refusal}
use Rattle.replies.proofs.Unique.{one_class_reply, one_transform_reply, one_set_reply, one_read_reply, one_check_reply, one_search_reply}
use Rattle.circuits.specs.Circuits.{listing, straight, never_one, two_outputs, chained, hanging}
use Rattle.circuits.specs.Useless.{Call, None, IsRefusal, NoneRefuses, NoneConstant, NoneIdle, NoneWithout, are_bytes, Bytes, classing, transforming, ToSet, setting, ToRead, reading, ToTest, checking, searching, OfFile, OfChip, Pairs, HasPairs, OnePlay, SetsForward, ReadsForward, ReadsClock0, SeenFromZero, OneBlock, ShutOut}
use Rattle.circuits.proofs.Small.{Small, N, B, S, R, depth, low, class, deep, opens, known, working, transform_reply, set_reply, read_reply, check_reply, search_reply}
use Rattle.circuits.proofs.Rows.{hung, small_circuits}

-- a reply that a call's contract allows, to what the call is given
abbrev Reply : Call → Type 0
Reply C = (g : C.Given) × ((a : C.Answer × List ℕ) × C.Allows g a)

-- a contract that allows one answer, and two replies whose answers differ and are no refusals: a mark tells them apart
record Told (C : Call) : Type 0 where
  one : (g : C.Given) (a b : C.Answer × List ℕ) → C.Allows g a → C.Allows g b → a.0 ≡ b.0
  mark : C.Answer → ℕ
  refusals : (r : Reason) (p : ℕ) → mark (C.refusal r p) ≡ 0
  left : Reply C
  right : Reply C
  differ : (0 < mark left.1.0.0) × (0 < mark right.1.0.0) × (mark left.1.0.0 ≢ mark right.1.0.0)

-- So a version is shut out as soon as the contract allows another reply than the version's.
module _ (C : Call) (T : Told C) where
  same : (r : Reply C) (version : C.Given → C.Answer × List ℕ) → ((g : C.Given) → C.Allows g (version g)) → (version r.0).0 ≡ r.1.0.0
  same (g, (a, h)) version all = T.one g (version g) a (all g) h

  -- a version that refuses, or else answers a, answers a where something else than a refusal is allowed
  marked : (r : Reply C) → 0 < T.mark r.1.0.0 → (version : C.Given → C.Answer × List ℕ) → ((g : C.Given) → C.Allows g (version g))
      → (a : C.Answer) → IsRefusal C (version r.0).0 ⊎ ((version r.0).0 ≡ a) → T.mark a ≡ T.mark r.1.0.0
  marked r l version all a (inl (s, p, f)) = absurd (omega (arith, ap T.mark (same r version all), ap T.mark f, T.refusals s p))
  marked r l version all a (inr f) = ap T.mark (sym f ∙ same r version all)

  constant_out : NoneConstant C
  constant_out version (a, kind) all =
      T.differ.2 (sym (marked T.left T.differ.0 version all a (kind T.left.0)) ∙ marked T.right T.differ.1 version all a (kind T.right.0))

  refuses_out : NoneRefuses C
  refuses_out version kind = constant_out version (T.left.1.0.0, λ g. inl (kind g))

  without_out : (s : Reason) (p : ℕ) (r : Reply C) → r.1.0.0 ≡ C.refusal s p → NoneWithout C s
  without_out s p r e version kind all = kind r.0 p (same r version all ∙ e)

-- the buffer is another than the lent one in its first byte
idle_out : (C : Call) → ((g : C.Given) (a b : C.Answer × List ℕ) → C.Allows g a → C.Allows g b → a ≡ b)
    → (lent : C.Given → List ℕ) (r : Reply C) → get_or (lent r.0) 0 0 ≢ get_or r.1.0.1 0 0 → NoneIdle C lent
idle_out C one lent (g, (a, h)) other version kind all = other (ap (λ l. get_or l 0 0) (sym (kind g) ∙ ap (λ b. b.1) (one g (version g) a (all g) h)))

-- The replies that are known: on the circuits of P1 and P5, and for the search on those of P5 and P6.

abbrev lent : (l : List ℕ) → are_bytes l ≡ true → Bytes
lent l r = record { list = l; right = r }

classes : Told classing
classes =
    record {
      one = λ g a b. one_class_reply g.list;
      mark = λ a. elim a [ Ok c ↦ c.class | Err e ↦ 0 ];
      refusals = λ r p. refl;
      left = (lent listing refl, ((_, []), small_circuits.p1));
      right = (lent straight refl, ((_, []), small_circuits.p5));
      differ = omega arith;
    }

-- how many bytes an answer says that it wrote; a refusal wrote none
abbrev number : Got ℕ → ℕ
number (Ok n) = n
number (Err e) = 0

transforms : Told transforming
unfolding working
transforms =
    record {
      one = λ g a b h k. ap (λ c. c.0) (one_transform_reply g.file.list g.out.list h k);
      mark = number;
      refusals = λ r p. refl;
      left = (record { file = lent listing refl; out = lent (replicate 21 0) refl }, (_, small_circuits.p3 (replicate 21 0) (omega arith)));
      right = (record { file = lent straight refl; out = lent (replicate 10 0) refl }, transform_reply straight (tt, tt) (replicate 10 0) (omega arith) (no (λ l. omega arith)));
      differ = omega arith;
    }

abbrev to_set : (pattern : List ℕ) → are_bytes pattern ≡ true → ToSet
to_set pattern r = record { file = lent straight refl; output = 0; pattern = lent pattern r; play = lent (0 ∷ []) refl }

sets : Told setting
unfolding working
sets =
    record {
      one = λ g a b h k. ap (λ c. c.0) (one_set_reply g.file.list g.output g.pattern.list g.play.list h k);
      mark = number;
      refusals = λ r p. refl;
      left = (record { file = lent listing refl; output = 0; pattern = lent (1 ∷ 0 ∷ []) refl; play = lent (0 ∷ 0 ∷ []) refl }, (_, small_circuits.p2 (0 ∷ 0 ∷ []) (omega arith)));
      right = (to_set (1 ∷ []) refl, set_reply straight (tt, tt) 0 (1 ∷ []) (0 ∷ []) (omega arith) (no (λ l. omega arith)));
      differ = omega arith;
    }

abbrev to_read : (play : List ℕ) → are_bytes play ≡ true → ℕ → ToRead
to_read play r clock = record { file = lent straight refl; output = 0; play = lent play r; clock = clock; pattern = lent (0 ∷ []) refl }

reads : Told reading
unfolding working
reads =
    record {
      one = λ g a b h k. ap (λ c. c.0) (one_read_reply g.file.list g.output g.play.list g.clock g.pattern.list h k);
      mark = number;
      refusals = λ r p. refl;
      left = (
        record { file = lent listing refl; output = 0; play = lent (1 ∷ 0 ∷ []) refl; clock = 1; pattern = lent (0 ∷ 0 ∷ []) refl },
        read_reply listing (tt, tt) 0 (1 ∷ 0 ∷ []) 2 1 (0 ∷ 0 ∷ []) (omega arith) (no (λ l. omega arith)),
      );
      right = (to_read (1 ∷ []) refl 0, read_reply straight (tt, tt) 0 (1 ∷ []) 1 0 (0 ∷ []) (omega arith) (no (λ l. omega arith)));
      differ = omega arith;
    }

abbrev stuck_input : Fault
stuck_input = record { site = Net 0; stuck = 0 }

abbrev to_test : (play : List ℕ) → are_bytes play ≡ true → ToTest
to_test play r = record { file = lent straight refl; fault = stuck_input; stuck_byte = omega arith; play = lent play r }

-- of checking the two plays have one clock 0
checks : Told checking
unfolding working
checks =
    let late = check_reply straight (tt, tt) stuck_input (0 ∷ 1 ∷ []) 2 (omega arith) in
    let never = check_reply straight (tt, tt) stuck_input (0 ∷ 0 ∷ []) 2 (omega arith) in
    record {
      one = λ g a b. one_check_reply g.file.list g.fault g.play.list;
      mark = λ a. elim a [ Ok (Option.Some s) ↦ 1 | Ok Option.None ↦ 2 | Err e ↦ 0 ];
      refusals = λ r p. refl;
      left = (to_test (0 ∷ 1 ∷ []) refl, ((late.0, []), late.1));
      right = (to_test (0 ∷ 0 ∷ []) refl, ((never.0, []), never.1));
      differ = omega arith;
    }

searches : Told searching
unfolding working
searches =
    record {
      one = λ g a b h k. ap (λ c. c.0) (one_search_reply g.file.list g.fault g.play.list h k);
      mark = λ a. elim a [ Searched.Found z m k ↦ 1 | Searched.Untestable k ↦ 2 | Searched.Refused e ↦ 0 ];
      refusals = λ r p. refl;
      left = (to_test (0 ∷ []) refl, (_, small_circuits.p5_search (0 ∷ []) (omega arith)));
      right = (
        record { file = lent never_one refl; fault = record { site = Net 2; stuck = 0 }; stuck_byte = omega arith; play = lent (0 ∷ []) refl },
        (_, small_circuits.p6_search (0 ∷ []) (omega arith)),
      );
      differ = omega arith;
    }

-- The tries in an answer of the search.

search_tries : (file : List ℕ) (fault : Fault) (entry exit : List ℕ) (z m k : ℕ) → SearchReply file fault entry (Searched.Found z m k, exit)
    → OfFile file (λ N B. (F : Search.Found N B fault z m k) × (k ≤ sum_below (patterns B F.out F.rel) N.outs))
search_tries file fault entry exit z m k (opened {N = N} o (prepared {d = d} {low = low} {k = c} P (goes_on _ (goes_on _ (goes_on _ (goes_on _ (finds F _ _))))))) =
    (N, o, d, low, c, P, (F, bounded N (blocks N low) fault z m k F))

search_all_tries : (file : List ℕ) (fault : Fault) (entry exit : List ℕ) (k : ℕ) → SearchReply file fault entry (Searched.Untestable k, exit)
    → OfFile file (λ N B. (F : Search.Untestable N B fault k) × (k ≡ sum_below (patterns B F.out F.rel) N.outs))
search_all_tries file fault entry exit k (opened {N = N} o (prepared {d = d} {low = low} {k = c} P (goes_on _ (goes_on _ (goes_on _ (goes_on _ (finds_none F _))))))) =
    (N, o, d, low, c, P, (F, F.no_hit.tries))

-- A refusal leaves the lent buffer as it was: each guard's does, and what comes behind the last guard is none.
module _ {A : Type 0} (refuse : Reason → ℕ → A) (entry : List ℕ) where
  abbrev Keeps : A × List ℕ → Type 0
  Keeps a = (r : Reason) (p : ℕ) → a.0 ≡ refuse r p → a.1 ≡ entry

  guard_keeps : (When : ℕ → Type 0) (s : Reason) (Rest : A × List ℕ → Type 0) → ((a : A × List ℕ) → Rest a → Keeps a) → (a : A × List ℕ) → Step When (leaving entry refuse s) Rest a → Keeps a
  guard_keeps When s Rest rest a (refuses w) r p e = refl
  guard_keeps When s Rest rest a (goes_on _ h) r p e = rest a h r p e

  call_keeps : (Call : Netlist → ℕ → (ℕ → ℕ) → ℕ → A × List ℕ → Type 0) → ((N : Netlist) (d : ℕ) (low : ℕ → ℕ) (k : ℕ) (a : A × List ℕ) → Call N d low k a → Keeps a)
      → (file : List ℕ) (a : A × List ℕ) → Start (leaving entry refuse) (λ N. Knowing N (Call N)) file a → Keeps a
  call_keeps Call keeps file a (unopened o) r p e = refl
  call_keeps Call keeps file a (opened o (prepared P c)) r p e = keeps _ _ _ _ a c r p e

transform_keeps : (file entry exit : List ℕ) (r : Reason) (p : ℕ) → TransformReply file entry (refused r p, exit) → exit ≡ entry
transform_keeps file entry exit r p h =
    let g = guard_keeps refused entry in
    call_keeps refused entry _ (λ N d low k. g _ _ _ (g _ _ _ (g _ _ _ (g _ _ _ (λ a w r p e. let f = w.0 in cc)))))
    file (refused r p, exit) h r p refl

set_keeps : (file : List ℕ) (output : ℕ) (pattern entry exit : List ℕ) (r : Reason) (p : ℕ) → SetReply file output pattern entry (refused r p, exit) → exit ≡ entry
set_keeps file output pattern entry exit r p h =
    let g = guard_keeps refused entry in
    call_keeps refused entry _ (λ N d low k. g _ _ _ (g _ _ _ (g _ _ _ (g _ _ _ (g _ _ _ (λ a w r p e. let f = w.0 in cc))))))
    file (refused r p, exit) h r p refl

read_keeps : (file : List ℕ) (output : ℕ) (play : List ℕ) (clock : ℕ) (entry exit : List ℕ) (r : Reason) (p : ℕ) → ReadReply file output play clock entry (refused r p, exit) → exit ≡ entry
read_keeps file output play clock entry exit r p h =
    let g = guard_keeps refused entry in
    call_keeps refused entry _ (λ N d low k. g _ _ _ (g _ _ _ (g _ _ _ (g _ _ _ (g _ _ _ (g _ _ _ (λ a w r p e. let f = w.0 in cc)))))))
    file (refused r p, exit) h r p refl

found_keeps : (N : Netlist) (B : Blocks) (d : ℕ) (fault : Fault) (entry : List ℕ) (a : Searched × List ℕ) → Searches N B d fault entry a → Keeps search_refused entry a
found_keeps N B d fault entry a (finds F P s) r p e = cc
found_keeps N B d fault entry a (finds_none U g) r p e = refl

search_keeps : (file : List ℕ) (fault : Fault) (entry exit : List ℕ) (r : Reason) (p : ℕ) → SearchReply file fault entry (search_refused r p, exit) → exit ≡ entry
search_keeps file fault entry exit r p h =
    let g = guard_keeps search_refused entry in
    call_keeps search_refused entry _ (λ N d low k. g _ _ _ (g _ _ _ (g _ _ _ (g _ _ _ (found_keeps N (blocks N low) d fault entry)))))
    file (search_refused r p, exit) h r p refl

-- What is read back or shown is so from clock d on.

read_late : (file : List ℕ) (output : ℕ) (play : List ℕ) (clock : ℕ) (entry exit : List ℕ) (n : ℕ) → ReadReply file output play clock entry (got n, exit) → OfChip file (λ N d _. d ≤ clock)
read_late file output play clock entry exit n (opened {N = M} o (prepared {d = d} {low = l} {k = c} P (goes_on _ (goes_on _ (goes_on _ (goes_on _ (goes_on _ (goes_on _ (e, r))))))))) = (M, d, l, c, o, P, r.reads.late)

check_late : (file : List ℕ) (fault : Fault) (play : List ℕ) (t z : ℕ) → CheckReply file fault play (got (Option.Some (record { clock = t; output = z }))) → OfChip file (λ N d _. d ≤ t)
check_late file fault play t z (opened {N = M} o (prepared {d = d} {low = l} {k = c} P (goes_on _ (goes_on _ (goes_on _ (shows _ s)))))) = (M, d, l, c, o, P, s.from)

-- The slips, each on a circuit on which it goes wrong.

-- two buffers that begin with 1 and with 0 are not one
differ_out : {A : Type 0} {a b : A × List ℕ} {x y : A} {l k : List ℕ} → a ≡ (x, 1 ∷ l) → b ≡ (y, 0 ∷ k) → ¬ (a.1 ≡ b.1)
differ_out e f q =
    let n : ◌≡◌ {A = ℕ} 1 0 = ap (λ a. get_or a.1 0 0) (sym e) ∙ ap (λ l. get_or l 0 0) q ∙ ap (λ a. get_or a.1 0 0) f in
    omega arith

-- of the chain, the first and the third branch are separable, and there is one block
pairs_out : None classing HasPairs
unfolding working Pair
pairs_out version kind all =
    let g = lent chained refl in
    let M = N chained (tt, tt) in
    let P : Pairs M 1 = kind g 3 0 1 (one_class_reply chained (all g) small_circuits.one_chain) M _ _ _ (opens chained (tt, tt)) (known chained (tt, tt)) in
    let a : Branch M 0 0 = record { pin = omega arith; names = refl; input = omega arith } in
    let c : Branch M 0 2 = record { pin = omega arith; names = refl; input = omega arith } in
    let (b, l, h) = P.each 0 0 a in
    let (b', l', h') = P.each 0 2 c in
    let e : b' ≡ b = omega arith in
    elim (P.pairs 0 0 2 b a c h (rw e at h') (λ r _ _. omega arith)) [
      | inl q ↦ omega arith
      | inr j ↦ no_of (dec_pair M (S chained (tt, tt)) (R chained (tt, tt)) 0 2 (omega arith) (omega arith)) refl (0, a, c, j)
    ]

-- of the listing's circuit, block 0 reaches output 0 with one flip-flop on the way
deep_block : (s : Small (read_of listing)) → BlockAt (N listing s) (B listing s) 0 0 1
unfolding working
deep_block s =
    record {
      pin = 0;
      branch = record { pin = omega arith; names = refl; input = omega arith };
      block = refl;
      reach = yes_of (reaches (N listing s) 0 (omega arith) (S listing s) (R listing s) 0 1 (omega arith)) refl;
    }

-- and forward from the input it would have the value that clock 1 has
set_forward_out : None setting SetsForward
unfolding working sets
set_forward_out version kind all =
    let g = sets.left.0 in
    let e : version g ≡ (got 2, 1 ∷ 0 ∷ []) = one_set_reply listing 0 (1 ∷ 0 ∷ []) (0 ∷ 0 ∷ []) (all g) sets.left.1.1 in
    let f = kind g 2 (ap (λ a. a.0) e) (N listing (tt, tt)) _ _ _ (opens listing (tt, tt)) (known listing (tt, tt)) 0 1 (deep_block (tt, tt)) in
    false≢true (ap (λ a. play_of 1 a.1 1 0) (sym e) ∙ f)

read_forward_out : None reading ReadsForward
unfolding working reads
read_forward_out version kind all =
    let g = reads.left.0 in
    let e : version g ≡ (got 2, 1 ∷ 0 ∷ []) = one_read_reply listing 0 (1 ∷ 0 ∷ []) 1 (0 ∷ 0 ∷ []) (all g) reads.left.1.1 in
    let f = kind g 2 (ap (λ a. a.0) e) (N listing (tt, tt)) _ _ _ (opens listing (tt, tt)) (known listing (tt, tt)) 0 1 1 (deep_block (tt, tt)) refl in
    true≢false (ap (λ a. pattern_of a.1 0) (sym e) ∙ f)

-- of P7, one pattern sets 1, 0 for output 0 and 0, 0 for output 1
one_play_out : None setting OnePlay
unfolding working
one_play_out version kind all =
    let g : ℕ → ToSet = λ z. record { file = lent two_outputs refl; output = z; pattern = lent (1 ∷ 0 ∷ []) refl; play = lent (0 ∷ 0 ∷ []) refl } in
    let e : version (g 0) ≡ (got 2, 1 ∷ 0 ∷ []) =
    one_set_reply two_outputs 0 (1 ∷ 0 ∷ []) (0 ∷ 0 ∷ []) (all (g 0)) (set_reply two_outputs (tt, tt) 0 (1 ∷ 0 ∷ []) (0 ∷ 0 ∷ []) (omega arith) (no (λ l. omega arith))).1 in
    let f : version (g 1) ≡ (got 2, 0 ∷ 0 ∷ []) =
    one_set_reply two_outputs 1 (1 ∷ 0 ∷ []) (0 ∷ 0 ∷ []) (all (g 1)) (set_reply two_outputs (tt, tt) 1 (1 ∷ 0 ∷ []) (0 ∷ 0 ∷ []) (omega arith) (no (λ l. omega arith))).1 in
    differ_out e f (kind (g 0) (g 1) 2 2 refl refl refl (ap (λ a. a.0) e) (ap (λ a. a.0) f))

-- two plays of two clocks with the same clock 0 read back differently at clock 1
clock_0_out : None reading ReadsClock0
unfolding working
clock_0_out version kind all =
    let g = to_read (0 ∷ 1 ∷ []) refl 1 in
    let h = to_read (0 ∷ 0 ∷ []) refl 1 in
    let e : version g ≡ (got 1, 1 ∷ []) =
    one_read_reply straight 0 (0 ∷ 1 ∷ []) 1 (0 ∷ []) (all g) (read_reply straight (tt, tt) 0 (0 ∷ 1 ∷ []) 2 1 (0 ∷ []) (omega arith) (no (λ l. omega arith))).1 in
    let f : version h ≡ (got 1, 0 ∷ []) =
    one_read_reply straight 0 (0 ∷ 0 ∷ []) 1 (0 ∷ []) (all h) (read_reply straight (tt, tt) 0 (0 ∷ 0 ∷ []) 2 1 (0 ∷ []) (omega arith) (no (λ l. omega arith))).1 in
    differ_out e f (kind g h 1 1 (refl, refl, refl) refl refl refl (ap (λ a. a.0) e) (ap (λ a. a.0) f))

-- P4: with the DFF started at 0, the input stuck at 0 makes a difference on clock 0
from_zero_out : None checking SeenFromZero
unfolding working
from_zero_out version kind all =
    let g : ToTest = record { file = lent listing refl; fault = stuck_input; stuck_byte = omega arith; play = lent (1 ∷ []) refl } in
    let M : Netlist = N listing (tt, tt) in
    let play : ℕ → ℕ → Bool = play_of 1 (1 ∷ []) in
    let f : Lines = stuck stuck_input in
    let s : Sound M = S listing (tt, tt) in
    let r : Ranked M = R listing (tt, tt) in
    kind g M _ _ _ (opens listing (tt, tt)) (known listing (tt, tt)) 1 0 0 (record { long = refl; few = omega arith }) (omega arith) (omega arith)
    (record {
      v = made M good play (λ _. false) s r;
      w = made M f play (λ _. false) s r;
      good_run = run M good play (λ _. false) s r;
      faulty_run = run M f play (λ _. false) s r;
      good_start = starts M good play (λ _. false) s r;
      faulty_start = starts M f play (λ _. false) s r;
      differ = true≢false;
    })
    (one_check_reply listing stuck_input (1 ∷ []) (all g) (check_reply listing (tt, tt) stuck_input (1 ∷ []) 1 (omega arith)).1)

-- Of the listing's circuit, with either block stuck at 1 pattern 0 shows the fault, so that pattern 1 is not the first.
module _ (s : Small (read_of listing)) (bal : Balanced (N listing s) (B listing s)) where
  abbrev Shows : ℕ → Type 0
  Shows b =
      Shown (transformed (N listing s) (B listing s)) (stuck_at (Net b) true)
      (λ _. pattern (rel_table (N listing s) (S listing s) (R listing s) (depth listing s) (deep listing s) (B listing s) bal (Net 0)) 0 0) 0 0

  unfoldable dec_shows : (b : ℕ) → Dec (Shows b)
  unfolding working
  dec_shows b =
      dec_shown (transformed (N listing s) (B listing s))
      (transformed_sound (N listing s) (S listing s) (R listing s) (B listing s) bal.counted)
      (transformed_ranked (N listing s) (S listing s) (R listing s) (B listing s) bal.counted)
      0 (transformed_within (N listing s) (B listing s)) (stuck_at (Net b) true) _ 0 0 (omega arith) (omega arith)

  stuck_shows : (b : ℕ) → b < 2 → Shows b
  unfolding working dec_shows
  stuck_shows zero l = yes_of (dec_shows 0) refl
  stuck_shows (suc zero) l = yes_of (dec_shows 1) refl
  stuck_shows (suc (suc b)) l = absurd (omega arith)

one_block_out : None searching OneBlock
unfolding working
one_block_out version kind all =
    let g : ToTest = record { file = lent listing refl; fault = record { site = Net 0; stuck = 1 }; stuck_byte = omega arith; play = lent (0 ∷ 0 ∷ []) refl } in
    let s : Small (read_of listing) = (tt, tt) in
    let bal : Balanced (N listing s) (B listing s) = balanced_of (N listing s) (depth listing s) (low listing s) (class listing s) (known listing s) (λ e. omega arith) in
    let e = one_search_reply listing g.fault (0 ∷ 0 ∷ []) (all g) (small_circuits.listed (0 ∷ 0 ∷ []) (omega arith)).1 in
    let T = tables (N listing s) (S listing s) (R listing s) (depth listing s) (deep listing s) (B listing s) bal (Net 0) in
    let (b, l, _, first) = kind g 0 0 1 2 refl (ap (λ a. a.0) e) (N listing s) _ _ _ (opens listing s) (known listing s) (omega arith) _ _ T in
    first.first_there 0 (omega arith) (stuck_shows s bal b l)

pub shut_out : ShutOut
unfolding working transforms sets reads checks searches
shut_out =
    record {
      class_refuses = refuses_out classing classes;
      class_constant = constant_out classing classes;
      class_hanging = λ version kind all.
          let g = lent hanging refl in
          omega (arith, (same_refusal (kind g hung.0 1 hung.1 hung.2) (one_class_reply hanging (all g) (unopened small_circuits.p9_hanging))).1);
      class_pairs = pairs_out;
      transform_refuses = refuses_out transforming transforms;
      transform_constant = constant_out transforming transforms;
      transform_idle = idle_out transforming (λ g a b. one_transform_reply g.file.list g.out.list) (λ g. g.out.list) transforms.left (omega arith);
      transform_room = without_out transforming transforms Reason.ShortBuffer 10 (record { file = lent straight refl; out = lent [] refl }, transform_reply straight (tt, tt) [] (omega arith) (yes (omega arith))) refl;
      transform_keeps = transform_keeps;
      set_refuses = refuses_out setting sets;
      set_constant = constant_out setting sets;
      set_idle = idle_out setting (λ g a b. one_set_reply g.file.list g.output g.pattern.list g.play.list) (λ g. g.play.list) sets.left (omega arith);
      set_keeps = set_keeps;
      set_room = without_out setting sets Reason.ShortBuffer 1 (record { file = lent straight refl; output = 0; pattern = lent (1 ∷ []) refl; play = lent [] refl }, set_reply straight (tt, tt) 0 (1 ∷ []) [] (omega arith) (yes (omega arith))) refl;
      set_one_play = one_play_out;
      set_forward = set_forward_out;
      set_byte = without_out setting sets Reason.BadByte 0 (to_set (2 ∷ []) refl, set_reply straight (tt, tt) 0 (2 ∷ []) (0 ∷ []) (omega arith) (no (λ l. omega arith))) refl;
      read_refuses = refuses_out reading reads;
      read_constant = constant_out reading reads;
      read_idle = idle_out reading (λ g a b. one_read_reply g.file.list g.output g.play.list g.clock g.pattern.list) (λ g. g.pattern.list) reads.left (omega arith);
      read_keeps = read_keeps;
      read_byte = without_out reading reads Reason.BadByte 0 (to_read (2 ∷ []) refl 0, read_reply straight (tt, tt) 0 (2 ∷ []) 1 0 (0 ∷ []) (omega arith) (no (λ l. omega arith))) refl;
      read_clock = without_out reading reads Reason.BadClock 1 (to_read (1 ∷ []) refl 1, read_reply straight (tt, tt) 0 (1 ∷ []) 1 1 (0 ∷ []) (omega arith) (no (λ l. omega arith))) refl;
      read_room = without_out reading reads Reason.ShortBuffer 1 (
        record { file = lent straight refl; output = 0; play = lent (1 ∷ []) refl; clock = 0; pattern = lent [] refl },
        read_reply straight (tt, tt) 0 (1 ∷ []) 1 0 [] (omega arith) (yes (omega arith)),
      ) refl;
      read_late = read_late;
      read_clock_0 = clock_0_out;
      read_forward = read_forward_out;
      check_refuses = refuses_out checking checks;
      check_constant = constant_out checking checks;
      check_byte = let w = check_reply straight (tt, tt) stuck_input (2 ∷ []) 1 (omega arith) in without_out checking checks Reason.BadByte 0 (to_test (2 ∷ []) refl, ((w.0, []), w.1)) refl;
      check_clock_0 = λ version (answer, kind) all.
          let e = same checking checks checks.left version all in
          let f = same checking checks checks.right version all in
          checks.differ.2 (ap checks.mark (sym e ∙ kind checks.left.0 ∙ sym (kind checks.right.0) ∙ f));
      check_repeats = λ version kind all.
          let e = same checking checks checks.left version all in
          let f = same checking checks checks.right version all in
          elim (kind checks.left.0 checks.right.0 (refl, refl, refl) refl) [
            | inl r ↦ omega (arith, checks.differ.0, ap checks.mark (sym e ∙ r.2), checks.refusals r.0 r.1)
            | inr v ↦ elim v [
              | inl r ↦ omega (arith, checks.differ.1, ap checks.mark (sym f ∙ r.2), checks.refusals r.0 r.1)
              | inr q ↦ checks.differ.2 (ap checks.mark (sym e ∙ q ∙ f))
            ]
          ];
      check_late = check_late;
      check_from_zero = from_zero_out;
      search_refuses = refuses_out searching searches;
      search_constant = constant_out searching searches;
      search_idle = idle_out searching (λ g a b. one_search_reply g.file.list g.fault g.play.list) (λ g. g.play.list) searches.left (omega arith);
      search_keeps = search_keeps;
      search_room = without_out searching searches Reason.ShortBuffer 1 (to_test [] refl, search_reply straight (tt, tt) stuck_input (omega arith) [] (yes (omega arith))) refl;
      search_one_block = one_block_out;
      search_tries = search_tries;
      search_all_tries = search_all_tries;
    }
