-- What is found on a prepared chip is what the search replies.
use Prim.Native.Nat.{ℕ, suc, ◌+◌, ◌*◌, ◌^◌, ◌≤◌, ◌<◌}
use mathlib.Core.Path.{◌≡◌, refl, sym, ap, ◌∙◌, subst}
use mathlib.Core.Logic.{◌≢◌}
use mathlib.Core.Bool.{Bool, true, false, cond}
use mathlib.Core.List.{List}
use native.Mathlib.Omega.{arith}
use native.Mathlib.Numerals.{add-one}
use borrow.Author.Tests.{eq-eqb}
use lib.ListN.{length}
use Rattle.chip.specs.Netlist.{Netlist}
use Rattle.chip.specs.Class.{Lowest, Blocks, blocks, tally, Prepared}
use Rattle.chip.specs.Faults.{FaultIn, stuck, play_of}
use Rattle.chip.specs.Search.{SiteReaches, Tables, width, digit}
use Rattle.chip.specs.Search as S
use Rattle.chip.specs.Refusals.{Step, refuses, goes_on, prepared, When11, Wide, When16, Short, leaving}
use Rattle.chip.specs.Replies.{Searches, finds, finds_none, SearchOn, search_refused}
use Rattle.chip.specs.declared.Reason.{Reason}
use Rattle.chip.specs.declared.Refusal.{Refusal}
use Rattle.chip.specs.declared.Fault.{Fault}
use Rattle.chip.specs.declared.Searched.{Searched}
use Rattle.chip.specs.declared.Searched.TheVariants.{Found, Untestable, Refused}
use Rattle.chip.proofs.Basics.{Ranked}
use Rattle.chip.proofs.LookBack.{Balanced}
use Rattle.chip.proofs.Blocks.{tally_same}
use Rattle.chip.proofs.Loops.{ranked}
use Rattle.chip.proofs.Theorem.{balanced_of}
use Rattle.chip.proofs.Search.{out_same, rel_same, found_shows, untestable_right}
use Rattle.chip.proofs.Bytes.{showable_is}
use Rattle.replies.proofs.Opening.{not_uneven}
use Rattle.words.proofs.Bits.{digit_one}
use Rattle.levels.specs.Levels.{Mask}
use Rattle.structure.specs.Inner.Shape.{Ready}
use Rattle.structure.specs.declared.Shape.{Shape}
use Rattle.slots.specs.Slots.{rel_of}
use Rattle.walk.specs.Walk.{out_of, width_of, TooWide, Walkable, WalkIs, Played}
use Rattle.walk.specs.declared.Walk.{Walk}
use Rattle.walk.specs.declared.Walk.TheVariants as W
use Rattle.spots.specs.Spots.{BlockSpots}
use Rattle.spots.proofs.Playing.{Playable}
use Rattle.findings.specs.Answered.{Settable, Left, Answered}

-- before the class is asked for
module _ (N : Netlist) {d : ℕ} {low : ℕ → ℕ} {k : ℕ} (P : Prepared N d low k) (fault : Fault) (entry : List ℕ) where
  pub reply_12 : ¬ FaultIn N fault → SearchOn N fault entry (search_refused Reason.NoFault 0, entry)
  reply_12 g = prepared P (refuses (record { there = refl; holds = g }))

  pub reply_11 : (y : ℕ) → FaultIn N fault → When11 N y → SearchOn N fault entry (search_refused Reason.ClassOne y, entry)
  reply_11 y K w = prepared P (goes_on (λ p h. h.holds K) (refuses w))

module _ {N : Netlist} {n : ℕ} {s : Shape} {firsts order branches block reached : List ℕ} (R : Ready N n s firsts order branches block reached) (g : s.class ≢ 1)
    (fault : Fault) (outs : ℕ) (M : Mask N.outs outs (SiteReaches N fault.site)) where
  abbrev low : ℕ → ℕ
  low = R.shaped.low

  abbrev B : Blocks
  B = blocks N low

  tables : Tables N B fault.site (out_of outs) (rel_of reached)
  tables =
      record {
        out_yes = M.set;
        out_no = M.clear;
        rel_yes = λ z b l h e. (R.shaped.reach_table b (omega (arith, R.shaped.count))).set z l e;
        rel_no = λ z b l h e. (R.shaped.reach_table b (omega (arith, R.shaped.count))).clear z l e;
      }

  width_is : (z : ℕ) → width_of s.blocks reached z ≡ width B (rel_of reached) z
  width_is z = ap (tally (rel_of reached z)) R.shaped.count

  pub walkable : (y : ℕ) → TooWide N.outs s.blocks outs reached y → N.outs ≤ y → Walkable N s fault outs reached
  walkable y t l = record { even = g; out_mask = M; narrow = λ z h e. t.none_below z (omega arith) e }

  -- an output is not wide if it is not among the word's wide ones
  not_wide : (z : ℕ) → (out_of outs z ≡ true → width_of s.blocks reached z ≤ 16) → ¬ Wide N B fault.site z
  not_wide z narrow w =
      let e : out_of outs z ≡ true = out_same N B fault.site (out_of outs) w.out (rel_of reached) w.rel tables w.tables z w.output ∙ w.reached in
      omega (
        arith,
        narrow e,
        width_is z,
        w.wide,
        tally_same (rel_of reached z) (w.rel z) B.count (λ b h. rel_same N B fault.site (out_of outs) w.out (rel_of reached) w.rel tables w.tables z b w.output h),
      )

  when_16 : (y : ℕ) → TooWide N.outs s.blocks outs reached y → y < N.outs → When16 N B fault.site y
  when_16 y t l =
      record {
        holds = record { out = out_of outs; rel = rel_of reached; tables = tables; output = l; reached = t.in_word l; wide = omega (arith, t.wide l, width_is y) };
        none_below = λ z h. not_wide z (t.none_below z h);
      }

  not_16 : Walkable N s fault outs reached → (z : ℕ) → ¬ When16 N B fault.site z
  not_16 W z w = not_wide z (W.narrow z w.holds.output) w.holds

  -- a hit is at an output of the word, and one of its patterns
  hit_in : (z m k : ℕ) → WalkIs N B fault outs reached (W.Hit z m k) → (out_of outs z ≡ true) × (m < 2 ^ width_of s.blocks reached z)
  hit_in z m k h = go (out_of outs z) refl h.number
    where
      go : (b : Bool) → out_of outs z ≡ b → m < cond (out_of outs z) (2 ^ width B (rel_of reached) z) 0 → (out_of outs z ≡ true) × (m < 2 ^ width_of s.blocks reached z)
      go true e l = (e, rw (width_is z) (rw e at l))
      go false e l = let n : m < 0 = rw e at l in absurd (omega arith)

  ranks : Ranked N
  ranks = ranked N R.shaped.prepared.loop_free

  bal : Balanced N B
  bal = balanced_of N s.depth low s.class R.shaped.prepared g

  P : Prepared N s.depth low s.class
  P = R.shaped.prepared

  module _ (K : FaultIn N fault) where
    pub reply_16 : (y : ℕ) (entry : List ℕ) → TooWide N.outs s.blocks outs reached y → y < N.outs → SearchOn N fault entry (search_refused Reason.WideOutput y, entry)
    reply_16 y entry t l = prepared P (goes_on (λ p h. h.holds K) (goes_on (not_uneven P g) (refuses (when_16 y t l))))

    from_15 : {entry : List ℕ} {a : Searched × List ℕ} → Walkable N s fault outs reached
        → Step (Short entry (suc s.depth * N.inputs)) (leaving entry search_refused Reason.ShortBuffer) (Searches N B s.depth fault entry) a → SearchOn N fault entry a
    from_15 W r = prepared P (goes_on (λ p h. h.holds K) (goes_on (not_uneven P g) (goes_on (not_16 W) r)))

    pub reply_15 : (entry : List ℕ) → Walkable N s fault outs reached → length entry < (s.depth + 1) * N.inputs
        → SearchOn N fault entry (search_refused Reason.ShortBuffer ((s.depth + 1) * N.inputs), entry)
    reply_15 entry W l = rw (add-one s.depth) (from_15 W (refuses (record { there = refl; holds = rw (add-one s.depth) at l })))

    module _ (entry : List ℕ) (Y : Walkable N s fault outs reached) (l : suc s.depth * N.inputs ≤ length entry) where
      reply_found : (z m k : ℕ) (exit : List ℕ) → WalkIs N B fault outs reached (W.Hit z m k) → Played N B s.depth z m reached entry exit → SearchOn N fault entry (Found z m k, exit)
      reply_found z m k exit h p =
          let F : S.Found N B fault z m k = record { out = out_of outs; rel = rel_of reached; tables = tables; hit = h } in
          from_15 Y (goes_on (λ q w. omega (arith, w.holds)) (finds F p (found_shows N R.limits.sound ranks s.depth P.depth.within B bal fault z m k F (play_of N.inputs p.play) p.sets)))

      reply_none : (k : ℕ) → WalkIs N B fault outs reached (W.Missed k) → SearchOn N fault entry (Untestable k, entry)
      reply_none k h =
          let U : S.Untestable N B fault k = record { out = out_of outs; rel = rel_of reached; tables = tables; no_hit = h } in
          from_15 Y (goes_on (λ q w. omega (arith, w.holds)) (finds_none U (λ t.
          untestable_right N R.limits.sound ranks s.depth P.depth.within B bal fault k U ((showable_is N R.limits.sound ranks s.depth P.depth.within (stuck fault)).1 t))))

  -- what the walk says, as an answer
  module _ (K : FaultIn N fault) (Y : Walkable N s fault outs reached) (room : ℕ) (fits : suc s.depth * N.inputs ≤ room) (r : Walk) (w : WalkIs N B fault outs reached r) where
    pub answer_found : (z m k : ℕ) → r ≡ W.Hit z m k → Answered N s fault reached room (Found z m k)
    answer_found z m k e =
        let h : WalkIs N B fault outs reached (W.Hit z m k) = subst (WalkIs N B fault outs reached) e w in
        let (y, l) = hit_in z m k h in
        record {
          found = λ z' m' k' f.
              let a : z ≡ z' = cc in
              let b : m ≡ m' = cc in
              subst (λ u. Settable N s reached room u m') a (subst (Settable N s reached room z) b
              (record { even = g; output = h.output; narrow = Y.narrow z h.output y; number = l; fits = fits }));
          replies = λ entry exit l p. reply_found K entry Y (omega arith) z m k exit h (p low P.lowest);
        }

    pub answer_none : (k : ℕ) → r ≡ W.Missed k → Answered N s fault reached room (Untestable k)
    answer_none k e =
        record {
          found = λ z m k' f. let z : ◌≡◌ {A = ℕ} 0 1 = cc in absurd (omega arith);
          replies = λ entry exit l p. subst (λ e. SearchOn N fault entry (Untestable k, e)) (sym p) (reply_none K entry Y (omega arith) k (subst (WalkIs N B fault outs reached) e w));
        }

-- an output is in its own word
pub own_bit : (y w : ℕ) → w ≡ 2 ^ y → digit y w ≡ true
own_bit y w e = ap (digit y) e ∙ digit_one y y ∙ eq-eqb y y refl

-- a pattern that can be set can be set by the places of its output's row
pub playable : {N : Netlist} {n : ℕ} {s : Shape} {firsts order branches block reached : List ℕ} (R : Ready N n s firsts order branches block reached) (spots : List ℕ) (room z m : ℕ)
    → BlockSpots N s.depth z reached spots → Settable N s reached room z m → Playable N s.depth z m reached spots
playable {n = n} {s = s} {firsts = firsts} {order = order} {branches = branches} {block = block} R spots room z m T S =
    record {
      pins = n;
      shape = s;
      firsts = firsts;
      order = order;
      branches = branches;
      block = block;
      ready = R;
      depth = refl;
      even = S.even;
      output = S.output;
      narrow = S.narrow;
      number = S.number;
      places = T;
    }

-- an answer that is known: a refusal, what it asks, and the reply
module _ (N : Netlist) (s : Shape) (fault : Fault) (reached : List ℕ) (room : ℕ) where
  pub answer_refused : (e : Refusal) → ((entry : List ℕ) → length entry ≡ room → SearchOn N fault entry (Refused e, entry)) → Answered N s fault reached room (Refused e)
  answer_refused e h =
      record {
        found = λ z m k f. let z : ◌≡◌ {A = ℕ} 0 1 = cc in absurd (omega arith);
        replies = λ entry exit l same. subst (λ x. SearchOn N fault entry (Refused e, x)) (sym same) (h entry l);
      }

  module _ (r : Searched) (A : Answered N s fault reached room r) (entry : List ℕ) (l : length entry ≡ room) where
    -- where nothing is found, nothing is left to be written
    pub replies_unset : ((z m k : ℕ) → r ≢ Found z m k) → SearchOn N fault entry (r, entry)
    replies_unset none = A.replies entry entry l (go r none)
      where
        go : (a : Searched) → ((z m k : ℕ) → a ≢ Found z m k) → Left N s.depth reached entry entry a
        go (Found z m k) g = absurd (g z m k refl)
        go (Untestable k) g = refl
        go (Refused e) g = refl

    pub replies_found : (z m k : ℕ) (exit : List ℕ) → r ≡ Found z m k → ((low : ℕ → ℕ) → Lowest N low → Played N (blocks N low) s.depth z m reached entry exit)
        → SearchOn N fault entry (Found z m k, exit)
    replies_found z m k exit e p = (subst (Answered N s fault reached room) e A).replies entry exit l p
