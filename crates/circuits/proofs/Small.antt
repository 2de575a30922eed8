-- A file that is small enough to work out: its netlist is prepared by the searches that prove that depth, blocks and class exist, and the calls' replies follow.
use Rattle.std.specs.Prelude.{Option, Ok, Err}
use Prim.Native.Nat.{ℕ, suc, ◌+◌, ◌*◌, ◌≤◌, ◌<◌}
use mathlib.Core.Path.{◌≡◌, refl, ap, ◌∙◌, subst}
use mathlib.Core.Logic.{◌⊎◌, inl, inr}
use mathlib.Core.Bool.{Bool}
use mathlib.Core.List.{List}
use lib.ListN.{length, get_or}
use lib.Dec.{T, leb, eqb, leb→le}
use native.Mathlib.Omega.{arith}
use native.Mathlib.Decide.{dec_le, dec_lt, ℕ_discrete}
use Rattle.chip.specs.Netlist.{Netlist, all_pins, sum_below, takes, gate, is_flop}
use Rattle.chip.specs.Inner.Limits.{Sound, InLimits}
use Rattle.chip.specs.Got.{Got, got}
use Rattle.chip.specs.Format.{Parsed, read_of, count_at_place, word_at, byte_at, inputs, pad_at, is_in, cells, cell, kind_at, pin_count_at, pins, net_at, ending, outputs, chip_of}
use Rattle.chip.specs.File.{file_of, transformed_file}
use Rattle.chip.specs.Class.{Within, Prepared, Blocks, blocks}
use Rattle.chip.specs.Pads.{is_buf, fed, source, into_pad, branch_of}
use Rattle.chip.specs.Transformed.{on_way, copied, copies, copy_at, copy_block, copy_cell, net_for, home, old_cell, old_pin, opened_net, flat}
use Rattle.chip.specs.Faults.{Shown, old_net, play_of, SiteIn, FaultIn, stuck}
use Rattle.chip.specs.Clocks.{pattern_of}
use Rattle.chip.specs.Search.{pattern}
use Rattle.chip.specs.Refusals.{Step, refuses, goes_on, Opens, read, Start, opened, Knowing, prepared, When11, Clocks, AboveOne, When18, When19, Short}
use Rattle.chip.specs.Replies.{ClassReply, TransformReply, PlaySet, SetReply, PatternRead, ReadReply, CheckReply, Checks, shows, shows_not, SearchReply, Searches, finds, finds_none}
use Rattle.chip.specs.declared.Fault.{Fault}
use Rattle.chip.specs.declared.Reason.{Reason}
use Rattle.chip.specs.declared.Sight.{Sight}
use Rattle.chip.specs.declared.Searched.{Searched}
use Rattle.chip.proofs.Basics.{Ranked}
use Rattle.chip.proofs.Bools.{bit_is}
use Rattle.chip.proofs.Decide.{reaches, dec_reach, find, first_hit, dec_and, dec_or, dec_pin, map_dec}
use Rattle.chip.proofs.Runs.{rounds, value, now, made}
use Rattle.chip.proofs.LookBack.{Balanced}
use Rattle.chip.proofs.Loops.{loop_free, pick}
use Rattle.chip.proofs.Blocks.{tally_most}
use Rattle.chip.proofs.Transforming.{transformed_ranked, new_rank}
use Rattle.chip.proofs.Depths.{has_depth, deepest, at, rise}
use Rattle.chip.proofs.Lowest.{has_lowest, dec_pair, all, along, join}
use Rattle.chip.proofs.Classes.{has_class, class_or_place, dec_class3, lowest_uneven, dec_uneven, dec_not, alike}
use Rattle.chip.proofs.Clocks.{setting, setting_sets, put_at, reading, reading_reads, take_reached, block_low, dec_at, dec_block, dec_place}
use Rattle.chip.proofs.Simulation.{dec_shown}
use Rattle.chip.proofs.Bytes.{rows, rows_long, rows_at, rows_play, rows_bits, rows_value, showable_is}
use Rattle.chip.proofs.Tables.{tables, is_yes, dec_pin_at, dec_site, test, out_table, rel_table}
use Rattle.chip.proofs.Search.{answered, walked, dec_output, dec_tried, found_shows, untestable_right}
use Rattle.chip.proofs.Theorem.{balanced_of}
use Rattle.chip.proofs.Tests.{every, rank_test, rank_test_right}
use Rattle.plays.proofs.Bytes.{one_count}
use Rattle.replies.proofs.Guards.{not_at}
use Rattle.replies.proofs.Opening.{one_file, read_limits, even_class}

-- The guards of a call, worked out: a guard has a place at which it refuses, or none.

abbrev pub Verdict : (ℕ → Type 0) → Type 0
Verdict When = ((p : ℕ) × When p) ⊎ ((p : ℕ) → ¬ When p)

unfoldable pub guard : {A : Type 0} {When : ℕ → Type 0} {refuse : ℕ → A} {Rest : A → Type 0} → Verdict When → (((p : ℕ) → ¬ When p) → (a : A) × Rest a) → (a : A) × Step When refuse Rest a
guard {refuse = refuse} (inl w) rest = (refuse w.0, refuses w.1)
guard (inr g) rest = let (a, r) = rest g in (a, goes_on g r)

unfoldable pub short? : (entry : List ℕ) (need : ℕ) → Dec (length entry < need) → Verdict (Short entry need)
short? entry need (yes h) = inl (need, record { there = refl; holds = h })
short? entry need (no g) = inr (λ p h. g h.holds)

unfoldable pub above? : (bytes : List ℕ) → Verdict (When18 bytes)
above? bytes =
    elim (first_hit (AboveOne bytes) (length bytes) λ k l. map_dec (λ h. record { there = l; above = h }) (λ a. a.above) (dec_lt 1 (get_or bytes k 0))) [
      | inl w ↦ inl (w.0, record { holds = w.2; none_below = w.3 })
      | inr g ↦ inr (λ k a. g k a.holds.there a.holds)
    ]

-- A file that is read, as a netlist in which each cell comes after the nets that its pins name, and which is not deep.

abbrev pub Easy : Netlist → Type 0
Easy N = T (rank_test N (λ n. n)) × T (leb (sum_below (λ n. n) (N.inputs + N.cells)) 255)

abbrev pub Small : Got Parsed → Type 0
Small (Err e) = ⊥
Small (Ok x) = Easy (chip_of x)

unfoldable pub netlist : (g : Got Parsed) → Small g → (x : Parsed) × (g ≡ got x) × Easy (chip_of x)
netlist (Err e) s = absurd s
netlist (Ok x) s = (x, refl, s)

module _ (file : List ℕ) (s : Small (read_of file)) where
  abbrev pub is_read : (x : Parsed) × (read_of file ≡ got x) × Easy (chip_of x)
  is_read = netlist (read_of file) s

  abbrev pub N : Netlist
  N = chip_of is_read.0

  pub limits : InLimits N
  limits = read_limits file is_read.0 is_read.1

  abbrev pub S : Sound N
  S = limits.sound

  abbrev pub R : Ranked N
  R = rank_test_right N (λ n. n) is_read.2.0

  -- what it is prepared with
  unfoldable pub depth : ℕ
  depth = (has_depth N S R).0

  unfoldable pub low : ℕ → ℕ
  low = (has_lowest N S R).0

  unfoldable pub class : ℕ
  class = (has_class N S R (has_depth N S R).0 (has_depth N S R).1.within (has_lowest N S R).0 (has_lowest N S R).1).0

  pub known : Prepared N depth low class
  unfolding depth low class
  known =
      record {
        loop_free = loop_free N R;
        depth = (has_depth N S R).1;
        lowest = (has_lowest N S R).1;
        classed = (has_class N S R (has_depth N S R).0 (has_depth N S R).1.within (has_lowest N S R).0 (has_lowest N S R).1).1;
      }

  abbrev pub deep : Within N depth
  deep = known.depth.within

  abbrev pub B : Blocks
  B = blocks N low

  pub opens : Opens file (got N)
  unfolding rank_test_right
  opens = read is_read.1 (goes_on (λ n h. known.loop_free n h.holds) (goes_on (λ z h. omega (arith, rise N S R z h.holds.reach, leb→le R.top 255 is_read.2.1, h.holds.over)) refl))

  -- a fault of the netlist that was read
  pub in_chip : (fault : Fault) (x : Parsed) → read_of file ≡ got x → FaultIn (chip_of x) fault → FaultIn N fault
  in_chip fault x e h = subst (λ y. FaultIn (chip_of y) fault) (one_file e is_read.1) h

  -- the reply of a call, once its guards are worked out
  unfoldable pub call : {A : Type 0} {refuse : Reason → ℕ → A} {Call : Netlist → ℕ → (ℕ → ℕ) → ℕ → A → Type 0} → (a : A) × Call N depth low class a → (a : A) × Start refuse (λ M. Knowing M (Call M)) file a
  call (a, h) = (a, opened opens (prepared known h))

  -- 11 at the lowest input with a block of two depths
  unfoldable pub uneven? : Verdict (When11 N)
  uneven? =
      elim (class_or_place N S R depth deep low known.lowest) [
        | inl K ↦ inr (λ x u. let t = u.holds in t.differ (K x t.left t.right t.out t.depth t.depth' t.joined t.one t.other))
        | inr w ↦ inl (w.0, record { holds = w.1; none_below = w.2 })
      ]

  -- Naming the class, and transforming.

  pub class_reply : ClassReply file (got (record { class = class; depth = depth; blocks = B.count }))
  class_reply = opened opens (prepared known refl)

  unfoldable pub transform_reply : (entry : List ℕ) → (B.count ≤ 64) × (N.cells + copies N B ≤ 1024) × (all_pins N + copies N B ≤ 4096) → Dec (length entry < length (transformed_file N B))
      → (a : Got ℕ × List ℕ) × TransformReply file entry a
  transform_reply entry q short =
      call (
      guard (inr (λ p h. omega arith)) λ _.
      guard (inr (λ p h. omega arith)) λ _.
      guard (inr (λ p h. omega arith)) λ _.
      guard (short? entry (length (transformed_file N B)) short) λ room.
      (_, (refl, record { room = omega (arith, not_at room); now_is = refl })))

  -- Checking: of the clocks and outputs in order, the first at which the fault is shown.
  module _ (fault : Fault) (play : List ℕ) (n : ℕ) (c : Clocks N.inputs play n) where
    abbrev pub SeenAt : ℕ → ℕ → Type 0
    SeenAt t z = (depth ≤ t) × ((z < N.outs) × Shown N (stuck fault) (play_of N.inputs play) z t)

    unfoldable pub dec_seen : (t z : ℕ) → t < n → Dec (SeenAt t z)
    dec_seen t z _ = dec_and (dec_le depth t) λ late. dec_and (dec_lt z N.outs) λ zo. dec_shown N S R depth deep (stuck fault) (play_of N.inputs play) z t late zo

    unfoldable pub checked : (a : Got (Option Sight)) × Checks N depth fault play a
    checked = elim (walked n (λ _. N.outs) SeenAt dec_seen) [
      | inl w ↦
          let (t, z, _, F) = w in (
            _,
            shows {t = t} {z = z} c (record {
              from = F.hits.0;
              to = F.output;
              output = F.number;
              shown = F.hits.1.1;
              no_clock = λ u y l g o shown. F.first_output u y g o (l, (o, shown));
              no_output = λ y l shown. F.first_there y l (F.hits.0, (omega (arith, F.number), shown));
            }),
          )
      | inr w ↦ (_, shows_not c (λ t z l g o shown. w.1.none t z g o (l, (o, shown))))
    ]

  unfoldable pub check_reply : (fault : Fault) (play : List ℕ) (n : ℕ) → SiteIn N fault.site × (fault.stuck ≤ 1) × (length play ≡ n * N.inputs) × (n ≤ 1024) → (a : Got (Option Sight)) × CheckReply file fault play a
  check_reply fault play n q =
      let c : Clocks N.inputs play n = record { long = q.2; few = q.3 } in
      call (
      guard (inr (λ p h. h.holds (record { site = q.0; value = q.1 }))) λ _.
      guard (inr (λ p h. h.holds n c)) λ _.
      guard (above? play) λ _.
      checked fault play n c)

  -- What is set, read back and found where the class is 2 or 3.
  module _ (even : (x : ℕ) → ¬ When11 N x) where
    pub bal : Balanced N B
    bal = balanced_of N depth low class known (even_class known even)

    unfoldable pub play_set : (z : ℕ) → z < N.outs → (pat : ℕ → Bool) (entry : List ℕ) → suc depth * N.inputs ≤ length entry → (exit : List ℕ) × PlaySet N B depth z pat entry exit
    play_set z zo pat entry room =
        let play : ℕ → ℕ → Bool = setting N S R depth deep B bal z zo pat in
        let q = setting_sets N S R depth deep B bal z zo pat in (
          _,
          record {
            play = rows N.inputs (suc depth) play;
            is_play = rows_play N.inputs (suc depth) play;
            -- a setting does not hang on what a play has beyond its clocks and inputs
            sets = record {
              puts = λ b e t a c. rows_value N.inputs (suc depth) play t (B.input b) (omega arith) a.branch.input ∙ q.puts b e t a c;
              zero_elsewhere = λ t x l i g. rows_value N.inputs (suc depth) play t x (omega arith) i ∙ q.zero_elsewhere t x l i g;
            };
            wrote = record { room = omega (arith, rows_long N.inputs (suc depth) play); now_is = refl };
          },
        )

    unfoldable pub pattern_read : (z : ℕ) → z < N.outs → (play : List ℕ) (t : ℕ) → depth ≤ t → (entry : List ℕ) → B.count ≤ length entry → (exit : List ℕ) × PatternRead N B depth z t play entry exit
    pattern_read z zo play t late entry room =
        let pat : ℕ → Bool = reading N S R depth deep B bal z zo (play_of N.inputs play) t in
        let r = reading_reads N S R depth deep B bal z zo (play_of N.inputs play) t late in
        let long : length (rows B.count 1 (λ _. pat)) ≡ 1 * B.count = rows_long B.count 1 (λ _. pat) in (
          _,
          record {
            pattern = rows B.count 1 (λ _. pat);
            long = omega arith;
            bits = λ k _. rows_bits B.count 1 (λ _. pat) k;
            reads = record {
              late = late;
              takes = λ b e c a q. same pat b (block_low N S R depth deep B bal z a) ∙ r.takes b e c a q;
              zero_elsewhere = λ b l g. same pat b l ∙ r.zero_elsewhere b l g;
            };
            wrote = record { room = omega arith; now_is = refl };
          },
        )
      where
        same : (pat : ℕ → Bool) (b : ℕ) → b < B.count → pattern_of (rows B.count 1 (λ _. pat)) b ≡ pat b
        same pat b l =
            let e : b ≡ 0 * B.count + b = omega arith in
            ap (pattern_of (rows B.count 1 (λ _. pat))) e ∙ ap (λ k. eqb k 1) (rows_at B.count 1 (λ _. pat) 0 b (omega arith) l) ∙ bit_is (pat b)

    unfoldable pub searched : (fault : Fault) (entry : List ℕ) → suc depth * N.inputs ≤ length entry → (a : Searched × List ℕ) × Searches N B depth fault entry a
    searched fault entry room = elim (answered N S R depth deep B bal fault _ _ (tables N S R depth deep B bal fault.site)) [
      | inl w ↦
          let (z, m, k, F) = w in
          let p = play_set z F.hit.output (pattern F.rel z m) entry room in
          (_, finds F p.1 (found_shows N S R depth deep B bal fault z m k F _ p.1.sets))
      | inr w ↦ (_, finds_none w.1 (λ h. untestable_right N S R depth deep B bal fault w.0 w.1 ((showable_is N S R depth deep (stuck fault)).1 h)))
    ]

  unfoldable pub set_reply : (z : ℕ) (pattern entry : List ℕ) → (z < N.outs) × (length pattern ≡ B.count) → Dec (length entry < suc depth * N.inputs) → (a : Got ℕ × List ℕ) × SetReply file z pattern entry a
  set_reply z pattern entry q short =
      call (
      guard (inr (λ p h. omega arith)) λ _.
      guard uneven? λ even.
      guard (inr (λ p h. h.holds q.1)) λ _.
      guard (above? pattern) λ _.
      guard (short? entry (suc depth * N.inputs) short) λ room.
      (_, (refl, (play_set even z q.0 (pattern_of pattern) entry (omega (arith, not_at room))).1)))

  unfoldable pub read_reply : (z : ℕ) (play : List ℕ) (n t : ℕ) (entry : List ℕ) → (z < N.outs) × (length play ≡ n * N.inputs) × (n ≤ 1024) → Dec (length entry < B.count) → (a : Got ℕ × List ℕ) × ReadReply file z play t entry a
  read_reply z play n t entry q short =
      call (
      guard (inr (λ p h. omega arith)) λ _.
      guard uneven? λ even.
      guard (inr (λ p h. h.holds n c)) λ _.
      guard (above? play) λ _.
      guard late? λ late.
      guard (short? entry B.count short) λ room.
      let l : ¬ (t < depth) = λ l. late n (record { clocks = c; outside = inl l }) in
      (_, (refl, (pattern_read even z q.0 play t (omega arith) entry (omega (arith, not_at room))).1)))
    where
      c : Clocks N.inputs play n
      c = record { long = q.1; few = q.2 }

      late? : Verdict (When19 N.inputs depth play t)
      late? = elim (dec_or (dec_lt t depth) (dec_le n t)) [
        | yes o ↦ inl (n, record { clocks = c; outside = o })
        | no g ↦ inr (λ p h. g (subst (λ m. (t < depth) ⊎ (m ≤ t)) (one_count N.inputs play p n limits.some_input h.clocks c) h.outside))
      ]

  unfoldable pub search_reply : (fault : Fault) → SiteIn N fault.site × (fault.stuck ≤ 1) × (B.count ≤ 16) → (entry : List ℕ) → Dec (length entry < suc depth * N.inputs) → (a : Searched × List ℕ) × SearchReply file fault entry a
  search_reply fault q entry short =
      call (
      guard (inr (λ p h. h.holds (record { site = q.0; value = q.1 }))) λ _.
      guard uneven? λ even.
      guard (inr (λ z h. omega (arith, h.holds.wide, tally_most (h.holds.rel z) B.count))) λ _.
      guard (short? entry (suc depth * N.inputs) short) λ room.
      searched even fault entry (omega (arith, not_at room)))

-- to unfold this is to unfold all that a small file is worked out with
unfoldable pub working : Unit {0}
unfolding read_of count_at_place word_at byte_at inputs pad_at is_in cells cell kind_at pin_count_at takes pins net_at ending outputs chip_of rank_test rank_test_right every netlist depth low class has_depth deepest at has_lowest dec_pair all along join pick has_class class_or_place dec_class3 lowest_uneven dec_uneven dec_not alike first_hit reaches dec_reach find dec_and dec_or dec_pin map_dec dec_lt ℕ_discrete is_flop blocks is_buf fed source into_pad branch_of file_of opened_net flat on_way copied copies copy_at copy_block copy_cell net_for home old_cell old_pin old_net gate rounds value now made transformed_ranked new_rank dec_shown walked dec_output dec_seen checked play_set setting put_at dec_place dec_at pattern_read reading take_reached searched answered dec_tried out_table rel_table test dec_site dec_pin_at dec_block is_yes guard short? above? call uneven? transform_reply check_reply set_reply read_reply search_reply
working = tt
