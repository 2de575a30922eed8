-- Each way that setting and reading back end on an open chip is what their replies allow.
use Prim.Native.Nat.{ℕ, suc, ◌*◌, ◌≤◌, ◌<◌}
use mathlib.Core.Path.{◌≡◌, refl, sym, ap, ◌∙◌, subst}
use mathlib.Core.Logic.{◌⊎◌, inl, inr, ◌≢◌}
use mathlib.Core.List.{List}
use native.Mathlib.Omega.{arith}
use lib.ListN.{length}
use Rattle.chip.specs.Netlist.{Netlist}
use Rattle.chip.specs.Class.{Lowest, Prepared, Blocks, blocks}
use Rattle.chip.specs.Faults.{AllBits}
use Rattle.chip.specs.Clocks.{pattern_of}
use Rattle.chip.specs.Refusals.{Step, refuses, goes_on, At, prepared, Clocks, When18, When19, Short, leaving}
use Rattle.chip.specs.Replies.{PlaySet, SetsPlay, SetOn, PatternRead, ReadsPattern, ReadOn}
use Rattle.chip.specs.declared.Reason.{Reason}
use Rattle.chip.specs.Got.{Got, refused, got}
use Rattle.plays.proofs.Bytes.{not_above, one_count}
use Rattle.replies.proofs.Opening.{not_uneven}
use Rattle.opening.specs.Open.{netlist_of, IsOpen}
use Rattle.opening.specs.declared.Chip.{Chip}

module _ (t : Chip) (o : IsOpen t) (output : ℕ) where
  abbrev N : Netlist
  N = netlist_of t

  abbrev d : ℕ
  d = t.shape.depth

  abbrev B : Blocks
  B = blocks N o.ready.shaped.low

  P : Prepared N d o.ready.shaped.low t.shape.class
  P = o.ready.shaped.prepared

  there : output < N.outs → (p : ℕ) → ¬ At 0 (N.outs ≤ output) p
  there l p w = omega (arith, w.holds)

  -- setting
  module _ (pattern entry : List ℕ) where
    pub set_13 : N.outs ≤ output → SetOn N output pattern entry (refused Reason.NoOutput 0, entry)
    set_13 h = prepared P (refuses (record { there = refl; holds = h }))

    pub set_11 : output < N.outs → t.shape.class ≡ 1 → SetOn N output pattern entry (refused Reason.ClassOne t.shape.place, entry)
    set_11 l e = prepared P (goes_on (there l) (refuses (o.ready.shaped.place e)))

    module _ (l : output < N.outs) (g : t.shape.class ≢ 1) where
      pub set_14 : length pattern ≢ t.shape.blocks → SetOn N output pattern entry (refused Reason.BadLength (length pattern), entry)
      set_14 h = prepared P (goes_on (there l) (goes_on (not_uneven P g) (refuses (record { there = refl; holds = λ e. h (e ∙ sym o.ready.shaped.count) }))))

      module _ (e : length pattern ≡ t.shape.blocks) where
        from_18 : {a : Got ℕ × List ℕ} → Step (When18 pattern) (leaving entry refused Reason.BadByte) (Step (Short entry (suc d * N.inputs)) (leaving entry refused Reason.ShortBuffer) (SetsPlay N B d output pattern entry)) a
            → SetOn N output pattern entry a
        from_18 r = prepared P (goes_on (there l) (goes_on (not_uneven P g) (goes_on (λ p w. w.holds (e ∙ o.ready.shaped.count)) r)))

        pub set_18 : (k : ℕ) → When18 pattern k → SetOn N output pattern entry (refused Reason.BadByte k, entry)
        set_18 k w = from_18 (refuses w)

        pub set_15 : AllBits pattern → length entry < suc d * N.inputs → SetOn N output pattern entry (refused Reason.ShortBuffer (suc d * N.inputs), entry)
        set_15 bits h = from_18 (goes_on (not_above bits) (refuses (record { there = refl; holds = h })))

        pub set_done : (exit : List ℕ) → AllBits pattern → suc d * N.inputs ≤ length entry → ((low : ℕ → ℕ) → Lowest N low → PlaySet N (blocks N low) d output (pattern_of pattern) entry exit)
            → SetOn N output pattern entry (got (suc d * N.inputs), exit)
        set_done exit bits room p = from_18 (goes_on (not_above bits) (goes_on (λ q w. omega (arith, w.holds)) (refl, p o.ready.shaped.low P.lowest)))

  -- reading back
  module _ (play : List ℕ) (clock : ℕ) (entry : List ℕ) where
    pub read_13 : N.outs ≤ output → ReadOn N output play clock entry (refused Reason.NoOutput 0, entry)
    read_13 h = prepared P (refuses (record { there = refl; holds = h }))

    pub read_11 : output < N.outs → t.shape.class ≡ 1 → ReadOn N output play clock entry (refused Reason.ClassOne t.shape.place, entry)
    read_11 l e = prepared P (goes_on (there l) (refuses (o.ready.shaped.place e)))

    module _ (l : output < N.outs) (g : t.shape.class ≢ 1) where
      pub read_14 : ((n : ℕ) → ¬ Clocks N.inputs play n) → ReadOn N output play clock entry (refused Reason.BadLength (length play), entry)
      read_14 h = prepared P (goes_on (there l) (goes_on (not_uneven P g) (refuses (record { there = refl; holds = h }))))

      module _ (n : ℕ) (C : Clocks N.inputs play n) where
        back_18 : {a : Got ℕ × List ℕ} → Step (When18 play) (leaving entry refused Reason.BadByte)
            (Step (When19 N.inputs d play clock) (leaving entry refused Reason.BadClock) (Step (Short entry B.count) (leaving entry refused Reason.ShortBuffer) (ReadsPattern N B d output play clock entry))) a
            → ReadOn N output play clock entry a
        back_18 r = prepared P (goes_on (there l) (goes_on (not_uneven P g) (goes_on (λ p w. w.holds n C) r)))

        pub read_18 : (k : ℕ) → When18 play k → ReadOn N output play clock entry (refused Reason.BadByte k, entry)
        read_18 k w = back_18 (refuses w)

        pub read_19 : AllBits play → (clock < d) ⊎ (n ≤ clock) → ReadOn N output play clock entry (refused Reason.BadClock n, entry)
        read_19 bits h = back_18 (goes_on (not_above bits) (refuses (record { clocks = C; outside = h })))

        module _ (bits : AllBits play) (late : d ≤ clock) (inside : clock < n) where
          in_time : (m : ℕ) → ¬ When19 N.inputs d play clock m
          in_time m w = go w.outside
            where
              go : ¬ ((clock < d) ⊎ (m ≤ clock))
              go (inl h) = omega arith
              go (inr h) = omega (arith, one_count N.inputs play n m o.ready.limits.some_input C w.clocks)

          pub read_15 : length entry < t.shape.blocks → ReadOn N output play clock entry (refused Reason.ShortBuffer t.shape.blocks, entry)
          read_15 h = back_18 (goes_on (not_above bits) (goes_on in_time (refuses (record { there = o.ready.shaped.count; holds = subst (λ b. length entry < b) o.ready.shaped.count h }))))

          pub read_done : (exit : List ℕ) → t.shape.blocks ≤ length entry → ((low : ℕ → ℕ) → Lowest N low → PatternRead N (blocks N low) d output clock play entry exit)
              → ReadOn N output play clock entry (got t.shape.blocks, exit)
          read_done exit room p =
              back_18 (goes_on (not_above bits) (goes_on in_time (goes_on (λ q w. omega (arith, w.holds, o.ready.shaped.count)) (ap got o.ready.shaped.count, p o.ready.shaped.low P.lowest))))
