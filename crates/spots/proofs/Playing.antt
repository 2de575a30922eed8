-- Ones at the places of a number's bits spread it over a play; where the variables are the blocks that reach an output, that is the pattern's play.
use Prim.Native.Nat.{ℕ, zero, suc, ◌+◌, ◌*◌, ◌-◌, ◌/◌, ◌^◌, ◌≤◌, ◌<◌}
use mathlib.Core.Path.{◌≡◌, refl, sym, ap, ◌∙◌, subst}
use mathlib.Core.Logic.{◌≢◌, ◌⊎◌, inl, inr, ⊎_elim}
use mathlib.Core.Bool.{Bool, true, false}
use mathlib.Core.List.{List}
use native.Mathlib.Omega.{arith}
use native.Mathlib.Decide.{dec_lt}
use borrow.Author.Tests.{lt-ltb}
use lib.ListN.{length, get_or, take}
use lib.Seq.{get_or-take, length-take-le}
use Rattle.chip.specs.Netlist.{Netlist, bit}
use Rattle.chip.specs.Class.{Lowest, Blocks, blocks, tally}
use Rattle.chip.specs.Clocks.{BlockAt, SetPlace}
use Rattle.chip.specs.Search.{digit}
use Rattle.chip.proofs.Basics.{Ranked}
use Rattle.chip.proofs.Blocks.{tally_past}
use Rattle.chip.proofs.Bools.{clash, bit_is}
use Rattle.chip.proofs.Clocks.{block_deep, block_depth, block_place}
use Rattle.chip.proofs.LookBack.{Balanced}
use Rattle.chip.proofs.Unique.{one_low}
use Rattle.structure.specs.Inner.Shape.{Ready}
use Rattle.structure.specs.declared.Shape.{Shape}
use Rattle.plays.proofs.Parts.{clock_up}
use Rattle.sweeps.specs.Copied.{Cleared}
use Rattle.sweeps.proofs.Sweeping.{one_clock, wrote}
use Rattle.slots.specs.Slots.{rel_of}
use Rattle.slots.proofs.Tables.{passing}
use Rattle.walk.specs.Walk.{width_of, Played}
use Rattle.words.proofs.Bits.{digit_zero}
use Rattle.spots.specs.Marks.{Changed, OneMark}
use Rattle.spots.specs.Spots.{Drivers, RowHolds, Spread, BlockSpots}
use Rattle.spots.proofs.Finding.{tally_one, bal, ranks, low_block, is_reached}

-- a bit of a number below 2 ^ w that is set is below w
pub digit_in : (k w m : ℕ) → m < 2 ^ w → digit k m ≡ true → k < w
digit_in k zero m l t = let e : m ≡ 0 = omega arith in clash t (rw e (digit_zero k))
digit_in zero (suc w) m l t = omega arith
digit_in (suc k) (suc w) m l t = let h : m / 2 < 2 ^ w = omega arith in omega (arith, digit_in k w (m / 2) h t)

-- a place of a play lies in it
place_in : (i d t x : ℕ) → t ≤ d → x < i → t * i + x < suc d * i
place_in i d t x l h = omega (arith, clock_up i t (suc d) (omega arith))

-- ---- any variables

module _ (i d z m : ℕ) (D : Drivers) (spots : List ℕ) (H : RowHolds i d z D spots) (less : m < 2 ^ D.count) where
  -- a bit that is set is a variable's, and its place lies in the play
  own : (k : ℕ) → digit k m ≡ true → k < D.count
  own k t = digit_in k D.count m less t

  pub spot_in : (k : ℕ) → digit k m ≡ true → get_or spots (16 * z + k) 0 < suc d * i
  spot_in k t = omega (arith, H.place k (own k t), place_in i d (d - D.back k) (D.input k) (omega arith) (H.is_input k (own k t)))

  module _ (entry cleared exit : List ℕ) (C : Cleared (suc d * i) entry cleared) (O : Changed (OneMark 16 z m spots) cleared exit) where
    -- the byte at a place is a one of a bit that is set, or 0
    byte_at : (q : ℕ) → q < suc d * i → (get_or exit q 0 ≡ 0) ⊎ OneMark 16 z m spots q (get_or exit q 0)
    byte_at q l = ⊎_elim (λ e. inl (e ∙ C.is q l)) (λ o. inr o) (O.kept q)

    -- the variable whose one is at clock t and input x
    placed : (t x v : ℕ) → x < i → OneMark 16 z m spots (t * i + x) v → (k : ℕ) × (k < D.count) × (t ≡ d - D.back k) × (D.input k ≡ x) × (digit k m ≡ true)
    placed t x v h o =
        let l : o.number < D.count = own o.number o.on in
        let q : t * i + x ≡ (d - D.back o.number) * i + D.input o.number = o.at ∙ H.place o.number l in
        let c : t ≡ d - D.back o.number = one_clock i t (d - D.back o.number) x (D.input o.number) h (H.is_input o.number l) q in
        (o.number, l, c, omega (arith, ap (λ j. j * i) c), o.on)

    byte_is : (k : ℕ) → k < D.count → (v : Bool) → digit k m ≡ v → get_or exit ((d - D.back k) * i + D.input k) 0 ≡ bit v
    byte_is k l true y = (O.put ((d - D.back k) * i + D.input k) 1 (record { number = k; below = omega (arith, H.few); on = y; at = sym (H.place k l); is = refl })).is
    byte_is k l false y =
        ⊎_elim (λ e. e)
        (λ o.
        let (j, h, c, x, on) = placed (d - D.back k) (D.input k) _ (H.is_input k l) o in
        let e : j ≡ k = H.apart j k h l x (omega (arith, H.in_time j h, H.in_time k l)) in
        clash (rw e at on) y)
        (byte_at ((d - D.back k) * i + D.input k) (place_in i d (d - D.back k) (D.input k) (omega arith) (H.is_input k l)))

    spread : Spread i d m D entry exit
    spread =
        record {
          on = λ k l. byte_is k l (digit k m) refl;
          off = λ t x l h none. ⊎_elim (λ e. e)
              (λ o. let (k, q, c, y, _) = placed t x _ h o in absurd (none k q (omega (arith, H.in_time k q)) y))
              (byte_at (t * i + x) (place_in i d t x l h));
          bits = λ q l. ⊎_elim (λ e. omega arith) (λ o. omega (arith, o.is)) (byte_at q l);
          behind = λ q l. ⊎_elim (λ e. e ∙ C.kept q l) (λ o. absurd (omega (arith, o.at, spot_in o.number o.on))) (O.kept q);
          long = O.long ∙ C.long;
        }

  pub spread_spots : (n : ℕ) (entry cleared exit : List ℕ) → n ≡ suc d * i → Cleared n entry cleared → Changed (OneMark 16 z m spots) cleared exit → Spread i d m D entry exit
  spread_spots n entry cleared exit e C O = spread entry cleared exit (subst (λ k. Cleared k entry cleared) e C) O

-- ---- blocks

-- pattern m for output z, of which at most 16 blocks reach it, of a prepared chip of class 2 or 3 with the places of its variables
pub record Playable (N : Netlist) (d z m : ℕ) (reached spots : List ℕ) : Type 0 where
  pub pins : ℕ
  pub shape : Shape
  pub firsts : List ℕ
  pub order : List ℕ
  pub branches : List ℕ
  pub block : List ℕ
  pub ready : Ready N pins shape firsts order branches block reached
  pub depth : d ≡ shape.depth
  pub even : shape.class ≢ 1
  pub output : z < N.outs
  pub narrow : width_of shape.blocks reached z ≤ 16
  pub number : m < 2 ^ width_of shape.blocks reached z
  pub places : BlockSpots N d z reached spots

module _ {N : Netlist} {d z m : ℕ} {reached spots : List ℕ} (P : Playable N d z m reached spots) where
  abbrev low : ℕ → ℕ
  low = P.ready.shaped.low

  abbrev B : Blocks
  B = blocks N low

  abbrev w : ℕ
  w = width_of P.shape.blocks reached z

  lowest : Lowest N low
  lowest = P.ready.shaped.prepared.lowest

  even : Balanced N B
  even = bal P.ready P.even low lowest

  order : Ranked N
  order = ranks P.ready

  deep : {b e : ℕ} → BlockAt N B z b e → e ≤ d
  deep a = rw P.depth (block_deep N P.ready.limits.sound order P.shape.depth P.ready.shaped.prepared.depth.within B even z a)

  reaches : {b e : ℕ} → BlockAt N B z b e → rel_of reached z b ≡ true
  reaches a = is_reached P.ready P.even low lowest a

  -- variable k: its block, and the depth with which that reaches the output
  record Variable (k : ℕ) : Type 0 where
    block : ℕ
    depth : ℕ
    at : BlockAt N B z block depth
    number : tally (rel_of reached z) block ≡ k

  variable_of : (k : ℕ) → k < w → Variable k
  variable_of k l =
      let (b, h, y, e) = passing (rel_of reached z) P.shape.blocks k l in
      let (f, a) = (P.ready.shaped.reach_table b h).set z P.output y in
      record { block = b; depth = f; at = a; number = e }

  -- the input of a variable, and how far back it stands
  chosen : (k : ℕ) → Dec (k < w) → ℕ × ℕ
  chosen k (yes l) = (B.input (variable_of k l).block, (variable_of k l).depth)
  chosen k (no g) = (0, 0)

  -- the variables of the output's patterns are the blocks that reach it
  pub drivers : Drivers
  drivers = record { count = w; input = λ k. (chosen k (dec_lt k w)).0; back = λ k. (chosen k (dec_lt k w)).1 }

  chosen_is : (k : ℕ) → k < w → (s : Dec (k < w)) → (v : Variable k) × ((chosen k s).0 ≡ B.input v.block) × ((chosen k s).1 ≡ v.depth)
  unfolding chosen
  chosen_is k l (yes h) = (variable_of k h, refl, refl)
  chosen_is k l (no g) = absurd (g l)

  driver : (k : ℕ) → k < w → (v : Variable k) × (drivers.input k ≡ B.input v.block) × (drivers.back k ≡ v.depth)
  unfolding drivers
  driver k l = chosen_is k l (dec_lt k w)

  pub blocks_less : m < 2 ^ drivers.count
  unfolding drivers
  blocks_less = P.number

  pub blocks_row : RowHolds N.inputs d z drivers spots
  unfolding drivers
  blocks_row =
      record {
        few = P.narrow;
        is_input = λ k l. let (v, x, e) = driver k l in rw x v.at.branch.input;
        in_time = λ k l. let (v, x, e) = driver k l in rw e (deep v.at);
        apart = λ k j l h x e.
            let (v, xv, ev) = driver k l in
            let (u, xu, eu) = driver j h in
            let q : v.depth ≡ u.depth = sym ev ∙ e ∙ eu in
            let y : B.input v.block ≡ B.input u.block = sym xv ∙ x ∙ xu in
            let b : v.block ≡ u.block = block_place N P.ready.limits.sound order P.shape.depth P.ready.shaped.prepared.depth.within B even z y (subst (BlockAt N B z v.block) q v.at) u.at in
            sym v.number ∙ ap (tally (rel_of reached z)) b ∙ u.number;
        place = λ k l.
            let (v, x, e) = driver k l in
            let few : tally (rel_of reached z) v.block < 16 = omega (arith, v.number, P.narrow) in
            rw (x, e) (ap (λ j. get_or spots (16 * z + j) 0) (sym v.number) ∙ P.places.spot low lowest v.block v.depth v.at few);
      }

  module _ (entry exit : List ℕ) (room : suc d * N.inputs ≤ length entry) (S : Spread N.inputs d m drivers entry exit) where
    byte_of : (b e t : ℕ) → BlockAt N B z b e → t + e ≡ d → get_or exit (t * N.inputs + B.input b) 0 ≡ bit (digit (tally (rel_of reached z) b) m)
    unfolding drivers
    byte_of b e t a c =
        let l : tally (rel_of reached z) b < w = tally_past (rel_of reached z) b P.shape.blocks (low_block P.ready P.even low lowest a) (reaches a) in
        let (v, x, f) = driver (tally (rel_of reached z) b) l in
        let s : v.block ≡ b = tally_one (rel_of reached z) v.block b (reaches v.at) (reaches a) v.number in
        let h : v.depth ≡ e = block_depth N P.ready.limits.sound order P.shape.depth P.ready.shaped.prepared.depth.within B even z (subst (λ j. BlockAt N B z j v.depth) s v.at) a in
        let r : d - drivers.back (tally (rel_of reached z) b) ≡ t = omega (arith, f, h) in
        let y : drivers.input (tally (rel_of reached z) b) ≡ B.input b = x ∙ ap (λ j. B.input j) s in
        ap (λ u. get_or exit (u * N.inputs + B.input b) 0) (sym r) ∙ ap (λ u. get_or exit ((d - drivers.back (tally (rel_of reached z) b)) * N.inputs + u) 0) (sym y) ∙ S.on (tally (rel_of reached z) b) l

    byte_zero : (t x : ℕ) → t ≤ d → x < N.inputs → ¬ SetPlace N B d z t x → get_or exit (t * N.inputs + x) 0 ≡ 0
    unfolding drivers
    byte_zero t x l h none =
        S.off t x l h
        (λ k q c y. let (v, i, f) = driver k q in none (record { block = v.block; depth = v.depth; at = v.at; input = sym i ∙ y; clock = ap (λ j. t + j) (sym f) ∙ c }))

    set_low : Played N B d z m reached entry exit
    set_low =
        record {
          play = take n exit;
          is_play = record { long = front; bits = λ k l. let h : k < n = omega (arith, front) in rw (get_or-take n exit k 0 h) (S.bits k h) };
          sets = record {
            puts = λ b e t a c.
                let h : B.input b < N.inputs = a.branch.input in
                rw (lt-ltb (B.input b) N.inputs h, at t (B.input b) (omega arith) h, byte_of b e t a c, reaches a) (bit_is (digit (tally (rel_of reached z) b) m));
            zero_elsewhere = λ t x l h none. rw (lt-ltb x N.inputs h, at t x l h, byte_zero t x l h none) refl;
          };
          wrote = wrote n entry exit room S.long S.behind;
        }
      where
        n : ℕ
        n = suc d * N.inputs

        front : length (take n exit) ≡ n
        front = length-take-le n exit (omega (arith, S.long))

        at : (t x : ℕ) → t ≤ d → x < N.inputs → get_or (take n exit) (t * N.inputs + x) 0 ≡ get_or exit (t * N.inputs + x) 0
        at t x l h = get_or-take n exit (t * N.inputs + x) 0 (place_in N.inputs d t x l h)

    pub blocks_played : (low' : ℕ → ℕ) → Lowest N low' → Played N (blocks N low') d z m reached entry exit
    blocks_played low' L = subst (λ w. Played N (blocks N w) d z m reached entry exit) (one_low N low low' lowest L) set_low
