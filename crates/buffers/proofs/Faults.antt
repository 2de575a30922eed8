-- What the run of a fault tells of it, and one fault after the other.
use Prim.Native.Nat.{ℕ, suc, ◌+◌, ◌-◌, ◌*◌, ◌/◌, ◌%◌, ◌≤◌, ◌<◌}
use mathlib.Core.Path.{◌≡◌, refl, sym, ap, subst, ◌∙◌}
use mathlib.Core.Logic.{◌≢◌, ◌⊎◌, ◌↔◌, inl, inr, ⊎_elim}
use mathlib.Core.Bool.{Bool, true, xor, false≢true}
use mathlib.Core.List.{List}
use native.Mathlib.Omega.{arith}
use native.Mathlib.Decide.{dec_lt, ℕ_discrete}
use lib.ListN.{get_or}
use lib.Bits.{bit_and}
use Rattle.chip.specs.Netlist.{out_pin}
use Rattle.chip.specs.Inner.Tables.{tabled}
use Rattle.chip.specs.Class.{blocks}
use Rattle.chip.specs.Faults.{stuck}
use Rattle.chip.specs.Search.{digit, width}
use Rattle.chip.proofs.Basics.{sum_up}
use Rattle.words.proofs.Bits.{digit_zero, digit_ones}
use Rattle.flip.proofs.Flips.{run_lane}
use Rattle.homes.specs.Homes.{number_of}
use Rattle.homes.proofs.Looking.{number_low, number_high}
use Rattle.bridge.specs.Chunk.{Chunk}
use Rattle.faults.specs.Numbers.{fault_number}
use Rattle.bridge.proofs.Bridge.{lane}
use Rattle.known.specs.Setting.{Shows, Setting, Long, lane_of_run, Went}
use Rattle.known.proofs.Steps.{looked_idle, looked_kept, looked_advance, went_both, went_same}
use Rattle.known.proofs.Runs.{start_of, rules_of}
use Rattle.rows.proofs.Bits.{meet}
use Rattle.buffers.specs.Buffers.{Tables, Faulty, FaultRan, FaultStep, CellFault}
use Rattle.buffers.proofs.Slots.{chunk_kept}

-- fault f is one of the first m of a net and a pin: two of the net, then two of the pin
abbrev pub SiteFault : ℕ → ℕ → ℕ → ℕ → Type 0
SiteFault m net pin f = (e : ℕ) × (e < m) × (f ≡ number_of e net pin)

-- fault f is one of a pad buffer that is one of the first m cells
abbrev pub PadsBelow : ℕ → ℕ → ℕ → List ℕ → List ℕ → ℕ → Type 0
PadsBelow m i c firsts sources f = (j : ℕ) × (j < m) × (get_or sources (i + j) 0 < i) × CellFault i c firsts j f

-- the site of each of the first four
pub site_of : (e net pin : ℕ) → e < 4 → (number_of e net pin / 2 ≡ net) ⊎ (number_of e net pin / 2 ≡ pin)
site_of e net pin l = elim (dec_lt e 2) [
  | yes h ↦ inl (omega (arith, number_low e net pin h))
  | no h ↦ inr (omega (arith, number_high e net pin (omega arith)))
]

numbers_apart : (d e net pin : ℕ) → net < pin → d < e → number_of d net pin ≢ number_of e net pin
numbers_apart d e net pin n l q = elim (dec_lt e 2) [
  | yes h ↦ omega (arith, number_low d net pin (omega arith), number_low e net pin h, q)
  | no h ↦ elim (dec_lt d 2) [
    | yes y ↦ omega (arith, number_low d net pin y, number_high e net pin (omega arith), q)
    | no y ↦ omega (arith, number_high d net pin (omega arith), number_high e net pin (omega arith), q)
  ]
]

module _ (i c o n q g : ℕ) (kinds counts firsts nets order branches reach src outs goods : List ℕ) (T : Tables i c o n q g kinds counts firsts nets order branches reach src outs goods) where
  -- ---- one fault

  module _ (f : ℕ) (left best pat left' best' pat' : List ℕ) (G : Long left best pat) where
    module _ (faulty : List ℕ) (D : Faulty i c o n f kinds counts nets src faulty) (u : ℕ) (ue : u ≡ bit_and (get_or left f 0) g)
        (R : FaultRan c o n f q u kinds counts firsts faulty order reach outs goods left best pat left' best' pat') where
      asked : (cone : List ℕ) (low : ℕ → ℕ) (rel : ℕ → ℕ → Bool) → Setting i c o kinds counts nets firsts order cone reach src outs low rel g q goods
          → (z x : ℕ) → z < 64 → digit z (get_or left f 0) ≡ true → digit z g ≡ true → x < 1024
          → Shows i c o kinds counts nets low rel f z (64 * q + x) ↔ (lane_of_run (get_or outs z 0) (get_or R.ends z 0) goods R.vals x ≡ true)
      asked cone low rel S z x zl zf zg xl =
          let kl : x / 64 < 16 = omega arith in
          let ll : x % 64 < 64 = omega arith in
          let m : 64 * q + x ≡ 64 * (q + x / 64) + x % 64 = omega arith in
          let out : n - o + z ≡ out_pin (tabled i c o kinds counts nets) z = omega (arith, T.pins) in
          let same : lane_of_run (get_or outs z 0) (get_or R.ends z 0) goods R.vals x
          ≡ xor (lane (x / 64) (x % 64) goods (get_or src (out_pin (tabled i c o kinds counts nets) z) 0)) (lane (x / 64) (x % 64) R.vals (get_or faulty (out_pin (tabled i c o kinds counts nets) z) 0)) =
          ap (λ s. lane_of_run s (get_or R.ends z 0) goods R.vals x) (S.outs_are z zl zg)
          ∙ ap (λ s. lane_of_run (get_or src (out_pin (tabled i c o kinds counts nets) z) 0) s goods R.vals x) (R.ends_are z (S.bed z zl zg).output ∙ ap (λ p. get_or faulty p 0) out) in
          let C : Chunk (width (blocks (tabled i c o kinds counts nets) low) rel z) q R.vals =
          chunk_kept (width (blocks (tabled i c o kinds counts nets) low) rel z) q c u kinds counts firsts faulty order reach goods R.vals (S.bed z zl zg).few T.chip.2.cell R.worked (S.chunk z zl zg) in
          let zu : digit z u ≡ true = ap (digit z) ue ∙ meet (get_or left f 0) g z zf zg in
          rw (same, m) (run_lane (tabled i c o kinds counts nets) low rel z firsts order cone src (S.bed z zl zg)
          (stuck (fault_number (i + c) f)) D.decided faulty D.decides (λ p h. D.slots.slot p (omega (arith, T.pins))) (64 * (q + x / 64) + x % 64)
          (lane (x / 64) (x % 64) goods)
          (start_of (width (blocks (tabled i c o kinds counts nets) low) rel z) q goods (S.chunk z zl zg) (x / 64) (x % 64) kl ll)
          (rules_of i c o kinds counts nets firsts order cone reach src src low rel z (bit_and g g) (S.bed z zl zg) (meet g g z zg zg) S.masks goods (x / 64) (x % 64) kl ll (T.ready.good g).obeys)
          (lane (x / 64) (x % 64) R.vals)
          (start_of (width (blocks (tabled i c o kinds counts nets) low) rel z) q R.vals C (x / 64) (x % 64) kl ll)
          (ap (digit (x % 64)) (C.ones (x / 64) kl) ∙ digit_ones (x % 64) ll)
          (rules_of i c o kinds counts nets firsts order cone reach src faulty low rel z u (S.bed z zl zg) zu S.masks R.vals (x / 64) (x % 64) kl ll R.worked.obeys))

      pub ran_went : Went (λ x. x ≡ f) (FaultStep i c o q g kinds counts firsts nets order reach src outs goods) left best pat left' best' pat'
      ran_went = record {
        kept = looked_kept f q u _ left best pat left' best' pat' G R.looked;
        step = λ x e. rw e (record {
          advance = λ cone low rel S.
              looked_advance (Shows i c o kinds counts nets low rel f) f q g (λ z. lane_of_run (get_or outs z 0) (get_or R.ends z 0) goods R.vals) left best pat left' best' pat' (rw ue at R.looked) (asked cone low rel S);
        });
      }

  -- a fault that is open at no output of g
  pub idle_went : (f : ℕ) (left best pat : List ℕ) → Long left best pat → bit_and (get_or left f 0) g ≡ 0
      → Went (λ x. x ≡ f) (FaultStep i c o q g kinds counts firsts nets order reach src outs goods) left best pat left best pat
  idle_went f left best pat G e =
      record {
        kept = record { long = G; others = λ x h. (refl, refl, refl) };
        step = λ x h. rw h (record {
          advance = λ cone low rel S.
              looked_advance (Shows i c o kinds counts nets low rel f) f q g (λ z x. true) left best pat left best pat (looked_idle f q (bit_and (get_or left f 0) g) (λ z x. true) left best pat e)
              (λ z x zl zf zg xl. absurd (false≢true (sym (digit_zero z) ∙ ap (digit z) (sym e) ∙ meet (get_or left f 0) g z zf zg)));
        });
      }

  -- ---- the four faults of a cell

  module _ (net pin : ℕ) (apart : net < pin) (left₀ best₀ pat₀ left best pat : List ℕ) where
    pub site_more : (m f : ℕ) (left' best' pat' : List ℕ) → f ≡ number_of m net pin → Went (SiteFault m net pin) (FaultStep i c o q g kinds counts firsts nets order reach src outs goods) left₀ best₀ pat₀ left best pat
        → Went (λ x. x ≡ f) (FaultStep i c o q g kinds counts firsts nets order reach src outs goods) left best pat left' best' pat' → Went (SiteFault (m + 1) net pin) (FaultStep i c o q g kinds counts firsts nets order reach src outs goods) left₀ best₀ pat₀ left' best' pat'
    site_more m f left' best' pat' s P Q =
        went_both (FaultStep i c o q g kinds counts firsts nets order reach src outs goods) left₀ best₀ pat₀ (SiteFault m net pin) (λ x. x ≡ f) (SiteFault (m + 1) net pin) left best pat left' best' pat' P Q
        (λ x a b. let (e, el, es) = a in numbers_apart e m net pin apart el (sym es ∙ b ∙ s))
        (λ x a. let (e, el, es) = a in elim (ℕ_discrete e m) [
          | yes h ↦ inr (es ∙ ap (λ e. number_of e net pin) h ∙ sym s)
          | no h ↦ inl (e, omega arith, es)
        ])
        (λ x a. ⊎_elim (λ b. let (e, el, es) = b in (e, omega arith, es)) (λ b. (m, omega arith, b ∙ s)) a)

  -- the four are all of the net and the pin
  pub site_all : (net pin : ℕ) (left₀ best₀ pat₀ left best pat : List ℕ) → Went (SiteFault 4 net pin) (FaultStep i c o q g kinds counts firsts nets order reach src outs goods) left₀ best₀ pat₀ left best pat
      → Went (λ f. (f / 2 ≡ net) ⊎ (f / 2 ≡ pin)) (FaultStep i c o q g kinds counts firsts nets order reach src outs goods) left₀ best₀ pat₀ left best pat
  site_all net pin left₀ best₀ pat₀ left best pat P =
      went_same (FaultStep i c o q g kinds counts firsts nets order reach src outs goods) (SiteFault 4 net pin) (λ f. (f / 2 ≡ net) ⊎ (f / 2 ≡ pin)) left₀ best₀ pat₀ left best pat to from P
    where
      to : (f : ℕ) → SiteFault 4 net pin f → (f / 2 ≡ net) ⊎ (f / 2 ≡ pin)
      to f (e, l, s) = rw s (site_of e net pin l)

      from : (f : ℕ) → (f / 2 ≡ net) ⊎ (f / 2 ≡ pin) → SiteFault 4 net pin f
      from f (inl a) = (f % 2, omega arith, omega (arith, number_low (f % 2) net pin (omega arith)))
      from f (inr a) = (f % 2 + 2, omega arith, omega (arith, number_high (f % 2 + 2) net pin (omega arith)))

  -- ---- the faults of pad buffers

  -- the pins of two cells are apart
  first_up : (j k : ℕ) → j < k → k < c → get_or firsts j 0 < get_or firsts k 0
  first_up j k l h =
      omega (arith, T.first_pins j (omega arith), T.first_pins k (omega arith), T.limits.sound.pinned j (omega arith), sum_up (λ j. get_or counts j 0) (suc j) k l)

  cells_apart : (j k f : ℕ) → j < k → k < c → CellFault i c firsts j f → ¬ CellFault i c firsts k f
  cells_apart j k f l h (inl a) (inl b) = omega arith
  cells_apart j k f l h (inl a) (inr b) = omega arith
  cells_apart j k f l h (inr a) (inl b) = omega arith
  cells_apart j k f l h (inr a) (inr b) = omega (arith, first_up j k l h)

  module _ (sources left₀ best₀ pat₀ left best pat : List ℕ) (m : ℕ) (P : Went (PadsBelow m i c firsts sources) (FaultStep i c o q g kinds counts firsts nets order reach src outs goods) left₀ best₀ pat₀ left best pat) where
    pub pads_more : (left' best' pat' : List ℕ) → m < c → get_or sources (i + m) 0 < i → Went (CellFault i c firsts m) (FaultStep i c o q g kinds counts firsts nets order reach src outs goods) left best pat left' best' pat'
        → Went (PadsBelow (m + 1) i c firsts sources) (FaultStep i c o q g kinds counts firsts nets order reach src outs goods) left₀ best₀ pat₀ left' best' pat'
    pads_more left' best' pat' l y Q =
        went_both (FaultStep i c o q g kinds counts firsts nets order reach src outs goods) left₀ best₀ pat₀ (PadsBelow m i c firsts sources) (CellFault i c firsts m) (PadsBelow (m + 1) i c firsts sources) left best pat left' best' pat' P Q
        (λ f a. let (j, jl, jy, js) = a in cells_apart j m f jl l js)
        (λ f a. let (j, jl, jy, js) = a in elim (ℕ_discrete j m) [
          | yes h ↦ inr (subst (λ j. CellFault i c firsts j f) h js)
          | no h ↦ inl (j, omega arith, jy, js)
        ])
        (λ f a. ⊎_elim (λ b. let (j, jl, jy, js) = b in (j, omega arith, jy, js)) (λ b. (m, omega arith, y, b)) a)

    -- a cell that is no pad buffer is passed over
    pub pads_skip : i ≤ get_or sources (i + m) 0 → Went (PadsBelow (m + 1) i c firsts sources) (FaultStep i c o q g kinds counts firsts nets order reach src outs goods) left₀ best₀ pat₀ left best pat
    pads_skip y =
        went_same (FaultStep i c o q g kinds counts firsts nets order reach src outs goods) (PadsBelow m i c firsts sources) (PadsBelow (m + 1) i c firsts sources) left₀ best₀ pat₀ left best pat
        (λ f a. let (j, jl, jy, js) = a in (j, omega arith, jy, js))
        (λ f a. let (j, jl, jy, js) = a in elim (ℕ_discrete j m) [
          | yes h ↦ let z : get_or sources (i + m) 0 < i = rw h at jy in absurd (omega arith)
          | no h ↦ (j, omega arith, jy, js)
        ])
        P
