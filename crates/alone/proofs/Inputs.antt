-- A stuck input.
use Prim.Native.Nat.{ℕ, ◌+◌, ◌*◌, ◌/◌, ◌%◌, ◌<◌}
use mathlib.Core.Path.{◌≡◌, refl, sym, ap, ◌∙◌, subst}
use mathlib.Core.Logic.{◌↔◌, ◌≢◌, ⊎_elim}
use mathlib.Core.Bool.{Bool, true, false, cond, xor, false≢true}
use mathlib.Core.List.{List}
use native.Mathlib.Omega.{arith}
use native.Mathlib.Decide.{ℕ_discrete}
use native.Mathlib.Nat.{add-zero}
use borrow.Author.Tests.{lt-ltb, eq-eqb, ne_eqb}
use lib.ListN.{get_or}
use lib.Dec.{eqb}
use lib.Bits.{bit_and}
use Rattle.chip.specs.Netlist.{Netlist, PinOf, first_pin, out_pin, all_pins}
use Rattle.chip.specs.Pads.{branch_of}
use Rattle.chip.specs.Inner.Tables.{tabled}
use Rattle.chip.specs.Class.{Reach, here, on, delay, blocks, tally}
use Rattle.chip.specs.Faults.{stuck}
use Rattle.chip.specs.Search.{digit, width, Tried}
use Rattle.chip.specs.declared.Site.TheVariants.{Net}
use Rattle.chip.specs.declared.Fault.{Fault}
use Rattle.chip.proofs.Pads.{pin_one}
use Rattle.chip.proofs.Basics.{pin_in, first_pin_lem}
use Rattle.chip.proofs.Blocks.{counted, tally_past}
use Rattle.words.proofs.Bits.{digit_zero}
use Rattle.chip.proofs.Basics.{some_pin}
use Rattle.rows.specs.Rows.{Filled, on_row}
use Rattle.rows.proofs.Fill.{row_at}
use Rattle.rows.proofs.Bits.{meet}
use Rattle.events.specs.Events.{marked, Live, Chip, Marked, Ran, Good}
use Rattle.words.proofs.Lanes.{gate_same}
use Rattle.flip.specs.Bed.{Bed, Start, Rules}
use Rattle.flip.proofs.Flips.{no_out, Stuck, input_lane}
use Rattle.faults.specs.Numbers.{fault_number}
use Rattle.bridge.proofs.Bridge.{lane}
use Rattle.cells.specs.Cells.{Clear}
use Rattle.known.specs.Setting.{Shows, Setting, Long, lane_of_run, Went}
use Rattle.known.proofs.Advance.{advance_none}
use Rattle.stages.specs.Stage.{VariableReaders, Variables}
use Rattle.alone.specs.Alone.{VarsPut, VarsMarked, InputRan, InputTried, InputStep}
use Rattle.known.proofs.Steps.{looked_kept, looked_advance}
use Rattle.known.proofs.Runs.{constant, start_of, rules_of}

-- ---- the variables of an input

module _ (c w f u : ℕ) (kinds counts firsts src order reach heads readers list input goods : List ℕ) (C : Chip c kinds counts firsts src order reach heads readers)
    (R : VariableReaders c w counts firsts src order heads readers list input) (G : Good c u kinds counts firsts src order reach goods) (blank acc vals₁ marks marks₁ : List ℕ)
    (A : Filled 0 16 (λ k. get_or goods (16 * (1040 + f % 2) + k) 0) blank acc)
    (P : VarsPut w (f / 2) list input (λ k j. get_or acc j 0) goods vals₁) (M : VarsMarked w (f / 2) u list input heads readers reach marks marks₁) (K : Clear marks) where
  -- a slot that is no variable of the input holds what it did
  other : (s k : ℕ) → k < 16 → (s < w → get_or input (get_or list s 0) 0 ≢ f / 2) → get_or vals₁ (16 * s + k) 0 ≡ get_or goods (16 * s + k) 0
  other s k l g = P.others (16 * s + k) (λ v h e y. let q : s ≡ v = omega arith in g (omega arith) (ap (λ s. get_or input (get_or list s 0) 0) q ∙ e))

  pub input_marked : Marked 0 c u kinds counts firsts src order reach vals₁ marks₁
  input_marked =
      record {
        within = λ t m. ⊎_elim (λ b. absurd (false≢true (sym (K.clear t) ∙ b))) (λ b. let (r, l, q) = b in rw q (C.reader r l)) (M.only t m);
        rest = λ t _ l v m. record {
          rule = λ k b.
              other (16 + get_or order t 0) k b (λ h. absurd (omega (arith, R.few)))
              ∙ (G.obeys t l v).rule k b
              ∙ sym (gate_same (on_row src vals₁ k) (on_row src goods k) (get_or firsts (get_or order t 0) 0) (get_or counts (get_or order t 0) 0) (get_or kinds (get_or order t 0) 0)
              (rw add-zero at (pin t l v m k b 0 (some_pin (get_or kinds (get_or order t 0) 0) (get_or counts (get_or order t 0) 0) (C.taken t l)))) (λ i h. pin t l v m k b i h));
        };
      }
    where
      pin : (t : ℕ) → t < c → Live reach u t → marked marks₁ t ≡ false → (k : ℕ) → k < 16 → (i : ℕ) → i < get_or counts (get_or order t 0) 0
          → on_row src vals₁ k (get_or firsts (get_or order t 0) 0 + i) ≡ on_row src goods k (get_or firsts (get_or order t 0) 0 + i)
      pin t l v m k b i h = other (get_or src (get_or firsts (get_or order t 0) 0 + i) 0) k b (λ sw e.
          let (r, lo, hi, z) = R.reads (get_or src (get_or firsts (get_or order t 0) 0 + i) 0) t i sw l h refl in
          let v' : Live reach u (get_or readers r 0) = rw z v in
          false≢true (sym m ∙ ap (marked marks₁) (sym z) ∙ M.put (get_or src (get_or firsts (get_or order t 0) 0 + i) 0) sw e r lo hi v'))

  pub input_ran : (changed vals₂ changed₂ : List ℕ) → Clear changed → Ran 0 c u kinds counts firsts src order reach vals₁ changed vals₂ changed₂
      → InputRan c w f u kinds counts firsts src order reach list input goods vals₂ changed₂
  input_ran changed vals₂ changed₂ D X =
      record {
        long = X.long ∙ P.long;
        long_changed = X.long_changed;
        bounded = X.bounded (λ t m. absurd (false≢true (sym (D.clear t) ∙ m)));
        obeys = λ t l v. X.obeys t (omega arith) l v;
        stuck = λ k j l h e. X.others (16 * k + j) (λ t a b y. omega (arith, R.few)) ∙ P.here k l e j h ∙ row_at 16 _ blank acc A j h;
        free = λ k j l h e. X.others (16 * k + j) (λ t a b y. omega (arith, R.few)) ∙ other k j h (λ _. e);
        agree = λ y g v. X.agree vals₁ (λ x _. refl) y g ∙ P.others y v;
      }

-- ---- what the run tells

-- all pins of a cell reach what one of them reaches
sibling : (N : Netlist) (z k : ℕ) {p e : ℕ} → Reach N z p e → PinOf N k p → (r : ℕ) → PinOf N k r → (d : ℕ) × Reach N z r d
sibling N z k (here l) o r o' = absurd (no_out N k (out_pin N z) z o refl)
sibling N z k (on {p} {q} {j} {e} i n x) o r o' =
    let s : j ≡ k = pin_one N j k p i o in
    let m : N.net q ≡ N.inputs + k = rw s at n in
    (delay (N.kind k) + e, on o' m x)

input_fault_lem : (nets f : ℕ) → f / 2 < nets → ◌≡◌ {A = Fault} (fault_number nets f) (record { site = Net (f / 2); stuck = f % 2 })
input_fault_lem nets f l = rw (lt-ltb (f / 2) nets l) refl

module _ (i c w q g f : ℕ) (kinds counts firsts src order reach outs list input goods left best pat left' best' pat' : List ℕ) (fi : f < 2 * i)
    (G : Good c (bit_and (get_or left f 0) g) kinds counts firsts src order reach goods)
    (T : InputTried f c w q (bit_and (get_or left f 0) g) kinds counts firsts src order reach outs list input goods left best pat left' best' pat') where
  module _ (o : ℕ) (nets cone : List ℕ) (low : ℕ → ℕ) (rel : ℕ → ℕ → Bool) (S : Setting i c o kinds counts nets firsts order cone reach src outs low rel g q goods)
      (I : Variables (tabled i c o kinds counts nets) low rel g w list input) (z k l : ℕ) (zl : z < 64) (zg : digit z g ≡ true) (zu : digit z (bit_and (get_or left f 0) g) ≡ true) (kl : k < 16) (ll : l < 64) where
    Q : Bed (tabled i c o kinds counts nets) low rel z firsts order cone src
    Q = S.bed z zl zg

    -- a branch that reaches the output looks at a variable
    branch_is : (p e : ℕ) → Reach (tabled i c o kinds counts nets) z p e → p < all_pins (tabled i c o kinds counts nets) → branch_of (tabled i c o kinds counts nets) p < i
        → lane k l T.vals (get_or src p 0) ≡ cond (eqb (branch_of (tabled i c o kinds counts nets) p) (f / 2)) (eqb (f % 2) 1) (lane k l goods (get_or src p 0))
    branch_is p e r h b =
        let rz : rel z ((blocks (tabled i c o kinds counts nets) low).block p) ≡ true = I.reached z p e zl zg b r in
        let bl : (blocks (tabled i c o kinds counts nets) low).block p < (blocks (tabled i c o kinds counts nets) low).count = (counted (tabled i c o kinds counts nets) low Q.lowest).in_block p h b in
        let s : get_or src p 0 ≡ tally (rel z) ((blocks (tabled i c o kinds counts nets) low).block p) =
        Q.input_slot p h b ∙ ap (λ r. cond r (tally (rel z) ((blocks (tabled i c o kinds counts nets) low).block p)) 1040) rz in
        let vw : tally (rel z) ((blocks (tabled i c o kinds counts nets) low).block p) < w =
        omega (arith, tally_past (rel z) ((blocks (tabled i c o kinds counts nets) low).block p) (blocks (tabled i c o kinds counts nets) low).count bl rz, I.wide z zl zg) in
        let own : get_or input (get_or list (tally (rel z) ((blocks (tabled i c o kinds counts nets) low).block p)) 0) 0 ≡ branch_of (tabled i c o kinds counts nets) p =
        ap (λ b. get_or input b 0) (I.listed z ((blocks (tabled i c o kinds counts nets) low).block p) zl zg bl rz) ∙ I.input_is p h b in
        rw s (elim (ℕ_discrete (branch_of (tabled i c o kinds counts nets) p) (f / 2)) [
          | yes y ↦ rw (eq-eqb (branch_of (tabled i c o kinds counts nets) p) (f / 2) y)
              (ap (digit l) (T.ran.stuck (tally (rel z) ((blocks (tabled i c o kinds counts nets) low).block p)) k vw kl (own ∙ y))
              ∙ constant (width (blocks (tabled i c o kinds counts nets) low) rel z) q goods (S.chunk z zl zg) (f % 2) k l (omega arith) kl ll)
          | no y ↦ rw (ne_eqb (branch_of (tabled i c o kinds counts nets) p) (f / 2) y)
              (ap (digit l) (T.ran.free (tally (rel z) ((blocks (tabled i c o kinds counts nets) low).block p)) k vw kl (λ x. y (sym own ∙ x))))
        ])

    Ag : Start (width (blocks (tabled i c o kinds counts nets) low) rel z) (64 * (q + k) + l) (lane k l goods)
    Ag = start_of (width (blocks (tabled i c o kinds counts nets) low) rel z) q goods (S.chunk z zl zg) k l kl ll

    Rg : Rules (tabled i c o kinds counts nets) firsts cone z c (λ p. lane k l goods (get_or src p 0)) (lane k l goods)
    Rg = rules_of i c o kinds counts nets firsts order cone reach src src low rel z (bit_and (get_or left f 0) g) Q zu S.masks goods k l kl ll G.obeys

    held : Stuck (tabled i c o kinds counts nets) low rel z firsts order cone src Q (f / 2) (omega arith) (f % 2) (64 * (q + k) + l) (lane k l goods) Ag Rg (lane k l T.vals)
    held =
        record {
          cell = λ j p e own b.
              let first : get_or firsts j 0 ≡ first_pin (tabled i c o kinds counts nets) j = Q.first_pins j (omega (arith, own.cell)) in
              let fo : PinOf (tabled i c o kinds counts nets) j (first_pin (tabled i c o kinds counts nets) j) = first_pin_lem (tabled i c o kinds counts nets) Q.limits.sound j own.cell in
              let (d, r) = (Q.cones (first_pin (tabled i c o kinds counts nets) j) (pin_in (tabled i c o kinds counts nets) j (first_pin (tabled i c o kinds counts nets) j) fo)).set z Q.output (rw first at e) in
              let (d', r') = sibling (tabled i c o kinds counts nets) z j r fo p own in
              branch_is p d' r' (pin_in (tabled i c o kinds counts nets) j p own) b;
          out = λ b. branch_is (out_pin (tabled i c o kinds counts nets) z) 0 (here Q.output) (omega (arith, Q.output)) b;
        }

    asked : Tried (tabled i c o kinds counts nets) (blocks (tabled i c o kinds counts nets) low) (stuck (record { site = Net (f / 2); stuck = f % 2 })) rel z (64 * (q + k) + l)
        ↔ (xor (lane k l goods (get_or src (out_pin (tabled i c o kinds counts nets) z) 0)) (lane k l T.vals (get_or src (out_pin (tabled i c o kinds counts nets) z) 0)) ≡ true)
    asked = input_lane (tabled i c o kinds counts nets) low rel z firsts order cone src Q (f / 2) (omega arith) (f % 2) (64 * (q + k) + l) (lane k l goods) Ag Rg (lane k l T.vals)
        (rules_of i c o kinds counts nets firsts order cone reach src src low rel z (bit_and (get_or left f 0) g) Q zu S.masks T.vals k l kl ll T.ran.obeys) held

  input_step : InputStep i c w q g kinds counts firsts src order reach outs list input goods f (get_or left f 0) (get_or best f 0) (get_or pat f 0) (get_or left' f 0) (get_or best' f 0) (get_or pat' f 0)
  input_step = record {
    advance = λ o nets cone low rel S I.
        looked_advance (Shows i c o kinds counts nets low rel f) f q g (λ z. lane_of_run (get_or outs z 0) (get_or outs z 0) goods T.vals) left best pat left' best' pat' T.looked
        (λ z x zl d zg xl.
        let m : 64 * q + x ≡ 64 * (q + x / 64) + x % 64 = omega arith in
        let same : lane_of_run (get_or outs z 0) (get_or outs z 0) goods T.vals x ≡ lane_of_run (get_or src (out_pin (tabled i c o kinds counts nets) z) 0) (get_or src (out_pin (tabled i c o kinds counts nets) z) 0) goods T.vals x =
        ap (λ s. lane_of_run s s goods T.vals x) (S.outs_are z zl zg) in
        rw (same, m) (subst (λ h. Tried (tabled i c o kinds counts nets) (blocks (tabled i c o kinds counts nets) low) (stuck h) rel z (64 * (q + x / 64) + x % 64)
        ↔ (lane_of_run (get_or src (out_pin (tabled i c o kinds counts nets) z) 0) (get_or src (out_pin (tabled i c o kinds counts nets) z) 0) goods T.vals x ≡ true)) (sym (input_fault_lem (i + c) f (omega arith)))
        (asked o nets cone low rel S I z (x / 64) (x % 64) zl zg (meet (get_or left f 0) g z d zg) (omega arith) (omega arith))));
  }

  pub input_went : Long left best pat → Went (λ x. x ≡ f) (InputStep i c w q g kinds counts firsts src order reach outs list input goods) left best pat left' best' pat'
  input_went L = record { kept = looked_kept f q _ _ left best pat left' best' pat' L T.looked; step = λ x e. rw e input_step }

pub input_idle : (i c w q g f : ℕ) (kinds counts firsts src order reach outs list input goods left best pat : List ℕ) → Long left best pat → bit_and (get_or left f 0) g ≡ 0
    → Went (λ x. x ≡ f) (InputStep i c w q g kinds counts firsts src order reach outs list input goods) left best pat left best pat
input_idle i c w q g f kinds counts firsts src order reach outs list input goods left best pat L e =
    record {
      kept = record { long = L; others = λ x d. (refl, refl, refl) };
      step = λ x y. rw y (record { advance = λ o nets cone low rel S I. advance_none (Shows i c o kinds counts nets low rel f) g q (get_or left f 0) (get_or best f 0) (get_or pat f 0) (λ z d. false≢true (sym (digit_zero z) ∙ ap (digit z) (sym e) ∙ d)) });
    }
