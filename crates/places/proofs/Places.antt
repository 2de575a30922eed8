-- What the trial of a home tells of each of its faults.
use Prim.Native.Nat.{ℕ, ◌+◌, ◌*◌, ◌-◌, ◌/◌, ◌≤◌, ◌<◌}
use mathlib.Core.Path.{◌≡◌, refl, sym, ap, ◌∙◌, subst}
use mathlib.Core.Logic.{◌≢◌, ◌↔◌}
use mathlib.Core.Bool.{Bool, true, false, cond, ◌&&◌, false≢true}
use mathlib.Core.List.{List}
use native.Mathlib.Omega.{arith}
use native.Mathlib.Decide.{dec_lt, ℕ_discrete}
use borrow.Author.Tests.{leb-true, eqb-true}
use lib.Dec.{leb, eqb}
use lib.Seq.{get_or-set_same, get_or-set_other}
use lib.ListN.{length, get_or, set, length-set}
use lib.Bits.{bit_and, and_zero_l}
use Rattle.chip.specs.Netlist.{takes}
use Rattle.chip.specs.Inner.Tables.{tabled}
use Rattle.chip.specs.Pads.{pad_buffer}
use Rattle.chip.specs.Class.{blocks}
use Rattle.chip.specs.Faults.{stuck}
use Rattle.chip.specs.Search.{digit, Tried}
use Rattle.chip.proofs.Bools.{both_true}
use Rattle.events.specs.Events.{Chip, Good}
use Rattle.homes.specs.Homes.{number_of, home_lane, Home}
use Rattle.homes.proofs.Looking.{number_low, number_high}
use Rattle.cells.specs.Cells.{HomeTried}
use Rattle.bridge.specs.Chunk.{fault_at}
use Rattle.bridge.proofs.Bridge.{home_asked, fault_number_lem}
use Rattle.known.specs.Setting.{Setting, Shows, Advance, GoodRun, Long}
use Rattle.known.proofs.Advance.{advance_none, advance_looked}
use Rattle.rows.proofs.Bits.{split, meet, some_bit}
use Rattle.stages.specs.Stage.{Apart, Covers}
use Rattle.places.specs.Places.{fault_of, PlacesDone, PlaceDone}

-- pattern m shows fault e of cell j, with its pins from pin a on, at output z
abbrev ShownAt : ℕ → ℕ → ℕ → List ℕ → List ℕ → List ℕ → (ℕ → ℕ) → (ℕ → ℕ → Bool) → ℕ → ℕ → ℕ → ℕ → ℕ → Type 0
ShownAt i c o kinds counts nets low rel e j a z m = Tried (tabled i c o kinds counts nets) (blocks (tabled i c o kinds counts nets) low) (stuck (fault_at e i j a)) rel z m

module _ (i c o : ℕ) (kinds counts nets firsts order cone reach src outs : List ℕ) (low : ℕ → ℕ) (rel : ℕ → ℕ → Bool) (g q : ℕ) (goods : List ℕ)
    (S : Setting i c o kinds counts nets firsts order cone reach src outs low rel g q goods) (w p net pin : ℕ) (hp : p < c) (np : pad_buffer (tabled i c o kinds counts nets) (get_or order p 0) ≡ false)
    (ahead : (t x : ℕ) → p ≤ t → t < c → x < get_or counts (get_or order p 0) 0 → get_or src (get_or firsts (get_or order p 0) 0 + x) 0 ≢ 16 + get_or order t 0)
    (G : Good c (bit_and w g) kinds counts firsts src order reach goods) (left best pat left' best' pat' : List ℕ)
    (A : Covers net pin (get_or counts (get_or order p 0) 0) left w)
    (T : HomeTried c (bit_and w g) p q (get_or kinds (get_or order p 0) 0) net pin (get_or order p 0) (get_or firsts (get_or order p 0) 0) (get_or counts (get_or order p 0) 0)
    kinds counts firsts src order reach outs goods left best pat left' best' pat') where
  asked : (e z x : ℕ) → e < 2 * get_or counts (get_or order p 0) 0 + 2 → z < 64 → digit z (bit_and (get_or left (number_of e net pin) 0) (bit_and w g)) ≡ true → x < 1024
      → ShownAt i c o kinds counts nets low rel e (get_or order p 0) (get_or firsts (get_or order p 0) 0) z (64 * q + x)
      ↔ (home_lane e (get_or kinds (get_or order p 0) 0) src (get_or firsts (get_or order p 0) 0) (get_or counts (get_or order p 0) 0) (16 + get_or order p 0) outs goods T.vals z x ≡ true)
  asked e z x b zl d xl =
      let zu : digit z (bit_and w g) ≡ true = (split (get_or left (number_of e net pin) 0) (bit_and w g) z d).1 in
      let zg : digit z g ≡ true = (split w g z zu).1 in
      home_asked i c o kinds counts nets firsts order cone reach src low rel z (bit_and w g) (S.bed z zl zg) zu S.masks q goods (S.chunk z zl zg) G.obeys p hp np ahead T.vals T.turn T.flipped
      outs e x (S.outs_are z zl zg) b xl (T.within e b (some_bit (bit_and (get_or left (number_of e net pin) 0) (bit_and w g)) z d))

  home_advance : (e : ℕ) → e < 2 * get_or counts (get_or order p 0) 0 + 2
      → Advance (ShownAt i c o kinds counts nets low rel e (get_or order p 0) (get_or firsts (get_or order p 0) 0)) g q (get_or left (number_of e net pin) 0) (get_or best (number_of e net pin) 0) (get_or pat (number_of e net pin) 0)
      (get_or left' (number_of e net pin) 0) (get_or best' (number_of e net pin) 0) (get_or pat' (number_of e net pin) 0)
  home_advance e b = advance_looked (ShownAt i c o kinds counts nets low rel e (get_or order p 0) (get_or firsts (get_or order p 0) 0)) g q (bit_and w g)
      (get_or left (number_of e net pin) 0) (get_or best (number_of e net pin) 0) (get_or pat (number_of e net pin) 0)
      (get_or left' (number_of e net pin) 0) (get_or best' (number_of e net pin) 0) (get_or pat' (number_of e net pin) 0)
      (home_lane e (get_or kinds (get_or order p 0) 0) src (get_or firsts (get_or order p 0) 0) (get_or counts (get_or order p 0) 0) (16 + get_or order p 0) outs goods T.vals)
      (λ z zl d. (split w g z (split (get_or left (number_of e net pin) 0) (bit_and w g) z d).1).1)
      (λ z zl d. let y = split (get_or left (number_of e net pin) 0) g z d in meet w g z (A.all e z b y.0) y.1)
      (λ z x zl d xl f t. false≢true (sym f ∙ (asked e z x b zl d xl).0 t))
      (λ z x zl d xl f. (asked e z x b zl d xl).1 f)
      (T.looked.entry e b)

-- ---- one place

pub place_idle : (p i c q g : ℕ) (kinds counts firsts src order reach outs goods left best pat groups : List ℕ) → Long left best pat → length groups ≡ 1024 → bit_and (get_or groups p 0) g ≡ 0
    → PlaceDone p i c q g kinds counts firsts src order reach outs goods left best pat groups left best pat groups
place_idle p i c q g kinds counts firsts src order reach outs goods left best pat groups L l e =
    record {
      long = L;
      long_groups = l;
      covers = λ C. C;
      idle = λ y. y;
      groups_others = λ t d. refl;
      others = λ x d. (refl, refl, refl);
      advance = λ o nets cone low rel S k np C b. advance_none (Shows i c o kinds counts nets low rel (fault_of i c firsts order p k)) g q
          (get_or left (fault_of i c firsts order p k) 0) (get_or best (fault_of i c firsts order p k) 0) (get_or pat (fault_of i c firsts order p k) 0)
          (λ z d. let y = split (get_or left (fault_of i c firsts order p k) 0) g z d in some_bit (bit_and (get_or groups p 0) g) z (meet (get_or groups p 0) g z (C.all k z b y.0) y.1) e);
    }

pub place_open : (p i c q g : ℕ) (kinds counts firsts src order reach heads readers outs goods left best pat groups left' best' pat' groups' : List ℕ) (w : ℕ)
    → Chip c kinds counts firsts src order reach heads readers → Apart i c counts firsts src order → GoodRun c q g kinds counts firsts src order reach outs goods → p < c → p < 1024 → length groups ≡ 1024
    → bit_and (get_or groups p 0) g ≢ 0
    → HomeTried c (bit_and (get_or groups p 0) g) p q (get_or kinds (get_or order p 0) 0) (i + get_or order p 0) (i + c + get_or firsts (get_or order p 0) 0) (get_or order p 0) (get_or firsts (get_or order p 0) 0) (get_or counts (get_or order p 0) 0)
    kinds counts firsts src order reach outs goods left best pat left' best' pat'
    → Covers (i + get_or order p 0) (i + c + get_or firsts (get_or order p 0) 0) (get_or counts (get_or order p 0) 0) left' w → groups' ≡ set groups p w
    → PlaceDone p i c q g kinds counts firsts src order reach outs goods left best pat groups left' best' pat' groups'
place_open p i c q g kinds counts firsts src order reach heads readers outs goods left best pat groups left' best' pat' groups' w H A R hp few l u T D e =
    record {
      long = record { long_left = T.looked.long_left; long_best = T.looked.long_best; long_pat = T.looked.long_pat };
      long_groups = rw e (simp length-set l);
      covers = λ C. rw (e, get_or-set_same groups p w 0 (omega arith)) D;
      idle = λ y. absurd (some y);
      groups_others = λ t d. rw e (get_or-set_other groups p t w 0 d);
      others = λ x d. T.looked.others x (d some);
      advance = λ o nets cone low rel S k np C b. subst
          (λ f. Advance (λ z m. Tried (tabled i c o kinds counts nets) (blocks (tabled i c o kinds counts nets) low) (stuck f) rel z m) g q
          (get_or left (fault_of i c firsts order p k) 0) (get_or best (fault_of i c firsts order p k) 0) (get_or pat (fault_of i c firsts order p k) 0)
          (get_or left' (fault_of i c firsts order p k) 0) (get_or best' (fault_of i c firsts order p k) 0) (get_or pat' (fault_of i c firsts order p k) 0))
          (fault_number_lem k i c (get_or order p 0) (get_or firsts (get_or order p 0) 0) (A.cell p hp))
          (home_advance i c o kinds counts nets firsts order cone reach src outs low rel g q goods S (get_or groups p 0) p (i + get_or order p 0) (i + c + get_or firsts (get_or order p 0) 0) hp np
          (λ t x a h m. H.ahead p t x a h m) (R.good (get_or groups p 0)) left best pat left' best' pat' C T k b);
    }
  where
    some : get_or groups p 0 ≢ 0
    some y = u (ap (λ x. bit_and x g) y ∙ and_zero_l g)

-- ---- all places

-- faults of two places have two numbers
pub faults_apart : (i c : ℕ) (counts firsts src order : List ℕ) → Apart i c counts firsts src order → ((s t : ℕ) → s < c → t < c → s ≢ t → get_or order s 0 ≢ get_or order t 0)
    → (s t e f : ℕ) → s < c → t < c → s ≢ t → e < 2 * get_or counts (get_or order s 0) 0 + 2 → f < 2 * get_or counts (get_or order t 0) 0 + 2 → fault_of i c firsts order s e ≢ fault_of i c firsts order t f
faults_apart i c counts firsts src order A once s t e f sc tc d el fl q = elim (dec_lt e 2) [
  | yes a ↦ elim (dec_lt f 2) [
    | yes b ↦ once s t sc tc d (omega (arith, number_low e (i + get_or order s 0) (i + c + get_or firsts (get_or order s 0) 0) a, number_low f (i + get_or order t 0) (i + c + get_or firsts (get_or order t 0) 0) b, q))
    | no b ↦ omega (arith, number_low e (i + get_or order s 0) (i + c + get_or firsts (get_or order s 0) 0) a, number_high f (i + get_or order t 0) (i + c + get_or firsts (get_or order t 0) 0) (omega arith), q, A.cell s sc)
  ]
  | no a ↦ elim (dec_lt f 2) [
    | yes b ↦ omega (arith, number_high e (i + get_or order s 0) (i + c + get_or firsts (get_or order s 0) 0) (omega arith), number_low f (i + get_or order t 0) (i + c + get_or firsts (get_or order t 0) 0) b, q, A.cell t tc)
    | no b ↦ A.pins s t ((e - 2) / 2) ((f - 2) / 2) sc tc d (omega arith) (omega arith)
        (omega (arith, number_high e (i + get_or order s 0) (i + c + get_or firsts (get_or order s 0) 0) (omega arith), number_high f (i + get_or order t 0) (i + c + get_or firsts (get_or order t 0) 0) (omega arith), q))
  ]
]

advance_is : (Shown : ℕ → ℕ → Type 0) (g q l b p l' b' p' l₂ b₂ p₂ l₃ b₃ p₃ : ℕ) → Advance Shown g q l b p l' b' p' → l₂ ≡ l → b₂ ≡ b → p₂ ≡ p → l₃ ≡ l' → b₃ ≡ b' → p₃ ≡ p' → Advance Shown g q l₂ b₂ p₂ l₃ b₃ p₃
advance_is Shown g q l b p l' b' p' l₂ b₂ p₂ l₃ b₃ p₃ A e f h k m n = rw (e, f, h, k, m, n) A

pub places_more : (n i c q g : ℕ) (kinds counts firsts src order reach heads readers outs goods left best pat groups left₁ best₁ pat₁ groups₁ left₂ best₂ pat₂ groups₂ : List ℕ)
    → Apart i c counts firsts src order → Chip c kinds counts firsts src order reach heads readers → n < c
    → PlacesDone n i c q g kinds counts firsts src order reach outs goods left best pat groups left₁ best₁ pat₁ groups₁
    → PlaceDone n i c q g kinds counts firsts src order reach outs goods left₁ best₁ pat₁ groups₁ left₂ best₂ pat₂ groups₂
    → PlacesDone (n + 1) i c q g kinds counts firsts src order reach outs goods left best pat groups left₂ best₂ pat₂ groups₂
places_more n i c q g kinds counts firsts src order reach heads readers outs goods left best pat groups left₁ best₁ pat₁ groups₁ left₂ best₂ pat₂ groups₂ A H nc P D =
    record {
      long = D.long;
      long_groups = D.long_groups;
      covers = λ t tc C. elim (ℕ_discrete t n) [
        | yes s ↦ rw s (D.covers (P.covers n nc (rw s at C)))
        | no s ↦ rw (D.groups_others t s) (record {
          all = λ e z l d. (P.covers t tc C).all e z l (ap (digit z) (sym (D.others (fault_of i c firsts order t e) (λ _ f b. far t n e f tc nc s l b)).0) ∙ d);
        })
      ];
      idle = λ t tc y. elim (ℕ_discrete t n) [
        | yes s ↦ rw s (D.idle (P.idle n nc (rw s at y)))
        | no s ↦ D.groups_others t s ∙ P.idle t tc y
      ];
      others = λ x d.
          let a = D.others x (λ y e b. d n e (omega arith) (λ k. y (P.idle n nc k)) b) in
          let b = P.others x (λ t e h y k. d t e (omega arith) y k) in
          (a.0 ∙ b.0, a.1 ∙ b.1, a.2 ∙ b.2);
      advance = λ o nets cone low rel S t e h np C b. elim (ℕ_discrete t n) [
        | yes s ↦
            let y = P.others (fault_of i c firsts order n e) (λ t' e' h' _ b'. far n t' e e' nc (omega arith) (λ k. omega arith) (rw s at b) b') in
            rw s (advance_is (Shows i c o kinds counts nets low rel (fault_of i c firsts order n e)) g q _ _ _ _ _ _ _ _ _ _ _ _
            (D.advance o nets cone low rel S e (rw s at np) (P.covers n nc (rw s at C)) (rw s at b)) (sym y.0) (sym y.1) (sym y.2) refl refl refl)
        | no s ↦
            let y = D.others (fault_of i c firsts order t e) (λ _ f k. far t n e f (omega arith) nc s b k) in
            advance_is (Shows i c o kinds counts nets low rel (fault_of i c firsts order t e)) g q _ _ _ _ _ _ _ _ _ _ _ _
            (P.advance o nets cone low rel S t e (omega arith) np C b) refl refl refl y.0 y.1 y.2
      ];
    }
  where
    far : (s t e f : ℕ) → s < c → t < c → s ≢ t → e < 2 * get_or counts (get_or order s 0) 0 + 2 → f < 2 * get_or counts (get_or order t 0) 0 + 2 → fault_of i c firsts order s e ≢ fault_of i c firsts order t f
    far = faults_apart i c counts firsts src order A H.once

-- ---- a home

few_taken : (kind n : ℕ) → takes kind n ≡ true → n ≤ 8
unfolding takes
few_taken kind n e = go (leb 2 kind && leb kind 7) e
  where
    go : (b : Bool) → cond b (leb 2 n && leb n 8) (eqb n 1) ≡ true → n ≤ 8
    go true d = leb-true n 8 (both_true (leb 2 n) (leb n 8) d).1
    go false d = let q : n ≡ 1 = eqb-true n 1 d in omega arith

pub home_of : (c p : ℕ) (kinds counts firsts src order reach heads readers : List ℕ) → Chip c kinds counts firsts src order reach heads readers → p < c
    → Home (get_or kinds (get_or order p 0) 0) src 16672 (get_or firsts (get_or order p 0) 0) (get_or counts (get_or order p 0) 0)
home_of c p kinds counts firsts src order reach heads readers H l =
    record { taken = H.taken p l; known = H.known p l; few = few_taken (get_or kinds (get_or order p 0) 0) (get_or counts (get_or order p 0) 0) (H.taken p l); pins = H.pins p l; room = omega arith }
