-- One chunk: its good words, the faults that are runs of their own, and those of all other cells.
use Prim.Native.Nat.{ℕ, ◌+◌, ◌-◌, ◌*◌, ◌^◌, ◌<◌}
use mathlib.Core.Path.{◌≡◌, refl, sym, ap, ◌∙◌}
use mathlib.Core.Logic.{◌≢◌, ◌⊎◌, inl, inr}
use mathlib.Core.Bool.{Bool, true, false, false≢true}
use mathlib.Core.List.{List}
use native.Mathlib.Omega.{arith}
use lib.ListN.{get_or}
use lib.Bits.{bit_and, and_le_r}
use Rattle.chip.specs.Inner.Tables.{tabled}
use Rattle.chip.specs.Pads.{pad_buffer}
use Rattle.chip.specs.Search.{digit}
use Rattle.words.proofs.Bits.{digit_zero, word_zero}
use Rattle.patterns.specs.Words.{GoodWords}
use Rattle.known.specs.Setting.{Setting, GoodRun, Went}
use Rattle.rows.proofs.Bits.{split, meet}
use Rattle.alone.specs.Alone.{Between, OutStep, InputStep}
use Rattle.known.proofs.Steps.{went_both, went_same}
use Rattle.buffers.specs.Buffers.{PadFault, FaultStep}
use Rattle.places.specs.Places.{PlacesDone, fault_of}
use Rattle.stages.specs.Stage.{Watch, OutsOnly, Stage}
use Rattle.groups.specs.Chunks.{AtHome, Alone, ChunkStep, ChunkTried}
use Rattle.groups.proofs.Sorts.{sorted, home_only, input_buffer, alone_out}

-- ---- what a group's tables give for a chunk

and_none : (a y u : ℕ) → u < 2 ^ 64 → bit_and a u ≡ 0 → bit_and a (bit_and y u) ≡ 0
and_none a y u l e = word_zero (bit_and a (bit_and y u)) (omega (arith, and_le_r a (bit_and y u), and_le_r y u)) (λ k h. dark k (digit k (bit_and a (bit_and y u))) refl)
  where
    dark : (k : ℕ) (b : Bool) → digit k (bit_and a (bit_and y u)) ≡ b → digit k (bit_and a (bit_and y u)) ≡ false
    dark k true d = let s = split a (bit_and y u) k d in absurd (false≢true (sym (digit_zero k) ∙ ap (digit k) (sym e) ∙ meet a u k s.0 (split y u k s.1).1))
    dark k false d = d

module _ (i c o n w u q : ℕ) (kinds counts firsts nets order branches sources cone reach heads readers src outs list input : List ℕ) (low : ℕ → ℕ) (rel : ℕ → ℕ → Bool)
    (S : Stage i c o n w u kinds counts firsts nets order branches sources cone reach heads readers src outs list input low rel) where
  pub ready_of : (goods vals : List ℕ) → u < 2 ^ 64 → q < 4096 → GoodWords c w q u kinds counts firsts src order reach goods vals → GoodRun c q u kinds counts firsts src order reach outs goods
  ready_of goods vals ul l G = record {
    chunk = l;
    words = G.words;
    outs_long = S.outs_long;
    outs_low = S.outs_low;
    good = λ y. record { obeys = λ t h v. G.good.obeys t h (λ e. v (and_none (get_or reach t 0) y u ul e)) };
  }

  pub setting_of : (goods vals : List ℕ) → GoodWords c w q u kinds counts firsts src order reach goods vals → Setting i c o kinds counts nets firsts order cone reach src outs low rel u q goods
  setting_of goods vals G = record {
    bed = S.beds;
    chunk = λ z zl d. rw (S.variables.wide z zl d) G.chunk;
    masks = S.masks;
    outs_are = λ z zl d. S.outs_are z (S.beds z zl d).output;
  }

-- ---- the faults that are runs of their own

pub went_map : (A : ℕ → Type 0) (Step Step' : ℕ → ℕ → ℕ → ℕ → ℕ → ℕ → ℕ → Type 0) (left best pat left' best' pat' : List ℕ)
    → ((f l b p l' b' p' : ℕ) → A f → Step f l b p l' b' p' → Step' f l b p l' b' p') → Went A Step left best pat left' best' pat' → Went A Step' left best pat left' best' pat'
went_map A Step Step' left best pat left' best' pat' h W = record { kept = W.kept; step = λ f a. h f _ _ _ _ _ _ a (W.step f a) }

module _ (i c o n w u q : ℕ) (kinds counts firsts nets order branches sources cone reach heads readers src outs list input goods : List ℕ) (low : ℕ → ℕ) (rel : ℕ → ℕ → Bool)
    (S : Stage i c o n w u kinds counts firsts nets order branches sources cone reach heads readers src outs list input low rel)
    (R : GoodRun c q u kinds counts firsts src order reach outs goods) where
  abbrev Step : ℕ → ℕ → ℕ → ℕ → ℕ → ℕ → ℕ → Type 0
  Step = ChunkStep i c o n w q u kinds counts firsts nets order reach src outs list input goods

  pub alone_went : (left best pat left₁ best₁ pat₁ left₂ best₂ pat₂ left₃ best₃ pat₃ : List ℕ)
      → Went (λ f. f < 2 * i) (InputStep i c w q u kinds counts firsts src order reach outs list input goods) left best pat left₁ best₁ pat₁
      → Went (PadFault i c firsts sources) (FaultStep i c o q u kinds counts firsts nets order reach src outs goods) left₁ best₁ pat₁ left₂ best₂ pat₂
      → Went (Between (2 * (i + c + n - o)) (2 * (i + c + n))) (OutStep i c o n q u outs goods) left₂ best₂ pat₂ left₃ best₃ pat₃
      → Went (Alone i c o n firsts sources) Step left best pat left₃ best₃ pat₃
  alone_went left best pat left₁ best₁ pat₁ left₂ best₂ pat₂ left₃ best₃ pat₃ A B C =
      went_same Step (λ f. ((f < 2 * i) ⊎ PadFault i c firsts sources f) ⊎ Between (2 * (i + c + n - o)) (2 * (i + c + n)) f) (Alone i c o n firsts sources) left best pat left₃ best₃ pat₃ to from
      (went_both Step left best pat (λ f. (f < 2 * i) ⊎ PadFault i c firsts sources f) (Between (2 * (i + c + n - o)) (2 * (i + c + n)))
      (λ f. ((f < 2 * i) ⊎ PadFault i c firsts sources f) ⊎ Between (2 * (i + c + n - o)) (2 * (i + c + n)) f) left₂ best₂ pat₂ left₃ best₃ pat₃
      (went_both Step left best pat (λ f. f < 2 * i) (PadFault i c firsts sources) (λ f. (f < 2 * i) ⊎ PadFault i c firsts sources f) left₁ best₁ pat₁ left₂ best₂ pat₂ a b
      (λ f x y. input_buffer i c o n kinds counts nets firsts order sources S.limits S.pins S.first_pins S.ordered S.sources_are f x y) (λ f x. x) (λ f x. x))
      d (λ f x y. alone_out i c o n kinds counts nets firsts order sources S.limits S.pins S.first_pins S.ordered S.sources_are f x y) (λ f x. x) (λ f x. x))
    where
      a : Went (λ f. f < 2 * i) Step left best pat left₁ best₁ pat₁
      a = went_map (λ f. f < 2 * i) _ Step left best pat left₁ best₁ pat₁ (λ f l b p l' b' p' m s. record { advance = λ cone low rel X U h. s.advance o nets cone low rel X U }) A

      b : Went (PadFault i c firsts sources) Step left₁ best₁ pat₁ left₂ best₂ pat₂
      b = went_map (PadFault i c firsts sources) _ Step left₁ best₁ pat₁ left₂ best₂ pat₂ (λ f l b p l' b' p' m s. record { advance = λ cone low rel X U h. s.advance cone low rel X }) B

      d : Went (Between (2 * (i + c + n - o)) (2 * (i + c + n))) Step left₂ best₂ pat₂ left₃ best₃ pat₃
      d = went_map (Between (2 * (i + c + n - o)) (2 * (i + c + n))) _ Step left₂ best₂ pat₂ left₃ best₃ pat₃
          (λ f l b p l' b' p' m s. record { advance = λ cone low rel X U h. s.advance kinds counts nets firsts order cone reach src low rel X R S.pins (λ y e. h y m.0 e) }) C

      to : (f : ℕ) → ((f < 2 * i) ⊎ PadFault i c firsts sources f) ⊎ Between (2 * (i + c + n - o)) (2 * (i + c + n)) f → Alone i c o n firsts sources f
      to f (inl (inl x)) = inl x
      to f (inl (inr x)) = inr (inl x)
      to f (inr x) = inr (inr x)

      from : (f : ℕ) → Alone i c o n firsts sources f → ((f < 2 * i) ⊎ PadFault i c firsts sources f) ⊎ Between (2 * (i + c + n - o)) (2 * (i + c + n)) f
      from f (inl x) = inl (inl x)
      from f (inr (inl x)) = inl (inr x)
      from f (inr (inr x)) = inr x

  -- ---- the faults of all other cells

  abbrev Home : ℕ → Type 0
  Home = AtHome i c (tabled i c o kinds counts nets) counts firsts order

  -- the homes' words after the faults that are runs of their own
  pub watch_alone : (left best pat left₁ best₁ pat₁ groups : List ℕ) → Went (Alone i c o n firsts sources) Step left best pat left₁ best₁ pat₁
      → Watch i c (tabled i c o kinds counts nets) counts firsts order left groups → Watch i c (tabled i c o kinds counts nets) counts firsts order left₁ groups
  watch_alone left best pat left₁ best₁ pat₁ groups A X = record {
    long = X.long;
    covers = λ t l own. record {
      all = λ e z b d. (X.covers t l own).all e z b (ap (digit z) (sym (A.kept.others (fault_of i c firsts order t e) (λ y.
          home_only i c o n kinds counts nets firsts order sources S.limits S.pins S.first_pins S.ordered S.sources_are (fault_of i c firsts order t e) y
          (record { place = t; fault = e; in_order = l; own = own; one = b; is = refl }))).0) ∙ d);
    };
    idle = X.idle;
  }

  pub watch_places : (left best pat left₁ best₁ pat₁ groups groups₁ : List ℕ) → PlacesDone c i c q u kinds counts firsts src order reach outs goods left best pat groups left₁ best₁ pat₁ groups₁
      → Watch i c (tabled i c o kinds counts nets) counts firsts order left groups → Watch i c (tabled i c o kinds counts nets) counts firsts order left₁ groups₁
  watch_places left best pat left₁ best₁ pat₁ groups groups₁ P X =
      record { long = P.long_groups; covers = λ t l own. P.covers t l (X.covers t l own); idle = λ t l own. P.idle t l (X.idle t l own) }

  places_went : (left best pat left₁ best₁ pat₁ groups groups₁ : List ℕ) → PlacesDone c i c q u kinds counts firsts src order reach outs goods left best pat groups left₁ best₁ pat₁ groups₁
      → Watch i c (tabled i c o kinds counts nets) counts firsts order left groups → Went Home Step left best pat left₁ best₁ pat₁
  places_went left best pat left₁ best₁ pat₁ groups groups₁ P X = record {
    kept = record { long = P.long; others = λ f g. P.others f (λ t e l d b s. g (home t e l d b f s)) };
    step = λ f H. rw H.is (record {
      advance = λ cone low rel Y U h. P.advance o nets cone low rel Y H.place H.fault H.in_order H.own (X.covers H.place H.in_order H.own) H.one;
    });
  }
    where
      home : (t e : ℕ) → t < c → get_or groups t 0 ≢ 0 → e < 2 * get_or counts (get_or order t 0) 0 + 2 → (f : ℕ) → f ≡ fault_of i c firsts order t e → Home f
      home t e l d b f s = record { place = t; fault = e; in_order = l; own = own (pad_buffer (tabled i c o kinds counts nets) (get_or order t 0)) refl; one = b; is = s }
        where
          own : (y : Bool) → pad_buffer (tabled i c o kinds counts nets) (get_or order t 0) ≡ y → pad_buffer (tabled i c o kinds counts nets) (get_or order t 0) ≡ false
          own true q = absurd (d (X.idle t l q))
          own false q = q

  pub chunk_tried : (left best pat left₁ best₁ pat₁ left₂ best₂ pat₂ groups groups₂ vals : List ℕ) → GoodWords c w q u kinds counts firsts src order reach goods vals → OutsOnly i c o n left
      → Went (Alone i c o n firsts sources) Step left best pat left₁ best₁ pat₁ → PlacesDone c i c q u kinds counts firsts src order reach outs goods left₁ best₁ pat₁ groups left₂ best₂ pat₂ groups₂
      → Watch i c (tabled i c o kinds counts nets) counts firsts order left groups
      → ChunkTried i c o n w q u kinds counts firsts nets order branches sources reach heads readers src outs list input left best pat left₂ best₂ pat₂
  chunk_tried left best pat left₁ best₁ pat₁ left₂ best₂ pat₂ groups groups₂ vals G only A P X = record {
    long = P.long;
    advance = λ cone low rel T f l.
        (all.step f (sorted i c o n kinds counts nets firsts order sources S.limits S.pins S.first_pins S.ordered S.sources_are f l)).advance cone low rel
        (setting_of i c o n w u q kinds counts firsts nets order branches sources cone reach heads readers src outs list input low rel T goods vals G) T.variables (λ y h d. only f y h l d);
  }
    where
      all : Went (λ f. Alone i c o n firsts sources f ⊎ Home f) Step left best pat left₂ best₂ pat₂
      all = went_both Step left best pat (Alone i c o n firsts sources) Home (λ f. Alone i c o n firsts sources f ⊎ Home f) left₁ best₁ pat₁ left₂ best₂ pat₂ A
          (places_went left₁ best₁ pat₁ left₂ best₂ pat₂ groups groups₂ P (watch_alone left best pat left₁ best₁ pat₁ groups A X))
          (λ f x y. home_only i c o n kinds counts nets firsts order sources S.limits S.pins S.first_pins S.ordered S.sources_are f x y) (λ f x. x) (λ f x. x)

-- ---- some outputs of the group

pub stage_fewer : (i c o n w g u : ℕ) (kinds counts firsts nets order branches sources cone reach heads readers src outs list input : List ℕ) (low : ℕ → ℕ) (rel : ℕ → ℕ → Bool)
    → ((z : ℕ) → digit z u ≡ true → digit z g ≡ true) → Stage i c o n w g kinds counts firsts nets order branches sources cone reach heads readers src outs list input low rel
    → Stage i c o n w u kinds counts firsts nets order branches sources cone reach heads readers src outs list input low rel
stage_fewer i c o n w g u kinds counts firsts nets order branches sources cone reach heads readers src outs list input low rel h S =
    record {
      limits = S.limits;
      pins = S.pins;
      first_pins = S.first_pins;
      ordered = S.ordered;
      branched = S.branched;
      sources_are = S.sources_are;
      chip = S.chip;
      apart = S.apart;
      reading = S.reading;
      variables = record {
        wide = λ z zl d. S.variables.wide z zl (h z d);
        blocks_few = S.variables.blocks_few;
        listed = λ z b zl d. S.variables.listed z b zl (h z d);
        input_is = S.variables.input_is;
        reached = λ z p e zl d. S.variables.reached z p e zl (h z d);
      };
      masks = S.masks;
      beds = λ z zl d. S.beds z zl (h z d);
      outs_long = S.outs_long;
      outs_low = S.outs_low;
      outs_are = S.outs_are;
    }
