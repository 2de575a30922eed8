-- A home flipped, and the outputs at which nothing is seen.
use Prim.Native.Nat.{ℕ, suc, ◌+◌, ◌*◌, ◌/◌, ◌%◌, ◌<◌}
use mathlib.Core.Path.{◌≡◌, refl, sym, ap, ap₂, ◌∙◌}
use mathlib.Core.Logic.{inl, inr, ◌≢◌}
use mathlib.Core.Bool.{Bool, true, false, false≢true}
use mathlib.Core.List.{List, [], ◌∷◌}
use native.Mathlib.Omega.{arith}
use native.Mathlib.Decide.{ℕ_discrete, dec_lt}
use lib.ListN.{length, get_or, replicate, length-replicate, get_or-replicate, get_or-eq_default}
use lib.Bits.{bit_and, bit_xor, xor_add_and, and_self, and_zero_r, xor_zero_r}
use Rattle.chip.specs.Search.{digit}
use Rattle.words.proofs.Bits.{digit_zero}
use Rattle.rows.specs.Rows.{Filled}
use Rattle.rows.proofs.Bits.{split, meet}
use Rattle.events.specs.Events.{BitPut, Marks, Chip, Marked, Ran, Good}
use Rattle.events.proofs.Running.{outside, behind_obeys, still_obeys, unmoved}
use Rattle.homes.specs.Homes.{home_word, number_of, home_lane, SeenAt, LookedHome, HomeLanes}
use Rattle.cells.specs.Cells.{Clear, FlipRan, HomeTried}

module _ (c : ℕ) (kinds counts firsts src order reach heads readers : List ℕ) (C : Chip c kinds counts firsts src order reach heads readers)
    (u p j : ℕ) (h : p < c) (e : j ≡ get_or order p 0) (acc vals vals₁ marks marks₁ changed changed₁ : List ℕ) (Km : Clear marks) (Kc : Clear changed)
    (G : Good c u kinds counts firsts src order reach vals) (F : Filled (16 * (16 + j)) 16 (λ k. bit_xor (get_or vals (16 * (16 + j) + k) 0) (get_or acc k 0)) vals vals₁)
    (B : BitPut p changed changed₁) (M : Marks (get_or heads (4160 + j) 0) (get_or heads (4160 + j + 1) 0) u readers reach marks marks₁) where
  out : (x : ℕ) → x / 16 ≢ 16 + get_or order p 0 → get_or vals₁ x 0 ≡ get_or vals x 0
  out x g = outside (16 + j) (λ k. bit_xor (get_or vals (16 * (16 + j) + k) 0) (get_or acc k 0)) vals vals₁ F x (λ y. g (omega arith))

  -- what the run asks
  pub flip_marked : Marked (p + 1) c u kinds counts firsts src order reach vals₁ marks₁
  flip_marked =
      record {
        within = λ t m. elim (M.only t m) [
          | inl b ↦ absurd (false≢true (sym (Km.clear t) ∙ b))
          | inr s ↦ let (r, a, b, q) = s in rw q (C.reader r (omega (arith, ap (λ s. get_or heads (4160 + s + 1) 0) e, C.held p h)))
        ];
        rest = λ t a l v m. still_obeys c kinds counts firsts src order reach heads readers C u p t j vals vals₁ marks marks₁ h e out M l (λ y. omega arith) v m (G.obeys t l v);
      }

  -- what the run leaves
  pub flip_ran : (vals₂ changed₂ : List ℕ) → Ran (p + 1) c u kinds counts firsts src order reach vals₁ changed₁ vals₂ changed₂
      → FlipRan c u p kinds counts firsts src order reach vals vals₂ changed₂ (λ k. get_or acc k 0)
  flip_ran vals₂ changed₂ R =
      record {
        flipped = record {
          obeys = λ t l g v. elim (dec_lt t p) [
            | yes b ↦ unmoved c kinds counts firsts src order reach heads readers C (p + 1) t vals₁ vals₂ (omega arith) l R.others
                (behind_obeys c kinds counts firsts src order reach heads readers C p t vals vals₁ h b out (G.obeys t l v))
            | no b ↦ R.obeys t (elim (ℕ_discrete t p) [
              | yes q ↦ absurd (g q)
              | no q ↦ omega arith
            ]) l v
          ];
          home = λ k b.
              R.others (16 * (16 + get_or order p 0) + k) (λ t x y q. C.once p t h y (λ w. omega arith) (omega arith))
              ∙ ap (λ s. get_or vals₁ (16 * (16 + s) + k) 0) (sym e) ∙ F.done k b ∙ ap (λ s. bit_xor (get_or vals (16 * (16 + s) + k) 0) (get_or acc k 0)) e;
          before = λ x g. R.others x (λ t a b. g t (omega arith) b) ∙ out x (g p (omega arith) h);
        };
        long = R.long ∙ F.long;
        long_changed = R.long_changed;
        bounded = R.bounded (λ t m. elim (ℕ_discrete t p) [
          | yes q ↦ rw q h
          | no d ↦ absurd (false≢true (sym (Kc.clear t) ∙ sym (B.other t d) ∙ m))
        ]);
        agree = R.agree vals (λ x g. out x (g p h B.here));
      }

-- ---- outputs at which nothing is seen

xor_self : (x : ℕ) → bit_xor x x ≡ 0
xor_self x = omega (arith, xor_add_and x x, and_self x)

module _ (kind net pin h a n q u seen : ℕ) (src outs goods vals : List ℕ) (S : SeenAt u outs goods vals seen) where
  -- no lane at an output that is not seen
  unseen : (e z i : ℕ) → z < 64 → digit z u ≡ true → digit z seen ≡ false → i < 1024 → home_lane e kind src a n h outs goods vals z i ≡ false
  unseen e z i zl zu zs il =
      ap (λ x. digit (i % 64) (bit_and (bit_xor (home_word e kind src a n goods (i / 64)) (get_or goods (16 * h + i / 64) 0)) (bit_xor x (get_or vals (16 * get_or outs z 0 + i / 64) 0)))) (S.same z zl zu zs (i / 64) (omega arith))
      ∙ ap (λ x. digit (i % 64) (bit_and (bit_xor (home_word e kind src a n goods (i / 64)) (get_or goods (16 * h + i / 64) 0)) x)) (xor_self (get_or vals (16 * get_or outs z 0 + i / 64) 0))
      ∙ ap (digit (i % 64)) (and_zero_r (bit_xor (home_word e kind src a n goods (i / 64)) (get_or goods (16 * h + i / 64) 0))) ∙ digit_zero (i % 64)

  none : (e left : ℕ) → ((z i : ℕ) → z < 64 → digit z (bit_and left seen) ≡ true → i < 1024 → home_lane e kind src a n h outs goods vals z i ≡ false)
      → (z i : ℕ) → z < 64 → digit z (bit_and left u) ≡ true → i < 1024 → home_lane e kind src a n h outs goods vals z i ≡ false
  none e left f z i zl d il = go (digit z seen) refl
    where
      go : (s : Bool) → digit z seen ≡ s → home_lane e kind src a n h outs goods vals z i ≡ false
      go true y = f z i zl (meet left seen z (split left u z d).0 y) il
      go false y = unseen e z i zl (split left u z d).1 y il

  -- so looking at those that are seen is looking at all
  pub looked_all : (m : ℕ) (left best pat left' best' pat' : List ℕ) → LookedHome m kind net pin h a n q seen src outs goods vals left best pat left' best' pat'
      → LookedHome m kind net pin h a n q u src outs goods vals left best pat left' best' pat'
  looked_all m left best pat left' best' pat' L =
      record {
        long_left = L.long_left;
        long_best = L.long_best;
        long_pat = L.long_pat;
        others = L.others;
        entry = λ e l. elim (L.entry e l) [
          | inl M ↦ inl (record { left_same = M.left_same; best_same = M.best_same; pat_same = M.pat_same; none = none e (get_or left (number_of e net pin) 0) M.none })
          | inr H ↦
              let w = split (get_or left (number_of e net pin) 0) seen H.out H.out_in in
              inr (record {
                out = H.out;
                at = H.at;
                out_low = H.out_low;
                out_in = meet (get_or left (number_of e net pin) 0) u H.out w.0 (S.within H.out w.1);
                at_low = H.at_low;
                shows = H.shows;
                first = H.first;
                below = λ z i b d il. below_all e (get_or left (number_of e net pin) 0) H.out H.out_low H.below z i b d il;
                left_is = H.left_is;
                best_is = H.best_is;
                pat_is = H.pat_is;
              })
        ];
      }
    where
      below_all : (e left o : ℕ) → o < 64 → ((z i : ℕ) → z < o → digit z (bit_and left seen) ≡ true → i < 1024 → home_lane e kind src a n h outs goods vals z i ≡ false)
          → (z i : ℕ) → z < o → digit z (bit_and left u) ≡ true → i < 1024 → home_lane e kind src a n h outs goods vals z i ≡ false
      below_all e left o ol f z i zo d il = go (digit z seen) refl
        where
          go : (s : Bool) → digit z seen ≡ s → home_lane e kind src a n h outs goods vals z i ≡ false
          go true y = f z i zo (meet left seen z (split left u z d).0 y) il
          go false y = unseen e z i (omega arith) (split left u z d).1 y il

-- ---- tables with the same entries are the same

pub same_table : (a b : List ℕ) → length a ≡ length b → ((x : ℕ) → get_or a x 0 ≡ get_or b x 0) → a ≡ b
same_table [] [] l h = refl
same_table [] (y ∷ b) l h = absurd (omega arith)
same_table (x ∷ a) [] l h = absurd (omega arith)
same_table (x ∷ a) (y ∷ b) l h = ap₂ ◌∷◌ (h 0) (same_table a b (omega arith) (λ n. h (suc n)))

-- ---- a home that no open fault changes

module _ (c u p q kind net pin j a n : ℕ) (kinds counts firsts src order reach outs goods left best pat acc : List ℕ) where
  pub home_still : Good c u kinds counts firsts src order reach goods → length left ≡ 10368 → length best ≡ 10368 → length pat ≡ 10368
      → HomeLanes (2 * n + 2) kind net pin (16 + j) a n u src left goods acc → ((k : ℕ) → k < 16 → get_or acc k 0 ≡ 0)
      → HomeTried c u p q kind net pin j a n kinds counts firsts src order reach outs goods left best pat left best pat
  home_still G ll lb lp H z =
      record {
        vals = goods;
        turn = λ k. get_or acc k 0;
        flipped = record {
          obeys = λ t l g v. G.obeys t l v;
          home = λ k b. sym (ap (bit_xor (get_or goods (16 * (16 + get_or order p 0) + k) 0)) (z k b) ∙ xor_zero_r (get_or goods (16 * (16 + get_or order p 0) + k) 0));
          before = λ x g. refl;
        };
        within = H.covers;
        looked = record {
          long_left = ll;
          long_best = lb;
          long_pat = lp;
          others = λ x g. (refl, refl, refl);
          entry = λ e l. inl (record {
            left_same = refl;
            best_same = refl;
            pat_same = refl;
            none = λ y i yl d il. unseen kind net pin (16 + j) a n q u 0 src outs goods goods S e y i yl (split (get_or left (number_of e net pin) 0) u y d).1 (digit_zero y) il;
          });
        };
      }
    where
      S : SeenAt u outs goods goods 0
      S = record { within = λ y e. absurd (false≢true (sym (digit_zero y) ∙ e)); same = λ y l d e k b. refl }

-- a table of zeros has no bit set
pub clear_blank : Clear (replicate 16 0)
clear_blank = record { long = length-replicate {A = ℕ} 16 0; clear = λ t. ap (digit (t % 64)) (zero (t / 64)) ∙ digit_zero (t % 64) }
  where
    zero : (x : ℕ) → ◌≡◌ {A = ℕ} (get_or (replicate 16 0) x 0) 0
    zero x = elim (dec_lt x 16) [
      | yes l ↦ get_or-replicate 16 x 0 0 l
      | no g ↦ get_or-eq_default (replicate {A = ℕ} 16 0) 0 {n = x} (omega (arith, length-replicate {A = ℕ} 16 0))
    ]
