-- One cell worked out, all marked cells worked out, the good words put back.
use Prim.Native.Nat.{ℕ, ◌+◌, ◌*◌, ◌/◌, ◌%◌, ◌≤◌, ◌<◌}
use mathlib.Core.Path.{◌≡◌, sym, ap, ◌∙◌}
use mathlib.Core.Logic.{◌⊎◌, inl, inr, ◌≢◌}
use mathlib.Core.Bool.{true, false, false≢true}
use mathlib.Core.List.{List}
use native.Mathlib.Omega.{arith}
use native.Mathlib.Decide.{ℕ_discrete, dec_lt}
use native.Mathlib.Nat.{add-zero}
use lib.ListN.{length, get_or}
use Rattle.chip.proofs.Bools.{fails}
use Rattle.chip.proofs.Basics.{some_pin}
use Rattle.words.proofs.Lanes.{gate_same}
use lib.Bits.{bit_and}
use Rattle.words.specs.Lanes.{gate_word}
use Rattle.rows.specs.Rows.{Filled, on_row}
use Rattle.rows.proofs.Fill.{row_at}
use Rattle.events.specs.Events.{marked, BitPut, LowMark, Live, Marks, Chip, shown, Obeys, Agree, Stepped, Worked}

-- the words of a slot that is filled, and the others
pub outside : (s : ℕ) (word : ℕ → ℕ) (vals vals' : List ℕ) → Filled (16 * s) 16 word vals vals' → (x : ℕ) → x / 16 ≢ s → get_or vals' x 0 ≡ get_or vals x 0
outside s word vals vals' F x g = elim (dec_lt x (16 * s)) [
  | yes l ↦ F.below x l
  | no h ↦ F.above x (elim (dec_lt x (16 * s + 16)) [
    | yes l ↦ absurd (g (omega arith))
    | no d ↦ omega arith
  ])
]

-- ---- the run, at place `at`

pub record Running (from c u : ℕ) (kinds counts firsts src order reach vals₀ changed₀ : List ℕ) (at : ℕ) (vals marks changed : List ℕ) : Type 0 where
  pub low : from ≤ at
  pub long : length vals ≡ length vals₀
  pub long_marks : length marks ≡ 16
  pub long_changed : length changed ≡ 16
  pub within : (t : ℕ) → marked marks t ≡ true → t < c
  pub done : (t : ℕ) → from ≤ t → t < at → t < c → Live reach u t → Obeys kinds counts firsts src order vals t
  pub rest : (t : ℕ) → at ≤ t → t < c → Live reach u t → marked marks t ≡ false → Obeys kinds counts firsts src order vals t
  pub others : (x : ℕ) → ((t : ℕ) → from ≤ t → t < c → x / 16 ≢ 16 + get_or order t 0) → get_or vals x 0 ≡ get_or vals₀ x 0
  pub bounded : ((t : ℕ) → marked changed₀ t ≡ true → t < c) → (t : ℕ) → marked changed t ≡ true → t < c
  pub agree : (goods : List ℕ) → Agree c order goods changed₀ vals₀ → Agree c order goods changed vals

module _ (c : ℕ) (kinds counts firsts src order reach heads readers : List ℕ) (C : Chip c kinds counts firsts src order reach heads readers) where
  abbrev place : ℕ → ℕ
  place t = 16 + get_or order t 0

  abbrev Rule : List ℕ → ℕ → Type 0
  Rule vals t = Obeys kinds counts firsts src order vals t

  -- a cell shows the same where its pins' words are the same
  shown_same : (vals vals' : List ℕ) (t k : ℕ) → t < c
      → ((i : ℕ) → i < get_or counts (get_or order t 0) 0 → on_row src vals' k (get_or firsts (get_or order t 0) 0 + i) ≡ on_row src vals k (get_or firsts (get_or order t 0) 0 + i))
      → shown kinds counts firsts src order vals' t k ≡ shown kinds counts firsts src order vals t k
  shown_same vals vals' t k l h =
      let a : ℕ = get_or firsts (get_or order t 0) 0 in
      let some : 0 < get_or counts (get_or order t 0) 0 = some_pin (get_or kinds (get_or order t 0) 0) (get_or counts (get_or order t 0) 0) (C.taken t l) in
      gate_same (on_row src vals' k) (on_row src vals k) a (get_or counts (get_or order t 0) 0) (get_or kinds (get_or order t 0) 0) (rw add-zero at (h 0 some)) h

  -- a place that does not look at what changed still holds what its cell shows
  keeps : (p t : ℕ) (vals vals' : List ℕ) → p < c → t < c → t ≢ p → ((x : ℕ) → x / 16 ≢ place p → get_or vals' x 0 ≡ get_or vals x 0)
      → ((i : ℕ) → i < get_or counts (get_or order t 0) 0 → get_or src (get_or firsts (get_or order t 0) 0 + i) 0 ≢ place p) → Rule vals t → Rule vals' t
  keeps p t vals vals' h l g same clear R =
      record {
        rule = λ k b.
            let off : get_or order t 0 ≢ get_or order p 0 = C.once t p l h g in
            same (16 * place t + k) (λ e. off (omega arith)) ∙ R.rule k b
            ∙ sym (shown_same vals vals' t k l (λ i q. same (16 * get_or src (get_or firsts (get_or order t 0) 0 + i) 0 + k) (λ e. clear i q (omega arith))));
      }

  -- after a change at place p whose readers are marked: places before it, and places without a mark
  pub behind_obeys : (p t : ℕ) (vals vals' : List ℕ) → p < c → t < p → ((x : ℕ) → x / 16 ≢ 16 + get_or order p 0 → get_or vals' x 0 ≡ get_or vals x 0)
      → Obeys kinds counts firsts src order vals t → Obeys kinds counts firsts src order vals' t
  behind_obeys p t vals vals' h l out O = keeps p t vals vals' h (omega arith) (λ y. omega arith) out (λ i q. C.ahead t p i (omega arith) h q) O

  pub still_obeys : (u p t j : ℕ) (vals vals' marks marks' : List ℕ) → p < c → j ≡ get_or order p 0 → ((x : ℕ) → x / 16 ≢ 16 + get_or order p 0 → get_or vals' x 0 ≡ get_or vals x 0)
      → Marks (get_or heads (4160 + j) 0) (get_or heads (4160 + j + 1) 0) u readers reach marks marks' → t < c → t ≢ p → Live reach u t → marked marks' t ≡ false
      → Obeys kinds counts firsts src order vals t → Obeys kinds counts firsts src order vals' t
  still_obeys u p t j vals vals' marks marks' h e out M l g v m O = keeps p t vals vals' h l g out
      (λ i q y.
      let (r, a, b, z) = C.reads p t i h l q y in
      let a' : get_or heads (4160 + j) 0 ≤ r = rw e a in
      let b' : r < get_or heads (4160 + j + 1) 0 = rw e b in
      let v' : Live reach u (get_or readers r 0) = rw z v in
      false≢true (sym m ∙ ap (marked marks') (sym z) ∙ M.put r a' b' v')) O

  -- places before a run stay as they are
  pub unmoved : (from t : ℕ) (vals vals' : List ℕ) → t < from → t < c → ((x : ℕ) → ((s : ℕ) → from ≤ s → s < c → x / 16 ≢ 16 + get_or order s 0) → get_or vals' x 0 ≡ get_or vals x 0)
      → Obeys kinds counts firsts src order vals t → Obeys kinds counts firsts src order vals' t
  unmoved from t vals vals' l h same O =
      record {
        rule = λ k b.
            same (16 * (16 + get_or order t 0) + k) (λ s x y e. C.once t s h y (λ q. omega arith) (omega arith)) ∙ O.rule k b
            ∙ sym (shown_same vals vals' t k h (λ i q. same (16 * get_or src (get_or firsts (get_or order t 0) 0 + i) 0 + k) (λ s x y e. C.ahead t s i (omega arith) y q (omega arith))));
      }

  -- the words of cell j, as it is worked out
  abbrev Row : ℕ → List ℕ → List ℕ → List ℕ → Type 0
  Row j vals blank acc = Filled 0 16 (λ k. gate_word (get_or kinds j 0) (on_row src vals k) (get_or firsts j 0) (get_or counts j 0)) blank acc

  row_is : (j p : ℕ) (vals blank acc : List ℕ) → j ≡ get_or order p 0 → Row j vals blank acc → (k : ℕ) → k < 16 → get_or acc k 0 ≡ shown kinds counts firsts src order vals p k
  row_is j p vals blank acc e R k l =
      row_at 16 (λ k. gate_word (get_or kinds j 0) (on_row src vals k) (get_or firsts j 0) (get_or counts j 0)) blank acc R k l
      ∙ ap (λ i. gate_word (get_or kinds i 0) (on_row src vals k) (get_or firsts i 0) (get_or counts i 0)) e

  module _ (u p : ℕ) (h : p < c) (vals marks changed : List ℕ) where
    -- something new is shown
    pub stepped_new : (blank acc vals' marks' changed' : List ℕ) (j : ℕ) → j ≡ get_or order p 0 → Row j vals blank acc
        → Filled (16 * (16 + j)) 16 (λ k. get_or acc k 0) vals vals' → BitPut p changed changed' → Marks (get_or heads (4160 + j) 0) (get_or heads (4160 + j + 1) 0) u readers reach marks marks'
        → Stepped c u p kinds counts firsts src order reach vals marks changed vals' marks' changed'
    stepped_new blank acc vals' marks' changed' j e R F B M =
        record {
          long = F.long;
          long_marks = M.long;
          long_changed = B.long;
          obeys = record {
            rule = λ k b.
                ap (λ s. get_or vals' (16 * (16 + s) + k) 0) (sym e) ∙ F.done k b ∙ row_is j p vals blank acc e R k b
                ∙ sym (shown_same vals vals' p k h (λ i q. out (16 * get_or src (get_or firsts (get_or order p 0) 0 + i) 0 + k) (λ y. C.ahead p p i (omega arith) h q (omega arith))));
          };
          others = out;
          within = λ w t m. elim (M.only t m) [
            | inl b ↦ w t b
            | inr s ↦ let (r, a, b, q) = s in rw q (C.reader r (omega (arith, ap (λ s. get_or heads (4160 + s + 1) 0) e, C.held p h)))
          ];
          behind = λ t l O. keeps p t vals vals' h (omega arith) (λ y. omega arith) out (λ i q. C.ahead t p i (omega arith) h q) O;
          still = λ t l g v m. (
            fails (marked marks t) (λ y. false≢true (sym m ∙ M.kept t y)),
            λ O. keeps p t vals vals' h l g out
                (λ i q y.
                let (r, a, b, z) = C.reads p t i h l q y in
                let a' : get_or heads (4160 + j) 0 ≤ r = rw e a in
                let b' : r < get_or heads (4160 + j + 1) 0 = rw e b in
                let v' : Live reach u (get_or readers r 0) = rw z v in
                false≢true (sym m ∙ ap (marked marks') (sym z) ∙ M.put r a' b' v')) O,
          );
          bounded = λ w t m. elim (ℕ_discrete t p) [
            | yes q ↦ rw q h
            | no g ↦ w t (sym (B.other t g) ∙ m)
          ];
          agree = λ goods A x g. out x (g p h B.here) ∙ A x (λ t l m. elim (ℕ_discrete t p) [
            | yes q ↦ g t l (ap (marked changed') q ∙ B.here)
            | no d ↦ g t l (B.other t d ∙ m)
          ]);
        }
      where
        out : (x : ℕ) → x / 16 ≢ place p → get_or vals' x 0 ≡ get_or vals x 0
        out x g = outside (16 + j) (λ k. get_or acc k 0) vals vals' F x (λ y. g (omega arith))

  module _ (from u : ℕ) (vals₀ changed₀ : List ℕ) (at : ℕ) (vals marks changed : List ℕ) (R : Running from c u kinds counts firsts src order reach vals₀ changed₀ at vals marks changed) (l : ℕ) (L : LowMark marks at l) where
    -- the places up to the next mark hold what their cells show
    upto : (t : ℕ) → from ≤ t → t < at + l → t / 64 ≡ at / 64 ⊎ t < at → t < c → Live reach u t → Rule vals t
    upto t a b s h v = elim (dec_lt t at) [
      | yes q ↦ R.done t a q h v
      | no g ↦ elim s [
        | inl e ↦ R.rest t (omega arith) h v (L.none t (omega arith) b e)
        | inr q ↦ absurd (g q)
      ]
    ]

    pub run_place : l < 64 → at + l < c
    run_place h = R.within (at + l) (L.found h)

    -- the next marked place is worked out
    pub run_step : (vals' marks' changed' : List ℕ) → l < 64 → Stepped c u (at + l) kinds counts firsts src order reach vals marks changed vals' marks' changed'
        → Running from c u kinds counts firsts src order reach vals₀ changed₀ (at + l + 1) vals' marks' changed'
    run_step vals' marks' changed' h S =
        record {
          low = omega (arith, R.low);
          long = S.long ∙ R.long;
          long_marks = S.long_marks;
          long_changed = S.long_changed;
          within = S.within R.within;
          done = λ t a b q v. elim (ℕ_discrete t (at + l)) [
            | yes e ↦ rw e S.obeys
            | no g ↦ S.behind t (omega arith) (upto t a (omega arith) (here t (omega arith)) q v)
          ];
          rest = λ t a q v m. let s = S.still t q (λ e. omega arith) v m in s.1 (R.rest t (omega arith) q v s.0);
          others = λ x g. S.others x (g (at + l) (omega (arith, R.low)) (run_place h)) ∙ R.others x g;
          bounded = λ w. S.bounded (R.bounded w);
          agree = λ goods A. S.agree goods (R.agree goods A);
        }
      where
        here : (t : ℕ) → t < at + l → t / 64 ≡ at / 64 ⊎ t < at
        here t b = elim (dec_lt t at) [
          | yes q ↦ inr q
          | no g ↦ inl (omega (arith, L.inside h))
        ]

  -- ---- the good words of a chunk

  pub worked_skip : (u : ℕ) (goods goods' : List ℕ) (n : ℕ) → bit_and (get_or reach n 0) u ≡ 0 → Worked c u kinds counts firsts src order reach goods goods' n
      → Worked c u kinds counts firsts src order reach goods goods' (n + 1)
  worked_skip u goods goods' n z W =
      record {
        long = W.long;
        obeys = λ t a v. elim (ℕ_discrete t n) [
          | yes e ↦ absurd (v (ap (λ x. bit_and (get_or reach x 0) u) e ∙ z))
          | no g ↦ W.obeys t (omega arith) v
        ];
        others = W.others;
      }

  pub worked_more : (u : ℕ) (goods goods' goods'' blank acc : List ℕ) (n j : ℕ) → n < c → j ≡ get_or order n 0 → Row j goods' blank acc
      → Filled (16 * (16 + j)) 16 (λ k. get_or acc k 0) goods' goods'' → Worked c u kinds counts firsts src order reach goods goods' n
      → Worked c u kinds counts firsts src order reach goods goods'' (n + 1)
  worked_more u goods goods' goods'' blank acc n j h e R F W =
      record {
        long = F.long ∙ W.long;
        obeys = λ t a v. elim (ℕ_discrete t n) [
          | yes q ↦ rw q (record {
            rule = λ k b.
                ap (λ s. get_or goods'' (16 * (16 + s) + k) 0) (sym e) ∙ F.done k b ∙ row_is j n goods' blank acc e R k b
                ∙ sym (shown_same goods' goods'' n k h (λ i d. out (16 * get_or src (get_or firsts (get_or order n 0) 0 + i) 0 + k) (λ y. C.ahead n n i (omega arith) h d (omega arith))));
          })
          | no g ↦ keeps n t goods' goods'' h (omega arith) g out (λ i d. C.ahead t n i (omega arith) h d) (W.obeys t (omega arith) v)
        ];
        others = λ x g. out x (g n h) ∙ W.others x g;
      }
    where
      out : (x : ℕ) → x / 16 ≢ place n → get_or goods'' x 0 ≡ get_or goods' x 0
      out x g = outside (16 + j) (λ k. get_or acc k 0) goods' goods'' F x (λ y. g (omega arith))

-- ---- the good words put back, at place `at`

pub record Restoring (from c : ℕ) (order goods changed vals₀ : List ℕ) (at : ℕ) (vals : List ℕ) : Type 0 where
  pub low : from ≤ at
  pub long : length vals ≡ length vals₀
  pub rest : (x : ℕ) → ((t : ℕ) → at ≤ t → t < c → marked changed t ≡ true → x / 16 ≢ 16 + get_or order t 0) → get_or vals x 0 ≡ get_or goods x 0

module _ (from c : ℕ) (order goods changed vals₀ : List ℕ) (in_order : (t : ℕ) → marked changed t ≡ true → t < c) (from_on : (t : ℕ) → marked changed t ≡ true → from ≤ t) where
  module _ (at : ℕ) (vals : List ℕ) (R : Restoring from c order goods changed vals₀ at vals) (l : ℕ) (L : LowMark changed at l) where
    pub restore_step : (vals' : List ℕ) (j : ℕ) → l < 64 → j ≡ get_or order (at + l) 0 → Filled (16 * (16 + j)) 16 (λ k. get_or goods (16 * (16 + j) + k) 0) vals vals'
        → Restoring from c order goods changed vals₀ (at + l + 1) vals'
    restore_step vals' j h e F =
        record {
          low = omega (arith, R.low);
          long = F.long ∙ R.long;
          rest = λ x g. elim (ℕ_discrete (x / 16) (16 + j)) [
            | yes q ↦
                let d : 16 * (16 + j) + x % 16 ≡ x = omega arith in
                rw d at (F.done (x % 16) (omega arith))
            | no n ↦ outside (16 + j) (λ k. get_or goods (16 * (16 + j) + k) 0) vals vals' F x n ∙ R.rest x (λ t a b m. elim (dec_lt t (at + l)) [
              | yes y ↦ absurd (false≢true (sym (L.none t a y (omega (arith, L.inside h))) ∙ m))
              | no y ↦ elim (ℕ_discrete t (at + l)) [
                | yes z ↦ λ w. n (w ∙ ap (λ s. 16 + s) (ap (λ s. get_or order s 0) z ∙ sym e))
                | no z ↦ g t (omega arith) b m
              ]
            ])
          ];
        }
