-- Tables that change entry by entry, and the marks of each step.
use Prim.Native.Nat.{ℕ, ◌+◌, ◌*◌, ◌-◌, ◌≤◌, ◌<◌}
use mathlib.Core.Path.{◌≡◌, refl, sym, ap, ◌∙◌, subst}
use mathlib.Core.Logic.{◌⊎◌, inl, inr, ⊎_elim}
use mathlib.Core.Bool.{true, false}
use mathlib.Core.List.{List}
use native.Mathlib.Omega.{arith}
use native.Mathlib.Decide.{dec_lt, ℕ_discrete}
use lib.ListN.{length, get_or, set, length-set}
use lib.Seq.{get_or-set_same, get_or-set_other}
use lib.Bits.{bit_and}
use Rattle.chip.specs.Netlist.{all_pins}
use Rattle.chip.specs.Pads.{branch_of}
use Rattle.chip.specs.Inner.Tables.{tabled, BranchTable}
use Rattle.chip.specs.Search.{digit}
use Rattle.chip.proofs.Basics.{reach_in, reach_out}
use Rattle.chip.proofs.Bools.{clash, passes}
use Rattle.levels.specs.Levels.{PinMasks}
use Rattle.words.proofs.Bits.{digit_zero}
use Rattle.rows.proofs.Bits.{split, meet}
use Rattle.spots.specs.Marks.{Changed, RowMark, ListMark, SpotMark, PinMark, LevelMark, DepthMark, OneMark}

-- nothing is marked, and nothing changed
pub changed_none : (P : ℕ → ℕ → Type 0) (a : List ℕ) → ((q v : ℕ) → ¬ P q v) → Changed P a a
changed_none P a none = record { put = λ q v m. absurd (none q v m); kept = λ q. inl refl; long = refl }

-- what is marked is marked in one of two steps
pub changed_both : (M M' P : ℕ → ℕ → Type 0) (a b c : List ℕ) → ((q v : ℕ) → P q v → M q v ⊎ M' q v) → ((q v : ℕ) → M q v → P q v) → ((q v : ℕ) → M' q v → P q v)
    → Changed M a b → Changed M' b c → Changed P a c
changed_both M M' P a b c split one two C D =
    record {
      put = λ q v m. ⊎_elim (λ x. later q (C.put q v x)) (λ x. two q (get_or c q 0) (D.put q v x)) (split q v m);
      kept = λ q. ⊎_elim (λ e. ⊎_elim (λ f. inl (e ∙ f)) (λ x. inr (one q (get_or c q 0) (subst (M q) (sym e) x))) (C.kept q)) (λ x. inr (two q (get_or c q 0) x)) (D.kept q);
      long = D.long ∙ C.long;
    }
  where
    later : (q : ℕ) → M q (get_or b q 0) → P q (get_or c q 0)
    later q x = ⊎_elim (λ e. one q (get_or c q 0) (subst (M q) (sym e) x)) (λ y. two q (get_or c q 0) y) (D.kept q)

-- the marks of two steps are the same
pub changed_same : (M P : ℕ → ℕ → Type 0) (a b : List ℕ) → ((q v : ℕ) → P q v → M q v) → ((q v : ℕ) → M q v → P q v) → Changed M a b → Changed P a b
changed_same M P a b back on C =
    record { put = λ q v m. on q (get_or b q 0) (C.put q v (back q v m)); kept = λ q. ⊎_elim (λ e. inl e) (λ x. inr (on q (get_or b q 0) x)) (C.kept q); long = C.long }

-- one entry is set
pub record Single (at is q v : ℕ) : Type 0 where
  pub here : q ≡ at
  pub value : v ≡ is

pub changed_set : (a : List ℕ) (at v : ℕ) → at < length a → Changed (Single at v) a (set a at v)
changed_set a at v l =
    record {
      put = λ q w m. let e : q ≡ at = m.here in record { here = e; value = same q e };
      kept = λ q. elim (ℕ_discrete q at) [
        | yes e ↦ inr (record { here = e; value = same q e })
        | no g ↦ inl (get_or-set_other a at q v 0 g)
      ];
      long = length-set a at v;
    }
  where
    same : (q : ℕ) → q ≡ at → get_or (set a at v) q 0 ≡ v
    same q e = ap (λ k. get_or (set a at v) k 0) e ∙ get_or-set_same a at v 0 l

-- the outputs, one more: it is in the word, or it is not
module _ (b outs : ℕ) (reached : List ℕ) where
  list_wide : (y q v : ℕ) → ListMark b y outs reached q v → ListMark b (y + 1) outs reached q v
  list_wide y q v m = record { out = m.out; below = omega (arith, m.below); among = m.among; row = m.row }

  pub list_yes : (y : ℕ) (l l' l'' : List ℕ) → digit y outs ≡ true → Changed (RowMark b y reached) l' l'' → Changed (ListMark b y outs reached) l l' → Changed (ListMark b (y + 1) outs reached) l l''
  list_yes y l l' l'' t D C =
      changed_both (ListMark b y outs reached) (RowMark b y reached) (ListMark b (y + 1) outs reached) l l' l''
      (λ q v m. elim (dec_lt m.out y) [
        | yes h ↦ inl (record { out = m.out; below = h; among = m.among; row = m.row })
        | no g ↦ let e : m.out ≡ y = omega (arith, m.below) in inr (subst (λ k. RowMark b k reached q v) e m.row)
      ])
      (list_wide y)
      (λ q v m. record { out = y; below = omega arith; among = t; row = m }) C D

  pub list_no : (y : ℕ) (l l' : List ℕ) → digit y outs ≡ false → Changed (ListMark b y outs reached) l l' → Changed (ListMark b (y + 1) outs reached) l l'
  list_no y l l' f C =
      changed_same (ListMark b y outs reached) (ListMark b (y + 1) outs reached) l l'
      (λ q v m.
      let less : m.out < y = elim (dec_lt m.out y) [ yes h ↦ h | no n ↦ let h : m.out ≡ y = omega (arith, m.below) in clash (rw h at m.among) f ] in
      record { out = m.out; below = less; among = m.among; row = m.row })
      (list_wide y) C

-- the outputs in a word, one more
module _ (s t : ℕ) (lists : List ℕ) where
  pub pin_zero : (o word : ℕ) (a : List ℕ) → word ≡ 0 → Changed (PinMark o word s t lists) a a
  pin_zero o word a e = changed_none (PinMark o word s t lists) a (λ q v m. clash m.reached (rw e (digit_zero m.out)))

  module _ (word : ℕ) where
    pin_wide : (y q v : ℕ) → PinMark y word s t lists q v → PinMark (y + 1) word s t lists q v
    pin_wide y q v m = record { out = m.out; below = omega (arith, m.below); reached = m.reached; spot = m.spot }

    pub pin_yes : (y : ℕ) (a b c : List ℕ) → digit y word ≡ true → Changed (SpotMark 16 y s t lists) b c → Changed (PinMark y word s t lists) a b
        → Changed (PinMark (y + 1) word s t lists) a c
    pin_yes y a b c e D C =
        changed_both (PinMark y word s t lists) (SpotMark 16 y s t lists) (PinMark (y + 1) word s t lists) a b c
        (λ q v m. elim (dec_lt m.out y) [
          | yes h ↦ inl (record { out = m.out; below = h; reached = m.reached; spot = m.spot })
          | no g ↦ let h : m.out ≡ y = omega (arith, m.below) in inr (subst (λ k. SpotMark 16 k s t lists q v) h m.spot)
        ])
        (pin_wide y)
        (λ q v m. record { out = y; below = omega arith; reached = e; spot = m }) C D

    pub pin_no : (y : ℕ) (a b : List ℕ) → digit y word ≡ false → Changed (PinMark y word s t lists) a b → Changed (PinMark (y + 1) word s t lists) a b
    pin_no y a b e C =
        changed_same (PinMark y word s t lists) (PinMark (y + 1) word s t lists) a b
        (λ q v m.
        let less : m.out < y = elim (dec_lt m.out y) [ yes l ↦ l | no n ↦ let h : m.out ≡ y = omega (arith, m.below) in clash (rw h at m.reached) e ] in
        record { out = m.out; below = less; reached = m.reached; spot = m.spot })
        (pin_wide y) C

-- the pins of a depth, one more
module _ (i o from outs : ℕ) (branches block words lists : List ℕ) where
  level_wide : (p q v : ℕ) → LevelMark i o p from outs branches block words lists q v → LevelMark i o (p + 1) from outs branches block words lists q v
  level_wide p q v m = record { pin = m.pin; below = omega (arith, m.below); branch = m.branch; mark = m.mark }

  pub level_yes : (p w s t : ℕ) (a b c : List ℕ) → get_or branches p 0 < i → w ≡ bit_and (get_or words p 0) outs → s ≡ get_or block p 0 → t ≡ from + get_or branches p 0
      → Changed (PinMark o w s t lists) b c → Changed (LevelMark i o p from outs branches block words lists) a b → Changed (LevelMark i o (p + 1) from outs branches block words lists) a c
  level_yes p w s t a b c l ew es et D C =
      changed_both (LevelMark i o p from outs branches block words lists) (PinMark o w s t lists) (LevelMark i o (p + 1) from outs branches block words lists) a b c
      (λ q v m. elim (dec_lt m.pin p) [
        | yes h ↦ inl (record { pin = m.pin; below = h; branch = m.branch; mark = m.mark })
        | no g ↦ let h : m.pin ≡ p = omega (arith, m.below) in inr (rw (ew, es, et) (subst (λ k. PinMark o (bit_and (get_or words k 0) outs) (get_or block k 0) (from + get_or branches k 0) lists q v) h m.mark))
      ])
      (level_wide p)
      (λ q v m. record { pin = p; below = omega arith; branch = l; mark = rw (ew, es, et) at m }) C D

  pub level_no : (p : ℕ) (a b : List ℕ) → i ≤ get_or branches p 0 → Changed (LevelMark i o p from outs branches block words lists) a b
      → Changed (LevelMark i o (p + 1) from outs branches block words lists) a b
  level_no p a b g C =
      changed_same (LevelMark i o p from outs branches block words lists) (LevelMark i o (p + 1) from outs branches block words lists) a b
      (λ q v m.
      let less : m.pin < p = elim (dec_lt m.pin p) [ yes l ↦ l | no n ↦ let h : m.pin ≡ p = omega (arith, m.below) in let k : get_or branches p 0 < i = rw h at m.branch in absurd (omega arith) ] in
      record { pin = m.pin; below = less; branch = m.branch; mark = m.mark })
      (level_wide p) C

-- the depths, one more
module _ (i c o : ℕ) (kinds counts nets branches block lists : List ℕ) (d outs : ℕ) where
  pub depth_start : (a : List ℕ) → Changed (DepthMark (tabled i c o kinds counts nets) d 0 outs block lists) a a
  depth_start a = changed_none (DepthMark (tabled i c o kinds counts nets) d 0 outs block lists) a (λ q v m. omega (arith, m.below))

  pub depth_more : (e n : ℕ) (words x y z : List ℕ) → n ≡ all_pins (tabled i c o kinds counts nets) → BranchTable (tabled i c o kinds counts nets) branches
      → PinMasks (tabled i c o kinds counts nets) e words → Changed (LevelMark i o n ((d - e) * i) outs branches block words lists) y z
      → Changed (DepthMark (tabled i c o kinds counts nets) d e outs block lists) x y → Changed (DepthMark (tabled i c o kinds counts nets) d (e + 1) outs block lists) x z
  depth_more e n words x y z all T W D C =
      changed_both (DepthMark (tabled i c o kinds counts nets) d e outs block lists) (LevelMark i o n ((d - e) * i) outs branches block words lists)
      (DepthMark (tabled i c o kinds counts nets) d (e + 1) outs block lists) x y z parts
      (λ q v m. record { depth = m.depth; below = omega (arith, m.below); pin = m.pin; branch = m.branch; out = m.out; among = m.among; reach = m.reach; spot = m.spot })
      (λ q v m.
      let h : m.pin < all_pins (tabled i c o kinds counts nets) = omega (arith, m.below) in
      let b : get_or branches m.pin 0 ≡ branch_of (tabled i c o kinds counts nets) m.pin = T m.pin h in
      record {
        depth = e;
        below = omega arith;
        pin = m.pin;
        branch = rw b at m.branch;
        out = m.mark.out;
        among = (split (get_or words m.pin 0) outs m.mark.out m.mark.reached).1;
        reach = (W m.pin h).set m.mark.out m.mark.below (split (get_or words m.pin 0) outs m.mark.out m.mark.reached).0;
        spot = rw b at m.mark.spot;
      }) C D
    where
      parts : (q v : ℕ) → DepthMark (tabled i c o kinds counts nets) d (e + 1) outs block lists q v
          → DepthMark (tabled i c o kinds counts nets) d e outs block lists q v ⊎ LevelMark i o n ((d - e) * i) outs branches block words lists q v
      parts q v m = elim (dec_lt m.depth e) [
        | yes l ↦ inl (record { depth = m.depth; below = l; pin = m.pin; branch = m.branch; out = m.out; among = m.among; reach = m.reach; spot = m.spot })
        | no g ↦
            let h : m.depth ≡ e = omega (arith, m.below) in
            let r = rw h at m.reach in
            let p : m.pin < all_pins (tabled i c o kinds counts nets) = reach_in (tabled i c o kinds counts nets) m.out r in
            let b : get_or branches m.pin 0 ≡ branch_of (tabled i c o kinds counts nets) m.pin = T m.pin p in
            let below : m.out < o = reach_out (tabled i c o kinds counts nets) r in
            inr (record {
              pin = m.pin;
              below = omega arith;
              branch = rw b m.branch;
              mark = record {
                out = m.out;
                below = below;
                reached = meet (get_or words m.pin 0) outs m.out (passes (digit m.out (get_or words m.pin 0)) (λ f. (W m.pin p).clear m.out below f r)) m.among;
                spot = rw (b, ← h) m.spot;
              };
            })
      ]

-- the ones of a pattern, one bit more
module _ (z m : ℕ) (spots : List ℕ) where
  ones_wide : (k q v : ℕ) → OneMark k z m spots q v → OneMark (k + 1) z m spots q v
  ones_wide k q v x = record { number = x.number; below = omega (arith, x.below); on = x.on; at = x.at; is = x.is }

  pub ones_yes : (k at : ℕ) (a b : List ℕ) → at ≡ get_or spots (16 * z + k) 0 → at < length b → digit k m ≡ true → Changed (OneMark k z m spots) a b
      → Changed (OneMark (k + 1) z m spots) a (set b at 1)
  ones_yes k at a b e l t C =
      changed_both (OneMark k z m spots) (Single at 1) (OneMark (k + 1) z m spots) a b (set b at 1)
      (λ q v x. elim (dec_lt x.number k) [
        | yes h ↦ inl (record { number = x.number; below = h; on = x.on; at = x.at; is = x.is })
        | no g ↦ let h : x.number ≡ k = omega (arith, x.below) in inr (record { here = rw (e, ← h) x.at; value = x.is })
      ])
      (ones_wide k)
      (λ q v x. record { number = k; below = omega arith; on = t; at = x.here ∙ e; is = x.value }) C (changed_set b at 1 l)

  pub ones_no : (k : ℕ) (a b : List ℕ) → digit k m ≡ false → Changed (OneMark k z m spots) a b → Changed (OneMark (k + 1) z m spots) a b
  ones_no k a b f C =
      changed_same (OneMark k z m spots) (OneMark (k + 1) z m spots) a b
      (λ q v x.
      let less : x.number < k = elim (dec_lt x.number k) [ yes l ↦ l | no n ↦ let h : x.number ≡ k = omega (arith, x.below) in clash (rw h at x.on) f ] in
      record { number = x.number; below = less; on = x.on; at = x.at; is = x.is })
      (ones_wide k) C
