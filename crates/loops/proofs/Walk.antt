-- How the list of the cells that feed a net grows, and that it has all of them once each is followed.
use Prim.Native.Nat.{ℕ, suc, ◌+◌, ◌-◌, ◌≤◌, ◌<◌}
use mathlib.Core.Path.{◌≡◌, refl, sym, ◌∙◌, subst}
use mathlib.Core.Logic.{inl, inr}
use mathlib.Core.Bool.{Bool, true, false}
use mathlib.Core.List.{List}
use native.Mathlib.Omega.{arith}
use native.Mathlib.Decide.{dec_lt, ℕ_discrete}
use lib.ListN.{get_or, set}
use lib.Dec.{ltb}
use borrow.Author.Tests.{ltb-true, ltb-false}
use borrow.Author.Count.{below_more}
use Rattle.chip.specs.Class.{Feeds, direct, via}
use Rattle.chip.specs.Inner.Tables.{FirstPins, tabled}
use Rattle.chip.proofs.Loops.{fed_cell, feeds_on}
use Rattle.order.specs.Placed.{PinAt, Wired, Listed, fed}
use Rattle.order.proofs.Listed.{old, new, other, mark, listed_more}
use Rattle.order.proofs.Order.{fed_input, fed_place, fed_true, fed_false, pin_of, pin_at}
use Rattle.loops.specs.Loops.{OnLoop}
use Rattle.loops.specs.Walk.{Followed, Named, Walked}

module _ {i c : ℕ} {firsts nets : List ℕ} {j : ℕ} {list : List ℕ} {before : ℕ} {list' places : List ℕ} {n to : ℕ} (F : Followed i c firsts nets j list before list' places n to) where
  -- Following a cell's pins goes on past a pin that names an input or a cell on the list,
  pub follow_kept : fed i places (get_or nets to 0) ≡ true → Followed i c firsts nets j list before list' places n (to + 1)
  follow_kept e =
      record {
        listed = F.listed;
        more = F.more;
        kept = F.kept;
        drives = F.drives;
        named = λ p a b. elim (ℕ_discrete p to) [ yes q ↦ rw q e | no g ↦ F.named p a (omega arith) ];
      }

  -- and puts any other cell behind those on the list
  pub follow_more : (W : Wired i c firsts nets) → j < c → PinAt firsts j to → fed i places (get_or nets to 0) ≡ false
      → Followed i c firsts nets j list before (set list' n (get_or nets to 0 - i)) (set places (get_or nets to 0 - i) (n + 1)) (n + 1) (to + 1)
  follow_more W l w e =
      record {
        listed = listed_more F.listed W.few_cells h low un.1;
        more = omega (arith, F.more);
        kept = λ k b. stays k (omega (arith, F.more)) ∙ F.kept k b;
        drives = λ k a b. elim (dec_lt k n) [
          | yes d ↦ let (p, o, q) = F.drives k a d in (p, o, rw (stays k d) q)
          | no g ↦ let q : k ≡ n = omega arith in (to, w, rw (q, last) (omega (arith, un.0)))
        ];
        named = λ p a b. elim (ℕ_discrete p to) [ yes q ↦ rw q (fed_place i (get_or nets to 0) (set places h (n + 1)) un.0 (rw marked (omega arith))) | no g ↦ grown (get_or nets p 0) (F.named p a (omega arith)) ];
      }
    where
      un : (i ≤ get_or nets to 0) × (get_or places (get_or nets to 0 - i) 0 ≡ 0)
      un = fed_false i (get_or nets to 0) places e

      h : ℕ
      h = get_or nets to 0 - i

      low : h < c
      low = omega (arith, un.0, W.named j to l w)

      stays : (k : ℕ) → k < n → get_or (set list' n h) k 0 ≡ get_or list' k 0
      stays = old F.listed W.few_cells h low un.1

      last : get_or (set list' n h) n 0 ≡ h
      last = new F.listed W.few_cells h low un.1

      marked : get_or (set places h (n + 1)) h 0 ≡ n + 1
      marked = mark F.listed W.few_cells h low un.1

      grown : (m : ℕ) → fed i places m ≡ true → fed i (set places h (n + 1)) m ≡ true
      grown m f = elim (fed_true i m places f) [
        | inl b ↦ fed_input i m (set places h (n + 1)) b
        | inr (b, d) ↦ elim (ℕ_discrete (m - i) h) [
          | yes q ↦ fed_place i m (set places h (n + 1)) b (rw (q, marked) (omega arith))
          | no g ↦ fed_place i m (set places h (n + 1)) b (rw (other F.listed W.few_cells h low un.1 (m - i) g) d)
        ]
      ]

-- A cell stays on a list that goes on.
stays_fed : {i c : ℕ} {firsts nets : List ℕ} {j : ℕ} {list places list' places' : List ℕ} {n n' to : ℕ} → Listed c list places n → Followed i c firsts nets j list n list' places' n' to
    → (m : ℕ) → m < i + c → fed i places m ≡ true → fed i places' m ≡ true
stays_fed {i} {list = list} {places = places} {list' = list'} {places' = places'} L F m l f = elim (fed_true i m places f) [
  | inl b ↦ fed_input i m places' b
  | inr (b, d) ↦
      let (a, q) = L.stands (m - i) (omega arith) d in
      let q' : get_or list' (get_or places (m - i) 0 - 1) 0 ≡ m - i = F.kept (get_or places (m - i) 0 - 1) (omega arith) ∙ q in
      let s : get_or places' (m - i) 0 ≡ suc (get_or places (m - i) 0 - 1) = rw q' at (F.listed.once (get_or places (m - i) 0 - 1) (omega (arith, F.more))) in
      fed_place i m places' b (omega arith)
]

module _ {i c : ℕ} {firsts nets : List ℕ} {own : ℕ} (W : Wired i c firsts nets) (l : own < c) where
  -- The walk begins with the pins of the cell itself,
  pub walk_start : {none list places : List ℕ} {n : ℕ} → Followed i c firsts nets own none 0 list places n (get_or firsts (own + 1) 0) → Walked i c firsts nets own list places n 0
  walk_start F =
      record {
        listed = F.listed;
        feeds = λ h o kinds counts b K.
            let (p, w, q) = F.drives h (omega arith) b in
            subst (λ m. Feeds (tabled i c o kinds counts nets) m (i + own)) q (direct (pin_of i c o kinds counts firsts nets K own p l w));
        own_pins = λ p w. F.named p w.from w.to;
        pins = λ h b. absurd (omega arith);
      }

  -- and goes on with those of the next cell on the list
  pub walk_more : {list places list' places' : List ℕ} {n n' k : ℕ} → Walked i c firsts nets own list places n k → k < n → Followed i c firsts nets (get_or list k 0) list n list' places' n' (get_or firsts (get_or list k 0 + 1) 0)
      → Walked i c firsts nets own list' places' n' (k + 1)
  walk_more {list} {places} {list'} {places'} {n} {n'} {k} G b F =
      record {
        listed = F.listed;
        feeds = λ h o kinds counts d K. elim (dec_lt h n) [
          | yes a ↦ rw (F.kept h a) (G.feeds h o kinds counts a K)
          | no g ↦
              let (p, w, q) = F.drives h (omega arith) d in
              feeds_on (subst (λ m. Feeds (tabled i c o kinds counts nets) m (i + get_or list k 0)) q (direct (pin_of i c o kinds counts firsts nets K (get_or list k 0) p (G.listed.cell k b) w)))
              (G.feeds k o kinds counts b K)
        ];
        own_pins = λ p w. stays_fed G.listed F (get_or nets p 0) (W.named own p l w) (G.own_pins p w);
        pins = below_more _ k
            (λ h a. rw (F.kept h (omega arith)) (λ p w. stays_fed G.listed F (get_or nets p 0) (W.named (get_or list h 0) p (G.listed.cell h (omega arith)) w) (G.pins h a p w)))
            (rw (F.kept k b) (λ p w. F.named p w.from w.to));
      }

  -- Once each cell on the list is followed, it has all cells that feed the net, so the net reaches itself exactly if its own cell is on it.
  module _ {list places : List ℕ} {n k : ℕ} (G : Walked i c firsts nets own list places n k) (d : n ≤ k) (o : ℕ) (kinds counts : List ℕ) (K : FirstPins (tabled i c o kinds counts nets) firsts) where
    all_fed : {m t : ℕ} → Feeds (tabled i c o kinds counts nets) m t → (j : ℕ) → t ≡ i + j → Named i firsts nets places j → fed i places m ≡ true
    all_fed (direct {j = h} {p = p} w) j e named =
        let q : h ≡ j = omega arith in
        named p (rw q at (pin_at i c o kinds counts firsts nets K h p w))
    all_fed (via {j = h} {p = p} f w) j e named =
        let q : h ≡ j = omega arith in
        elim (fed_true i (get_or nets p 0) places (named p (rw q at (pin_at i c o kinds counts firsts nets K h p w)))) [
          | inl b ↦ absurd (omega (arith, (fed_cell f).2))
          | inr (b, s) ↦
              let (_, u, v) = fed_cell f in
              let (a, r) = G.listed.stands (get_or nets p 0 - i) (omega arith) s in
              all_fed f (get_or nets p 0 - i) (omega arith) (rw r at (G.pins (get_or places (get_or nets p 0 - i) 0 - 1) (omega arith)))
        ]

    pub walk_done : (r : Bool) → r ≡ ltb 0 (get_or places own 0) → OnLoop (tabled i c o kinds counts nets) own r
    walk_done r e =
        record {
          is = λ t.
              let (a, q) = G.listed.stands own l (ltb-true 0 (get_or places own 0) (sym e ∙ t)) in
              rw q at (G.feeds (get_or places own 0 - 1) o kinds counts (omega (arith, ltb-true 0 (get_or places own 0) (sym e ∙ t))) K);
          is_not = λ t f. elim (fed_true i (i + own) places (all_fed f own refl G.own_pins)) [
            | inl b ↦ omega arith
            | inr (b, s) ↦ let q : i + own - i ≡ own = omega arith in omega (arith, rw q at s, ltb-false 0 (get_or places own 0) (sym e ∙ t))
          ];
        }
