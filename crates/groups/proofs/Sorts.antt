-- Every fault is one of an input, a pad buffer, another cell or an output's pin, and of one of these only.
use Prim.Native.Nat.{ℕ, zero, suc, ◌+◌, ◌-◌, ◌*◌, ◌/◌, ◌%◌, ◌≤◌, ◌<◌}
use mathlib.Core.Path.{◌≡◌, refl, sym, ap, ◌∙◌}
use mathlib.Core.Logic.{◌⊎◌, inl, inr, ⊎_elim}
use mathlib.Core.Bool.{Bool, true, false, false≢true}
use mathlib.Core.List.{List}
use native.Mathlib.Omega.{arith}
use native.Mathlib.Decide.{dec_lt}
use borrow.Author.Tests.{lt-ltb}
use lib.ListN.{get_or}
use Rattle.chip.specs.Netlist.{Netlist, PinOf, first_pin, all_pins, sum_below}
use Rattle.chip.specs.Inner.Limits.{InLimits}
use Rattle.chip.specs.Inner.Tables.{tabled, FirstPins}
use Rattle.chip.specs.Pads.{pad_buffer}
use Rattle.chip.proofs.Basics.{sum_up}
use Rattle.chip.proofs.Pads.{ltb_lt, pin_one, pad_pin}
use Rattle.order.specs.Order.{Ordered}
use Rattle.alone.specs.Alone.{Between}
use Rattle.homes.proofs.Looking.{number_low, number_high}
use Rattle.pads.specs.Sources.{SourceTable}
use Rattle.buffers.specs.Buffers.{PadFault}
use Rattle.groups.specs.Chunks.{AtHome, Alone}

-- the cell that a pin is of
owner : (N : Netlist) (k p : ℕ) → k ≤ N.cells → p < sum_below N.pins k → (j : ℕ) × PinOf N j p
owner N zero p h l = absurd (omega arith)
owner N (suc k) p h l = elim (dec_lt p (sum_below N.pins k)) [
  | yes y ↦ owner N k p (omega arith) y
  | no g ↦ (k, record { cell = omega arith; from = omega arith; to = omega arith })
]

module _ (i c o n : ℕ) (kinds counts nets firsts order sources : List ℕ) (L : InLimits (tabled i c o kinds counts nets)) (e : n ≡ all_pins (tabled i c o kinds counts nets))
    (F : FirstPins (tabled i c o kinds counts nets) firsts) (O : Ordered (tabled i c o kinds counts nets) order) (T : SourceTable (tabled i c o kinds counts nets) sources) where
  abbrev N : Netlist
  N = tabled i c o kinds counts nets

  first_is : (j : ℕ) → j < c → get_or firsts j 0 ≡ first_pin (tabled i c o kinds counts nets) j
  first_is j l = F j (omega arith)

  -- a pad buffer, by the table of sources
  pad_low : (j : ℕ) → j < c → pad_buffer (tabled i c o kinds counts nets) j ≡ true → get_or sources (i + j) 0 < i
  pad_low j l q = rw (T.at (i + j) (omega arith)) (ltb_lt _ _ q)

  low_pad : (j : ℕ) → j < c → get_or sources (i + j) 0 < i → pad_buffer (tabled i c o kinds counts nets) j ≡ true
  low_pad j l q = lt-ltb _ _ (rw (T.at (i + j) (omega arith)) at q)

  -- a fault of a cell's net or pin
  of_net : (j v : ℕ) → j < c → v < 2 → (b : Bool) → pad_buffer (tabled i c o kinds counts nets) j ≡ b
      → PadFault i c firsts sources (2 * (i + j) + v) ⊎ AtHome i c (tabled i c o kinds counts nets) counts firsts order (2 * (i + j) + v)
  of_net j v l b true q = inl (j, l, pad_low j l q, inl (omega arith))
  of_net j v l b false q =
      let (h, s) = O.placed j l in
      inr (record {
        place = O.place j;
        fault = v;
        in_order = h;
        own = rw s q;
        one = omega arith;
        is = sym (number_low v (i + get_or order (O.place j) 0) (i + c + get_or firsts (get_or order (O.place j) 0) 0) b ∙ ap (λ x. 2 * (i + x) + v) s);
      })

  of_pin : (j p v : ℕ) → PinOf (tabled i c o kinds counts nets) j p → v < 2 → (b : Bool) → pad_buffer (tabled i c o kinds counts nets) j ≡ b
      → PadFault i c firsts sources (2 * (i + c + p) + v) ⊎ AtHome i c (tabled i c o kinds counts nets) counts firsts order (2 * (i + c + p) + v)
  of_pin j p v w b true q =
      let s : p ≡ get_or firsts j 0 = pad_pin (tabled i c o kinds counts nets) j p w (ltb_lt _ _ q) ∙ sym (first_is j w.cell) in
      inl (j, w.cell, pad_low j w.cell q, inr (omega arith))
  of_pin j p v w b false q =
      let (h, s) = O.placed j w.cell in
      let f = first_is j w.cell in
      let x : ℕ = 2 * (p - get_or firsts j 0) + v + 2 in
      let at : get_or firsts (get_or order (O.place j) 0) 0 ≡ get_or firsts j 0 = ap (λ y. get_or firsts y 0) s in
      inr (record {
        place = O.place j;
        fault = x;
        in_order = h;
        own = rw s q;
        one = rw s (omega (arith, w.from, w.to));
        is = omega (arith, number_high x (i + get_or order (O.place j) 0) (i + c + get_or firsts (get_or order (O.place j) 0) 0) (omega arith), w.from);
      })

  pub sorted : (f : ℕ) → f < 2 * (i + c + n) → Alone i c o n firsts sources f ⊎ AtHome i c (tabled i c o kinds counts nets) counts firsts order f
  sorted f l = elim (dec_lt f (2 * i)) [
    | yes a ↦ inl (inl a)
    | no a ↦ elim (dec_lt f (2 * (i + c))) [
      | yes b ↦
          let s : 2 * (i + (f / 2 - i)) + f % 2 ≡ f = omega arith in
          ⊎_elim (λ x. inl (inr (inl (rw s at x)))) (λ x. inr (rw s at x)) (of_net (f / 2 - i) (f % 2) (omega arith) (omega arith) (pad_buffer (tabled i c o kinds counts nets) (f / 2 - i)) refl)
      | no b ↦ elim (dec_lt f (2 * (i + c + n - o))) [
        | yes d ↦
            let s : 2 * (i + c + (f / 2 - (i + c))) + f % 2 ≡ f = omega arith in
            let (j, w) = owner (tabled i c o kinds counts nets) c (f / 2 - (i + c)) (omega arith) (omega arith) in
            ⊎_elim (λ x. inl (inr (inl (rw s at x)))) (λ x. inr (rw s at x)) (of_pin j (f / 2 - (i + c)) (f % 2) w (omega arith) (pad_buffer (tabled i c o kinds counts nets) j) refl)
        | no d ↦ inl (inr (inr (omega arith, l)))
      ]
    ]
  ]

  -- a home's fault is one of its cell's net, or of a pin of the cell
  pub record HomeSite (f : ℕ) : Type 0 where
    pub cell : ℕ
    pub there : cell < c
    pub own : pad_buffer (tabled i c o kinds counts nets) cell ≡ false
    pub is : (f / 2 ≡ i + cell) ⊎ ((p : ℕ) × (f / 2 ≡ i + c + p) × PinOf (tabled i c o kinds counts nets) cell p)

  home_site : (f : ℕ) → AtHome i c (tabled i c o kinds counts nets) counts firsts order f → HomeSite f
  home_site f H =
      let j : ℕ = get_or order H.place 0 in
      let l : j < c = O.cell H.place H.in_order in
      let a : get_or firsts (get_or order H.place 0) 0 ≡ first_pin (tabled i c o kinds counts nets) j = first_is j l in
      elim (dec_lt H.fault 2) [
        | yes y ↦ record { cell = j; there = l; own = H.own; is = inl (omega (arith, H.is, number_low H.fault (i + get_or order H.place 0) (i + c + get_or firsts (get_or order H.place 0) 0) y)) }
        | no g ↦ record {
          cell = j;
          there = l;
          own = H.own;
          is = inr (
            get_or firsts (get_or order H.place 0) 0 + (H.fault - 2) / 2,
            omega (arith, H.is, number_high H.fault (i + get_or order H.place 0) (i + c + get_or firsts (get_or order H.place 0) 0) (omega arith)),
            record { cell = l; from = omega arith; to = omega (arith, H.one) },
          );
        }
      ]

  pin_low : (j p : ℕ) → PinOf (tabled i c o kinds counts nets) j p → p < n - o
  pin_low j p w = let up : sum_below (λ x. get_or counts x 0) (suc j) ≤ sum_below (λ x. get_or counts x 0) c = sum_up (λ x. get_or counts x 0) (suc j) c w.cell in omega (arith, w.to)

  first_own : (j : ℕ) → j < c → PinOf (tabled i c o kinds counts nets) j (get_or firsts j 0)
  first_own j l = record { cell = l; from = omega (arith, first_is j l); to = omega (arith, first_is j l, L.sound.pinned j l) }

  clash : (j k : ℕ) → j ≡ k → pad_buffer (tabled i c o kinds counts nets) j ≡ false → pad_buffer (tabled i c o kinds counts nets) k ≡ true → ⊥
  clash j k q a b = false≢true (sym a ∙ ap (pad_buffer (tabled i c o kinds counts nets)) q ∙ b)

  pub home_only : (f : ℕ) → Alone i c o n firsts sources f → AtHome i c (tabled i c o kinds counts nets) counts firsts order f → ⊥
  home_only f A H = go A (home_site f H)
    where
      go : Alone i c o n firsts sources f → HomeSite f → ⊥
      go (inl a) S = ⊎_elim (λ x. omega arith) (λ x. omega (arith, x.1)) S.is
      go (inr (inl (j, l, h, B))) S =
          let q : pad_buffer (tabled i c o kinds counts nets) j ≡ true = low_pad j l h in
          ⊎_elim
          (λ x. ⊎_elim (λ y. clash S.cell j (omega arith) S.own q) (λ y. omega (arith, S.there)) B)
          (λ x. let (p, r, w) = x in
          ⊎_elim (λ y. omega arith)
          (λ y. let s : p ≡ get_or firsts j 0 = omega arith in
          clash S.cell j (pin_one (tabled i c o kinds counts nets) S.cell j p w (rw s (first_own j l))) S.own q)
          B)
          S.is
      go (inr (inr a)) S = ⊎_elim (λ x. omega (arith, S.there)) (λ x. let (p, q, w) = x in omega (arith, pin_low S.cell p w)) S.is

  -- the sorts of faults that are runs of their own are apart
  pub input_buffer : (f : ℕ) → f < 2 * i → PadFault i c firsts sources f → ⊥
  input_buffer f a (j, l, h, B) = ⊎_elim (λ y. omega arith) (λ y. omega arith) B

  pub alone_out : (f : ℕ) → (f < 2 * i) ⊎ PadFault i c firsts sources f → Between (2 * (i + c + n - o)) (2 * (i + c + n)) f → ⊥
  alone_out f (inl a) b = omega arith
  alone_out f (inr (j, l, h, B)) b = ⊎_elim (λ y. omega arith) (λ y. omega (arith, pin_low j (get_or firsts j 0) (first_own j l))) B
