-- A fault shows at an output exactly in the lanes in which it changes its home and the flip of its home changes the output.
use Prim.Native.Nat.{ℕ, suc, ◌+◌, ◌≤◌, ◌<◌}
use mathlib.Core.Path.{◌≡◌, refl, sym, ap, ◌∙◌}
use mathlib.Core.Logic.{inl, inr, ◌↔◌, ◌≢◌}
use mathlib.Core.Bool.{Bool, true, false, cond, ◌&&◌, xor, false≢true}
use mathlib.Core.List.{List}
use native.Mathlib.Omega.{arith}
use native.Mathlib.Decide.{ℕ_discrete, dec_lt}
use borrow.Author.Tests.{eq-eqb, ne_eqb, lt-ltb, le-ltb, lt-leb, le-leb}
use lib.ListN.{get_or}
use lib.Dec.{eqb, ltb, leb}
use Rattle.chip.specs.Netlist.{Netlist, PinOf, first_pin, out_pin, all_pins, gate, sum_below}
use Rattle.chip.specs.Inner.Limits.{Sound}
use Rattle.chip.specs.Pads.{source, pad_buffer, into_pad, branch_of}
use Rattle.chip.specs.Class.{blocks, tally}
use Rattle.chip.specs.Transformed.{transformed}
use Rattle.chip.specs.Inner.Direct.{direct, at_pins}
use Rattle.chip.specs.Faults.{Lines, Run, Shown, good as good_lines, sees, stuck, transformed_lines}
use Rattle.chip.specs.Search.{width, pattern, Tried}
use Rattle.chip.specs.declared.Site.TheVariants.{Net, Pin}
use Rattle.chip.specs.declared.Fault.{Fault}
use Rattle.chip.proofs.Basics.{Ranked, Counted, ones_same, net_cases, pin_in, sum_up}
use Rattle.chip.proofs.Blocks.{counted, tally_past}
use Rattle.chip.proofs.Bools.{clash}
use Rattle.chip.proofs.Runs.{has_run}
use Rattle.chip.proofs.Pads.{pin_one, branch_is, branch_in, source_input, outside, out_outside}
use Rattle.chip.proofs.Direct.{direct_sound, direct_ranked, pins_iff}
use Rattle.order.proofs.Order.{ranked_of}
use Rattle.faults.specs.Decided.{decided_to, Decided}
use Rattle.slots.specs.Slots.{in_cone, fault_slot}
use Rattle.words.specs.Lanes.{put}
use Rattle.flip.specs.Bed.{Bed, made, Start, Rules}
use Rattle.flip.proofs.Outside.{OffPads, at_other, at_branch}
use Rattle.flip.proofs.Seen.{lane_sees, names}

-- a cell's pin is no output's
pub no_out : (N : Netlist) (j p z : ℕ) → PinOf N j p → p ≢ out_pin N z
no_out N j p z a e = let up : sum_below N.pins (suc j) ≤ sum_below N.pins N.cells = sum_up N.pins (suc j) N.cells a.cell in omega (arith, a.to)

-- two bits that differ
xor_differ : (a b : Bool) → (a ≢ b) ↔ (xor a b ≡ true)
unfolding xor
xor_differ true true = ((λ g. absurd (g refl)), λ e. absurd (false≢true e))
xor_differ true false = ((λ g. refl), λ e q. false≢true (sym q))
xor_differ false true = ((λ g. refl), λ e q. false≢true q)
xor_differ false false = ((λ g. absurd (g refl)), λ e. absurd (false≢true e))

turned_to : (x y : Bool) → xor x y ≡ true → xor x true ≡ y
unfolding xor
turned_to true true e = absurd (false≢true e)
turned_to true false e = refl
turned_to false true e = refl
turned_to false false e = absurd (false≢true e)

same_as : (x y : Bool) → xor x y ≡ false → x ≡ y
unfolding xor
same_as true true e = refl
same_as true false e = absurd (false≢true (sym e))
same_as false true e = absurd (false≢true (sym e))
same_as false false e = refl

-- what holds where the fault changes its home exactly if a and b differ, and never elsewhere
in_lane : (T : Type 0) (loc a b : Bool) → (loc ≡ true → T ↔ (a ≢ b)) → (loc ≡ false → T ↔ (a ≢ a)) → T ↔ ((loc && xor a b) ≡ true)
in_lane T true a b h k = let (x, y) = h refl in let (p, q) = xor_differ a b in ((λ t. p (x t)), λ t. y (q t))
in_lane T false a b h k = let (x, y) = k refl in ((λ t. absurd (x t refl)), λ t. absurd (false≢true t))

-- a cell that is no pad buffer
no_pad : (N : Netlist) (j : ℕ) → pad_buffer N j ≡ false → ¬ (source N (N.inputs + j) < N.inputs)
no_pad N j np l = clash (lt-ltb (source N (N.inputs + j)) N.inputs l) np

module _ (N : Netlist) (low : ℕ → ℕ) (rel : ℕ → ℕ → Bool) (z : ℕ) (firsts order cone good : List ℕ) (Q : Bed N low rel z firsts order cone good) where
  sound : Sound N
  sound = Q.limits.sound

  abbrev ranks : Ranked N
  ranks = ranked_of Q.ordered

  -- ---- from what the circuits show to the search's question

  module _ (f : Lines) (m : ℕ) where
    -- slots that obey all rules hold what the good circuit shows
    good_sees : (v : ℕ → Bool) → Start (width (blocks N low) rel z) m v → Rules N firsts cone z N.cells (λ p. v (get_or good p 0)) v → (r : ℕ → ℕ → Bool)
        → Run (direct N (blocks N low)) good_lines (λ _. pattern rel z m) r → sees (direct N (blocks N low)) good_lines r 0 (out_pin N z) ≡ v (get_or good (out_pin N z) 0)
    good_sees v A R = lane_sees N low rel z firsts order cone good Q m v A good_lines (λ n b. refl) (λ j c np e. R.cell j c (λ q. omega arith) e)

    -- slots that obey all rules, with what the fault does at the pins, hold what the faulty circuit shows
    faulty_sees : (v : ℕ → Bool) → Start (width (blocks N low) rel z) m v
        → ((j : ℕ) → j < N.cells → ¬ (source N (N.inputs + j) < N.inputs) → in_cone firsts cone z j ≡ true → v (16 + j) ≡ made N firsts (λ p. (at_pins N f).pin p (v (get_or good p 0))) j)
        → (r : ℕ → ℕ → Bool) → Run (direct N (blocks N low)) (at_pins N f) (λ _. pattern rel z m) r
        → sees (direct N (blocks N low)) (at_pins N f) r 0 (out_pin N z) ≡ (at_pins N f).pin (out_pin N z) (v (get_or good (out_pin N z) 0))
    faulty_sees v A R = lane_sees N low rel z firsts order cone good Q m v A (at_pins N f) (λ n b. refl) R

    tried : (a b : Bool) → ((r : ℕ → ℕ → Bool) → Run (direct N (blocks N low)) good_lines (λ _. pattern rel z m) r → sees (direct N (blocks N low)) good_lines r 0 (out_pin N z) ≡ a)
        → ((r : ℕ → ℕ → Bool) → Run (direct N (blocks N low)) (at_pins N f) (λ _. pattern rel z m) r → sees (direct N (blocks N low)) (at_pins N f) r 0 (out_pin N z) ≡ b)
        → Tried N (blocks N low) f rel z m ↔ (a ≢ b)
    tried a b g h = (
      (λ t e.
          let (v, x, _) = has_run (direct N (blocks N low)) good_lines (λ _. pattern rel z m) (λ _. false) S K in
          let (v', x', _) = has_run (direct N (blocks N low)) (at_pins N f) (λ _. pattern rel z m) (λ _. false) S K in
          only.0 t v v' x x' (g v x ∙ e ∙ sym (h v' x'))),
      λ d. only.1 (λ v v' x x' e. d (sym (g v x) ∙ e ∙ h v' x')),
    )
      where
        C : Counted N (blocks N low)
        C = counted N low Q.lowest

        S : Sound (direct N (blocks N low))
        S = direct_sound N sound ranks (blocks N low) C

        K : Ranked (direct N (blocks N low))
        K = direct_ranked N sound ranks (blocks N low) C

        only : Shown (transformed N (blocks N low)) (transformed_lines N (blocks N low) f) (λ _. pattern rel z m) z 0 ↔ Shown (direct N (blocks N low)) (at_pins N f) (λ _. pattern rel z m) z 0
        only = pins_iff N sound ranks (blocks N low) C f (pattern rel z m) z Q.output

    tried_xor : (a b : Bool) → ((r : ℕ → ℕ → Bool) → Run (direct N (blocks N low)) good_lines (λ _. pattern rel z m) r → sees (direct N (blocks N low)) good_lines r 0 (out_pin N z) ≡ a)
        → ((r : ℕ → ℕ → Bool) → Run (direct N (blocks N low)) (at_pins N f) (λ _. pattern rel z m) r → sees (direct N (blocks N low)) (at_pins N f) r 0 (out_pin N z) ≡ b)
        → Tried N (blocks N low) f rel z m ↔ (xor a b ≡ true)
    tried_xor a b g h = let (x, y) = tried a b g h in let (p, q) = xor_differ a b in ((λ t. p (x t)), λ t. y (q t))

  -- a cell makes the same of pins that see the same
  made_same : (see see' : ℕ → Bool) (j : ℕ) → j < N.cells → ((p : ℕ) → PinOf N j p → see p ≡ see' p) → made N firsts see j ≡ made N firsts see' j
  made_same see see' j c h =
      let q : get_or firsts j 0 ≡ first_pin N j = Q.first_pins j (omega arith) in
      ap (gate (N.kind j) (N.pins j)) (ones_same see see' (get_or firsts j 0) (N.pins j) (λ i l. h (get_or firsts j 0 + i) (record { cell = c; from = omega arith; to = omega arith })))

  -- a pin of the output, or of a cell that is no pad buffer, that is no branch names a cell
  names_cell : (p : ℕ) → p < all_pins N → into_pad N p ≡ false → ¬ (branch_of N p < N.inputs) → (j : ℕ) × (j < N.cells) × (N.net p ≡ N.inputs + j)
  names_cell p h out g = elim (net_cases N (N.net p) (sound.named p h)) [
    | inl i ↦ absurd (g (omega (arith, branch_is N p out, source_input N (N.net p) i)))
    | inr s ↦ s
  ]

  -- ---- a stuck net of a cell

  module _ (j₀ : ℕ) (c₀ : j₀ < N.cells) (np : pad_buffer N j₀ ≡ false) (s : ℕ) (m : ℕ) (g : ℕ → Bool) (Ag : Start (width (blocks N low) rel z) m g) (Rg : Rules N firsts cone z N.cells (λ p. g (get_or good p 0)) g) where
    abbrev net_fault : Fault
    net_fault = record { site = Net (N.inputs + j₀); stuck = s }

    -- a branch does not name the net
    no_branch : (p : ℕ) → branch_of N p < N.inputs → N.net p ≢ N.inputs + j₀
    no_branch p i q =
        let e : source N (N.inputs + j₀) ≡ branch_of N p = ap (source N) (sym q) ∙ (branch_in N p i).1 in
        no_pad N j₀ np (rw e i)

    net_off : OffPads N (stuck net_fault)
    net_off = record {
      net = λ j b l. rw (ne_eqb (N.inputs + j) (N.inputs + j₀) (λ q. no_pad N j₀ np (rw (sym q) l))) refl;
      pin = λ p b e. refl;
    }

    -- the fault decides the pins that name the net
    net_pins : (p : ℕ) (b : Bool) → p < all_pins N → (at_pins N (stuck net_fault)).pin p b ≡ cond (eqb (N.net p) (N.inputs + j₀)) (eqb s 1) b
    net_pins p b h = elim (dec_lt (branch_of N p) N.inputs) [
      | yes i ↦
          at_branch N sound ranks (stuck net_fault) net_off p b h i
          ∙ ap (λ r. cond r (eqb s 1) b) (ne_eqb (branch_of N p) (N.inputs + j₀) (λ q. omega arith))
          ∙ sym (ap (λ r. cond r (eqb s 1) b) (ne_eqb (N.net p) (N.inputs + j₀) (no_branch p i)))
      | no i ↦ at_other N (stuck net_fault) p b i
    ]

    -- slots in which the net has the stuck value, and that obey the rules elsewhere
    net_home : (e : ℕ → Bool) → Start (width (blocks N low) rel z) m e → Rules N firsts cone z j₀ (λ p. e (get_or good p 0)) e → e (16 + j₀) ≡ eqb s 1
        → Tried N (blocks N low) (stuck net_fault) rel z m ↔ (g (get_or good (out_pin N z) 0) ≢ e (get_or good (out_pin N z) 0))
    net_home e Ae Re home =
        tried (stuck net_fault) m (g (get_or good (out_pin N z) 0)) (e (get_or good (out_pin N z) 0)) (good_sees (stuck net_fault) m g Ag Rg)
        (λ r X. faulty_sees (stuck net_fault) m v Av Rv r X ∙ pin_same (out_pin N z) (omega (arith, Q.output)))
      where
        few : j₀ < 1024
        few = omega (arith, Q.limits.few_cells)

        own : Bool
        own = made N firsts (λ p. e (get_or good p 0)) j₀

        v : ℕ → Bool
        v = put e (16 + j₀) own

        v_other : (n : ℕ) → n ≢ 16 + j₀ → v n ≡ e n
        v_other n d = rw (ne_eqb n (16 + j₀) d) refl

        pin_same : (p : ℕ) → p < all_pins N → (at_pins N (stuck net_fault)).pin p (v (get_or good p 0)) ≡ e (get_or good p 0)
        pin_same p h = net_pins p (v (get_or good p 0)) h ∙ elim (ℕ_discrete (N.net p) (N.inputs + j₀)) [
          | yes q ↦ rw (eq-eqb (N.net p) (N.inputs + j₀) q) (sym home ∙ ap e (sym (Q.cell_slot p j₀ h (λ i. no_branch p i q) q)))
          | no d ↦ rw (ne_eqb (N.net p) (N.inputs + j₀) d) (v_other (get_or good p 0) (λ q. d (names N low rel z firsts order cone good Q p j₀ h few q)))
        ]

        Av : Start (width (blocks N low) rel z) m v
        Av = record { bits = λ i l. v_other i (λ q. omega (arith, Q.few)) ∙ Ae.bits i l; zeros = v_other 1040 (λ q. omega arith) ∙ Ae.zeros }

        Rv : (j : ℕ) → j < N.cells → ¬ (source N (N.inputs + j) < N.inputs) → in_cone firsts cone z j ≡ true → v (16 + j) ≡ made N firsts (λ p. (at_pins N (stuck net_fault)).pin p (v (get_or good p 0))) j
        Rv j c _ i =
            let same : made N firsts (λ p. e (get_or good p 0)) j ≡ made N firsts (λ p. (at_pins N (stuck net_fault)).pin p (v (get_or good p 0))) j =
            made_same _ _ j c (λ p o. sym (pin_same p (pin_in N j p o))) in
            elim (ℕ_discrete j j₀) [
              | yes q ↦ rw (eq-eqb (16 + j) (16 + j₀) (omega arith)) (ap (made N firsts (λ p. e (get_or good p 0))) (sym q) ∙ same)
              | no d ↦ v_other (16 + j) (λ q. d (omega arith)) ∙ Re.cell j c d i ∙ same
            ]

    -- in a lane: `flipped` tells whether the home is flipped there
    pub net_lane : (e : ℕ → Bool) (flipped : Bool) → Start (width (blocks N low) rel z) m e → Rules N firsts cone z j₀ (λ p. e (get_or good p 0)) e → e (16 + j₀) ≡ xor (g (16 + j₀)) flipped
        → (xor (g (16 + j₀)) (eqb s 1) ≡ true → flipped ≡ true)
        → Tried N (blocks N low) (stuck net_fault) rel z m ↔ ((xor (g (16 + j₀)) (eqb s 1) && xor (g (get_or good (out_pin N z) 0)) (e (get_or good (out_pin N z) 0))) ≡ true)
    net_lane e flipped Ae Re home all =
        in_lane (Tried N (blocks N low) (stuck net_fault) rel z m) (xor (g (16 + j₀)) (eqb s 1)) (g (get_or good (out_pin N z) 0)) (e (get_or good (out_pin N z) 0))
        (λ q. net_home e Ae Re (home ∙ ap (xor (g (16 + j₀))) (all q) ∙ turned_to (g (16 + j₀)) (eqb s 1) q))
        (λ q. net_home g Ag (record { cell = λ j c d i. Rg.cell j c (λ y. omega arith) i }) (same_as (g (16 + j₀)) (eqb s 1) q))

  -- ---- a stuck pin that does not go into a pad buffer

  module _ (p₀ s : ℕ) (out₀ : into_pad N p₀ ≡ false) where
    abbrev pin_fault : Fault
    pin_fault = record { site = Pin p₀; stuck = s }

    pin_off : OffPads N (stuck pin_fault)
    pin_off = record {
      net = λ j b l. refl;
      pin = λ p b e. rw (ne_eqb p p₀ (λ q. clash e (ap (into_pad N) q ∙ out₀))) refl;
    }

    -- the fault decides the pin
    pin_pins : (p : ℕ) (b : Bool) → p < all_pins N → (at_pins N (stuck pin_fault)).pin p b ≡ cond (eqb p p₀) (eqb s 1) b
    pin_pins p b h = elim (dec_lt (branch_of N p) N.inputs) [
      | yes i ↦ at_branch N sound ranks (stuck pin_fault) pin_off p b h i
      | no i ↦ at_other N (stuck pin_fault) p b i
    ]

  module _ (j₀ p₀ : ℕ) (o₀ : PinOf N j₀ p₀) (np : pad_buffer N j₀ ≡ false) (s : ℕ) (m : ℕ) (g : ℕ → Bool) (Ag : Start (width (blocks N low) rel z) m g) (Rg : Rules N firsts cone z N.cells (λ p. g (get_or good p 0)) g) where
    -- what the home shows with the pin stuck
    abbrev pub pinned : (ℕ → Bool) → Bool
    pinned v = made N firsts (λ p. cond (eqb p p₀) (eqb s 1) (v (get_or good p 0))) j₀

    out₀ : into_pad N p₀ ≡ false
    out₀ = outside N sound j₀ p₀ o₀ (no_pad N j₀ np)

    -- slots in which the home shows that, and that obey the rules elsewhere
    pin_home : (e : ℕ → Bool) → Start (width (blocks N low) rel z) m e → Rules N firsts cone z j₀ (λ p. e (get_or good p 0)) e → e (16 + j₀) ≡ pinned e
        → Tried N (blocks N low) (stuck (record { site = Pin p₀; stuck = s })) rel z m ↔ (g (get_or good (out_pin N z) 0) ≢ e (get_or good (out_pin N z) 0))
    pin_home e Ae Re home =
        tried f m (g (get_or good (out_pin N z) 0)) (e (get_or good (out_pin N z) 0)) (good_sees f m g Ag Rg)
        (λ r X. faulty_sees f m e Ae Rv r X
        ∙ pin_pins p₀ s out₀ (out_pin N z) (e (get_or good (out_pin N z) 0)) (omega (arith, Q.output))
        ∙ ap (λ t. cond t (eqb s 1) (e (get_or good (out_pin N z) 0))) (ne_eqb (out_pin N z) p₀ (λ q. no_out N j₀ p₀ z o₀ (sym q))))
      where
        f : Lines
        f = stuck (record { site = Pin p₀; stuck = s })

        Rv : (j : ℕ) → j < N.cells → ¬ (source N (N.inputs + j) < N.inputs) → in_cone firsts cone z j ≡ true → e (16 + j) ≡ made N firsts (λ p. (at_pins N (stuck (record { site = Pin p₀; stuck = s }))).pin p (e (get_or good p 0))) j
        Rv j c _ i =
            let same : made N firsts (λ p. cond (eqb p p₀) (eqb s 1) (e (get_or good p 0))) j ≡ made N firsts (λ p. (at_pins N (stuck (record { site = Pin p₀; stuck = s }))).pin p (e (get_or good p 0))) j =
            made_same _ _ j c (λ p o. sym (pin_pins p₀ s out₀ p (e (get_or good p 0)) (pin_in N j p o))) in
            elim (ℕ_discrete j j₀) [
              | yes q ↦ ap (λ k. e (16 + k)) q ∙ home ∙ ap (made N firsts (λ p. cond (eqb p p₀) (eqb s 1) (e (get_or good p 0)))) (sym q) ∙ same
              | no d ↦ Re.cell j c d i ∙ made_same (λ p. e (get_or good p 0)) (λ p. cond (eqb p p₀) (eqb s 1) (e (get_or good p 0))) j c (λ p o. rw (ne_eqb p p₀ (λ q. d (pin_one N j j₀ p₀ (rw q at o) o₀))) refl) ∙ same
            ]

    pub pin_lane : (e : ℕ → Bool) (flipped : Bool) → Start (width (blocks N low) rel z) m e → Rules N firsts cone z j₀ (λ p. e (get_or good p 0)) e → e (16 + j₀) ≡ xor (g (16 + j₀)) flipped
        → ((p : ℕ) → PinOf N j₀ p → e (get_or good p 0) ≡ g (get_or good p 0)) → (xor (g (16 + j₀)) (pinned g) ≡ true → flipped ≡ true)
        → Tried N (blocks N low) (stuck (record { site = Pin p₀; stuck = s })) rel z m ↔ ((xor (g (16 + j₀)) (pinned g) && xor (g (get_or good (out_pin N z) 0)) (e (get_or good (out_pin N z) 0))) ≡ true)
    pin_lane e flipped Ae Re home before all =
        in_lane (Tried N (blocks N low) (stuck (record { site = Pin p₀; stuck = s })) rel z m) (xor (g (16 + j₀)) (pinned g)) (g (get_or good (out_pin N z) 0)) (e (get_or good (out_pin N z) 0))
        (λ q. pin_home e Ae Re (home ∙ ap (xor (g (16 + j₀))) (all q) ∙ turned_to (g (16 + j₀)) (pinned g) q
        ∙ made_same _ _ j₀ o₀.cell (λ p o. ap (cond (eqb p p₀) (eqb s 1)) (sym (before p o)))))
        (λ q. pin_home g Ag (record { cell = λ j c d i. Rg.cell j c (λ y. omega arith) i }) (same_as (g (16 + j₀)) (pinned g) q))

  -- ---- a stuck pin of the output

  pub out_lane : (s m : ℕ) (g : ℕ → Bool) → Start (width (blocks N low) rel z) m g → Rules N firsts cone z N.cells (λ p. g (get_or good p 0)) g
      → Tried N (blocks N low) (stuck (record { site = Pin (out_pin N z); stuck = s })) rel z m ↔ (xor (g (get_or good (out_pin N z) 0)) (eqb s 1) ≡ true)
  out_lane s m g Ag Rg =
      tried_xor f m (g (get_or good (out_pin N z) 0)) (eqb s 1) (good_sees f m g Ag Rg)
      (λ r X. faulty_sees f m g Ag
      (λ j c _ i. Rg.cell j c (λ q. omega arith) i
      ∙ made_same _ _ j c (λ p o. sym (pin_pins (out_pin N z) s out p (g (get_or good p 0)) (pin_in N j p o)
      ∙ ap (λ t. cond t (eqb s 1) (g (get_or good p 0))) (ne_eqb p (out_pin N z) (no_out N j p z o))))) r X
      ∙ pin_pins (out_pin N z) s out (out_pin N z) (g (get_or good (out_pin N z) 0)) (omega (arith, Q.output))
      ∙ ap (λ t. cond t (eqb s 1) (g (get_or good (out_pin N z) 0))) (eq-eqb (out_pin N z) (out_pin N z) refl))
    where
      f : Lines
      f = stuck (record { site = Pin (out_pin N z); stuck = s })

      out : into_pad N (out_pin N z) ≡ false
      out = out_outside N sound z

  -- ---- a stuck input: its blocks hold the stuck value

  module _ (x : ℕ) (xi : x < N.inputs) (s : ℕ) (m : ℕ) (g : ℕ → Bool) (Ag : Start (width (blocks N low) rel z) m g) (Rg : Rules N firsts cone z N.cells (λ p. g (get_or good p 0)) g) where
    abbrev input_fault : Fault
    input_fault = record { site = Net x; stuck = s }

    -- at the pins that count, those of the output and of cells that reach it, the input's blocks are stuck and the others as before
    pub record Stuck (e : ℕ → Bool) : Type 0 where
      pub cell : (j p : ℕ) → in_cone firsts cone z j ≡ true → PinOf N j p → branch_of N p < N.inputs → e (get_or good p 0) ≡ cond (eqb (branch_of N p) x) (eqb s 1) (g (get_or good p 0))
      pub out : branch_of N (out_pin N z) < N.inputs → e (get_or good (out_pin N z) 0) ≡ cond (eqb (branch_of N (out_pin N z)) x) (eqb s 1) (g (get_or good (out_pin N z) 0))

    input_off : OffPads N (stuck input_fault)
    input_off = record { net = λ j b l. rw (ne_eqb (N.inputs + j) x (λ q. omega arith)) refl; pin = λ p b e. refl }

    pub input_lane : (e : ℕ → Bool) → Rules N firsts cone z N.cells (λ p. e (get_or good p 0)) e → Stuck e
        → Tried N (blocks N low) (stuck input_fault) rel z m ↔ (xor (g (get_or good (out_pin N z) 0)) (e (get_or good (out_pin N z) 0)) ≡ true)
    input_lane e Re T =
        tried_xor (stuck input_fault) m (g (get_or good (out_pin N z) 0)) (e (get_or good (out_pin N z) 0)) (good_sees (stuck input_fault) m g Ag Rg)
        (λ r X. faulty_sees (stuck input_fault) m v Av Rv r X ∙ sees_same (out_pin N z) (omega (arith, Q.output)) (out_outside N sound z) T.out)
      where
        -- the cells' slots of e, the others of g
        pick : Bool → Bool → ℕ → Bool
        pick true true n = e n
        pick true false n = g n
        pick false b n = g n

        v : ℕ → Bool
        v n = pick (leb 16 n) (ltb n 1040) n

        v_cell : (j : ℕ) → j < N.cells → v (16 + j) ≡ e (16 + j)
        v_cell j c = ap (λ b. pick b (ltb (16 + j) 1040) (16 + j)) (le-leb 16 (16 + j) (omega arith)) ∙ ap (λ b. pick true b (16 + j)) (lt-ltb (16 + j) 1040 (omega (arith, Q.limits.few_cells)))

        v_low : (n : ℕ) → n < 16 → v n ≡ g n
        v_low n l = ap (λ b. pick b (ltb n 1040) n) (lt-leb 16 n l)

        v_zero : v 1040 ≡ g 1040
        v_zero = ap (λ b. pick (leb 16 1040) b 1040) (le-ltb 1040 1040 (omega arith))

        Av : Start (width (blocks N low) rel z) m v
        Av = record { bits = λ i l. v_low i (omega (arith, Q.few)) ∙ Ag.bits i l; zeros = v_zero ∙ Ag.zeros }

        in_block : (b : ℕ) → b < (blocks N low).count → (r : Bool) → rel z b ≡ r → v (cond r (tally (rel z) b) 1040) ≡ g (cond r (tally (rel z) b) 1040)
        in_block b h true q = v_low (tally (rel z) b) (omega (arith, Q.few, tally_past (rel z) b (blocks N low).count h q))
        in_block b h false q = v_zero

        v_input : (p : ℕ) → p < all_pins N → branch_of N p < N.inputs → v (get_or good p 0) ≡ g (get_or good p 0)
        v_input p h i = ap v (Q.input_slot p h i) ∙ in_block ((blocks N low).block p) ((counted N low Q.lowest).in_block p h i) (rel z ((blocks N low).block p)) refl ∙ ap g (sym (Q.input_slot p h i))

        sees_same : (p : ℕ) → p < all_pins N → into_pad N p ≡ false → (branch_of N p < N.inputs → e (get_or good p 0) ≡ cond (eqb (branch_of N p) x) (eqb s 1) (g (get_or good p 0)))
            → (at_pins N (stuck input_fault)).pin p (v (get_or good p 0)) ≡ e (get_or good p 0)
        sees_same p h off k = elim (dec_lt (branch_of N p) N.inputs) [
          | yes i ↦
              at_branch N sound ranks (stuck input_fault) input_off p (v (get_or good p 0)) h i
              ∙ ap (cond (eqb (branch_of N p) x) (eqb s 1)) (v_input p h i)
              ∙ sym (k i)
          | no i ↦
              let (j, c, q) = names_cell p h off i in
              at_other N (stuck input_fault) p (v (get_or good p 0)) i
              ∙ ap (λ t. cond t (eqb s 1) (v (get_or good p 0))) (ne_eqb (N.net p) x (λ y. omega arith))
              ∙ ap v (Q.cell_slot p j h i q)
              ∙ v_cell j c
              ∙ ap e (sym (Q.cell_slot p j h i q))
        ]

        Rv : (j : ℕ) → j < N.cells → ¬ (source N (N.inputs + j) < N.inputs) → in_cone firsts cone z j ≡ true → v (16 + j) ≡ made N firsts (λ p. (at_pins N (stuck input_fault)).pin p (v (get_or good p 0))) j
        Rv j c np i = v_cell j c ∙ Re.cell j c (λ y. omega arith) i ∙ made_same _ _ j c (λ p o. sym (sees_same p (pin_in N j p o) (outside N sound j p o np) (T.cell j p i o)))

  -- ---- any fault, by what it decides the pins to: a run of its own

  module _ (f : Lines) (decided faulty : List ℕ) (D : Decided N f decided) (H : (p : ℕ) → p < all_pins N → get_or faulty p 0 ≡ fault_slot (get_or decided p 0) (get_or good p 0)) (m : ℕ)
      (g : ℕ → Bool) (Ag : Start (width (blocks N low) rel z) m g) (Rg : Rules N firsts cone z N.cells (λ p. g (get_or good p 0)) g) where
    pub run_lane : (e : ℕ → Bool) → Start (width (blocks N low) rel z) m e → e 1041 ≡ true → Rules N firsts cone z N.cells (λ p. e (get_or faulty p 0)) e
        → Tried N (blocks N low) f rel z m ↔ (xor (g (get_or good (out_pin N z) 0)) (e (get_or faulty (out_pin N z) 0)) ≡ true)
    run_lane e Ae one Re =
        tried_xor f m (g (get_or good (out_pin N z) 0)) (e (get_or faulty (out_pin N z) 0)) (good_sees f m g Ag Rg)
        (λ r X. faulty_sees f m e Ae (λ j c _ i. Re.cell j c (λ y. omega arith) i ∙ made_same _ _ j c (λ p o. pin_is p (pin_in N j p o))) r X ∙ sym (pin_is (out_pin N z) (omega (arith, Q.output))))
      where
        constant : (d b : ℕ) → e (fault_slot d b) ≡ decided_to d (e b)
        constant d b = elim (dec_lt d 2) [
          | yes l ↦ elim (ℕ_discrete d 1) [
            | yes q ↦ rw q one
            | no k ↦ let q : d ≡ 0 = omega arith in rw q Ae.zeros
          ]
          | no k ↦ rw (le-ltb d 2 (omega arith)) refl
        ]

        pin_is : (p : ℕ) → p < all_pins N → e (get_or faulty p 0) ≡ (at_pins N f).pin p (e (get_or good p 0))
        pin_is p h = ap e (H p h) ∙ constant (get_or decided p 0) (get_or good p 0) ∙ sym (D p h (e (get_or good p 0)))
