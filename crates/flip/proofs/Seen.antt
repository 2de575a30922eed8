-- Slots that obey the cells' rules in one lane hold at the output what any run of the direct circuit shows there.
use Prim.Native.Nat.{ℕ, ◌+◌, ◌-◌, ◌<◌}
use mathlib.Core.Path.{◌≡◌, refl, sym, ap, ◌∙◌}
use mathlib.Core.Logic.{inl, inr, ◌≢◌}
use mathlib.Core.Bool.{Bool, true, false, cond, ◌&&◌}
use mathlib.Core.List.{List}
use native.Mathlib.Omega.{arith}
use native.Mathlib.Decide.{dec_lt}
use lib.ListN.{get_or}
use Rattle.chip.specs.Netlist.{Netlist, PinOf, first_pin, out_pin, all_pins, gate}
use Rattle.chip.specs.Inner.Limits.{Sound}
use Rattle.chip.specs.Pads.{source, into_pad, branch_of}
use Rattle.chip.specs.Class.{Reach, on, blocks, tally, delay}
use Rattle.chip.specs.Inner.Direct.{direct_net, direct}
use Rattle.chip.specs.Faults.{Lines, Run, ones, sees}
use Rattle.chip.specs.Search.{digit, width, pattern}
use Rattle.chip.proofs.Basics.{Ranked, Counted, gate_flat, net_cases, pin_in, reach_in, first_pin_lem}
use Rattle.chip.proofs.LookBack.{Back, makes_of, run_back}
use Rattle.chip.proofs.Transforming.{at_out}
use Rattle.chip.proofs.Pads.{branch_is, source_input}
use Rattle.chip.proofs.Direct.{direct_branch, direct_cell, direct_cases, direct_sound, direct_ranked, direct_within, from_direct, direct_outside}
use Rattle.chip.proofs.Blocks.{counted, tally_past}
use Rattle.chip.proofs.Bools.{passes}
use Rattle.order.proofs.Order.{ranked_of}
use Rattle.slots.specs.Slots.{variable, in_cone}
use Rattle.flip.specs.Bed.{Bed, made, Start}

module _ (N : Netlist) (low : ℕ → ℕ) (rel : ℕ → ℕ → Bool) (z : ℕ) (firsts order cone good : List ℕ) (Q : Bed N low rel z firsts order cone good) where
  sound : Sound N
  sound = Q.limits.sound

  cnt : Counted N (blocks N low)
  cnt = counted N low Q.lowest

  abbrev ranks : Ranked N
  ranks = ranked_of Q.ordered

  variable_outer : (b : ℕ) → b < (blocks N low).count → (j : ℕ) → j < 1024 → variable (rel z) b ≢ 16 + j
  variable_outer b h j l = go (rel z b) refl
    where
      go : (r : Bool) → rel z b ≡ r → cond r (tally (rel z) b) 1040 ≢ 16 + j
      go true e q = omega (arith, Q.few, tally_past (rel z) b (blocks N low).count h e)
      go false e q = omega arith

  -- a pin that looks at a cell's slot names the cell
  pub names : (p j : ℕ) → p < all_pins N → j < 1024 → get_or good p 0 ≡ 16 + j → N.net p ≡ N.inputs + j
  names p j h l e = elim (dec_lt (branch_of N p) N.inputs) [
    | yes i ↦ absurd (variable_outer ((blocks N low).block p) (cnt.in_block p h i) j l (sym (Q.input_slot p h i) ∙ e))
    | no g ↦ elim (net_cases N (N.net p) (sound.named p h)) [
      | inl i ↦ absurd (omega (arith, Q.idle_slot p h g i))
      | inr s ↦ let (j', _, q) = s in omega (arith, Q.cell_slot p j' h g q)
    ]
  ]

  -- With lines that act at the pins only, the slots v obey the rules of all cells but pad buffers.
  module _ (m : ℕ) (v : ℕ → Bool) (A : Start (width (blocks N low) rel z) m v) (g : Lines) (gn : (n : ℕ) (b : Bool) → g.net n b ≡ b)
      (R : (j : ℕ) → j < N.cells → ¬ (source N (N.inputs + j) < N.inputs) → in_cone firsts cone z j ≡ true → v (16 + j) ≡ made N firsts (λ p. g.pin p (v (get_or good p 0))) j) where
    -- a block's slot holds its bit of the pattern
    variable_is : (b : ℕ) → b < (blocks N low).count → v (variable (rel z) b) ≡ pattern rel z m b
    variable_is b h = go (rel z b) refl
      where
        go : (r : Bool) → rel z b ≡ r → v (cond r (tally (rel z) b) 1040) ≡ (r && digit (tally (rel z) b) m)
        go true e = A.bits (tally (rel z) b) (tally_past (rel z) b (blocks N low).count h e)
        go false e = A.zeros

    -- a cell whose net a pin names that reaches the output shows what it makes of its pins
    cell_is : (p j e : ℕ) → j < N.cells → ¬ (source N (N.inputs + j) < N.inputs) → N.net p ≡ N.inputs + j → Reach N z p e
        → v (16 + j) ≡ makes_of (direct N (blocks N low)) g (λ q. v (get_or good q 0)) j
    cell_is p j e c np n r =
        let o : PinOf N j (first_pin N j) = first_pin_lem N sound j c in
        let f : get_or firsts j 0 ≡ first_pin N j = Q.first_pins j (omega arith) in
        let in-cone : in_cone firsts cone z j ≡ true = passes _ (λ q. (Q.cones (first_pin N j) (pin_in N j (first_pin N j) o)).clear z Q.output (rw f at q) (delay (N.kind j) + e, on o n r)) in
        R j c np in-cone
        ∙ ap (λ a. gate (N.kind j) (N.pins j) (ones (λ p. g.pin p (v (get_or good p 0))) a (N.pins j))) f
        ∙ sym (gate_flat (N.kind j) (N.pins j) _)

    back : Back (direct N (blocks N low)) g (λ _. pattern rel z m) z 0 (λ p e. v (get_or good p 0))
    back =
        record {
          input = λ p e i r.
              let h : p < all_pins N = reach_in (direct N (blocks N low)) z r in
              elim (dec_lt (branch_of N p) N.inputs) [
                | yes x ↦
                    ap v (Q.input_slot p h x)
                    ∙ variable_is ((blocks N low).block p) (cnt.in_block p h x)
                    ∙ ap (pattern rel z m) (sym (direct_branch N (blocks N low) p x))
                    ∙ sym (gn (direct_net N (blocks N low) p) (pattern rel z m (direct_net N (blocks N low) p)))
                | no y ↦ absurd (elim (net_cases N (N.net p) (sound.named p h)) [
                  | inl x ↦
                      let out : into_pad N p ≡ false = direct_outside N sound ranks (blocks N low) cnt z r in
                      y (omega (arith, branch_is N p out, source_input N (N.net p) x))
                  | inr s ↦ omega (arith, direct_cell N (blocks N low) p s.0 y s.2)
                ])
              ];
          cell = λ p j e c n r.
              let h : p < all_pins N = reach_in (direct N (blocks N low)) z r in
              let y : ¬ (branch_of N p < N.inputs) = λ x. absurd (omega (arith, direct_branch N (blocks N low) p x, cnt.in_block p h x)) in
              let own : N.net p ≡ N.inputs + j = elim (direct_cases N sound ranks (blocks N low) cnt p h) [
                | inl x ↦ absurd (omega arith)
                | inr s ↦ let (_, _, q, w) = s in omega (arith, q, w)
              ] in
              let out : into_pad N p ≡ false = direct_outside N sound ranks (blocks N low) cnt z r in
              let (e', r') = from_direct N sound ranks (blocks N low) cnt z r in
              ap v (Q.cell_slot p j h y own)
              ∙ cell_is p j e' c (λ l. y (rw (branch_is N p out, own) l)) own r'
              ∙ sym (gn ((blocks N low).count + j) (makes_of (direct N (blocks N low)) g (λ q. v (get_or good q 0)) j));
        }

    -- the output's pin sees what any run shows there
    pub lane_sees : (r : ℕ → ℕ → Bool) → Run (direct N (blocks N low)) g (λ _. pattern rel z m) r
        → sees (direct N (blocks N low)) g r 0 (out_pin N z) ≡ g.pin (out_pin N z) (v (get_or good (out_pin N z) 0))
    lane_sees r X =
        let T = direct N (blocks N low) in
        let S = direct_sound N sound ranks (blocks N low) cnt in
        let K = direct_ranked N sound ranks (blocks N low) cnt in
        let W = direct_within N (blocks N low) in
        let e : v (get_or good (out_pin N z) 0) ≡ r (direct_net N (blocks N low) (out_pin N z)) (0 - 0) =
        at_out T S K 0 W g (λ _. pattern rel z m) z 0 (omega arith) Q.output _ _ back (run_back T S K g (λ _. pattern rel z m) z 0 0 W (omega arith) r X) in
        ap (g.pin (out_pin N z)) (sym e)
