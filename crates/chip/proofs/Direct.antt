-- The transformed circuit shows what the netlist's own cells show with each branch at its block: no copies need be made to run it.
use Prim.Native.Nat.{ℕ, zero, suc, ◌+◌, ◌-◌, ◌≤◌, ◌<◌}
use mathlib.Core.Path.{◌≡◌, refl, sym, ap, ◌∙◌}
use mathlib.Core.Logic.{◌⊎◌, inl, inr, ◌↔◌}
use mathlib.Core.Bool.{Bool, true, false, cond}
use native.Mathlib.Omega.{arith}
use native.Mathlib.Decide.{dec_lt}
use borrow.Author.Tests.{lt-ltb, le-ltb, le-leb, lt-leb}
use lib.Dec.{ltb, leb}
use Rattle.chip.specs.Netlist.{Netlist, PinOf, first_pin, out_pin, all_pins, gate}
use Rattle.chip.specs.Inner.Limits.{Sound}
use Rattle.chip.specs.Pads.{is_buf, fed, source, into_pad, branch_of}
use Rattle.chip.specs.Class.{Reach, here, on, delay, Within, Blocks}
use Rattle.chip.specs.Transformed.{transformed, opened, old_cell, net_for, home, copies, flat}
use Rattle.chip.specs.Faults.{Lines, Run, Shown, ones, sees, makes, good, old_net, transformed_lines}
use Rattle.chip.specs.Inner.Direct.{direct_net, direct, buf_net, through, comes, at_pins, DirectLines}
use Rattle.chip.proofs.Basics.{flat_comb, ones_same, Ranked, Counted, net_cases, pin_in, reach_in, sum_up, old_block, old_cell_net}
use Rattle.chip.proofs.Runs.{has_run}
use Rattle.chip.proofs.Pads.{Pad, itself, buffer, height, height_top, buf_low, buf_is, fed_buf, pad_source, source_pad, pad_cases, outside, out_outside, branch_is, branch_in}
use Rattle.chip.proofs.Copies.{stands, Way, way_branch, way_on, for_input, for_cell, not_copied, old_of_cell, pin_old, pin_out, home_branch, first_old, out_moved}
use Rattle.chip.proofs.Transforming.{stand_shows, transformed_sound, transformed_ranked}

-- the steps of `through`
pub through_input : (N : Netlist) (f : Lines) (k x : ℕ) (b : Bool) → x < N.inputs → through N f k x b ≡ f.net x b
through_input N f zero x b l = refl
through_input N f (suc k) x b l = cc (lt-leb N.inputs x l)

pub through_buf : (N : Netlist) (f : Lines) (k j : ℕ) (b : Bool) → is_buf N j ≡ true
    → through N f (suc k) (N.inputs + j) b ≡ f.net (N.inputs + j) (f.pin (first_pin N j) (through N f k (N.net (first_pin N j)) b))
through_buf N f k j b e =
    let m : N.inputs + j - N.inputs ≡ j = omega arith in
    let l : leb N.inputs (N.inputs + j) ≡ true = le-leb N.inputs (N.inputs + j) (omega arith) in
    cc (fed_buf N j e)

pub through_other : (N : Netlist) (f : Lines) (k j : ℕ) (b : Bool) → is_buf N j ≡ false → through N f (suc k) (N.inputs + j) b ≡ f.net (N.inputs + j) b
through_other N f k j b e =
    let m : N.inputs + j - N.inputs ≡ j = omega arith in
    cc (le-leb N.inputs (N.inputs + j) (omega arith))

pub through_good : (N : Netlist) (k n : ℕ) (b : Bool) → through N good k n b ≡ b
through_good N zero n b = refl
through_good N (suc k) n b = go (buf_net N n) (through_good N k (fed N n) b)
  where
    go : (t : Bool) → through N good k (fed N n) b ≡ b → cond t (through N good k (fed N n) b) b ≡ b
    go true e = e
    go false e = refl

comes_good : (N : Netlist) (p : ℕ) (b : Bool) → comes N good p b ≡ b
unfolding comes
comes_good N p b = go (ltb (branch_of N p) N.inputs) (through_good N N.cells (N.net p) b)
  where
    go : (t : Bool) → through N good N.cells (N.net p) b ≡ b → cond t (through N good N.cells (N.net p) b) b ≡ b
    go true e = e
    go false e = refl

pub direct_good : (N : Netlist) → DirectLines N good good
direct_good N = record { net = λ n b. refl; pin = λ p b _. sym (comes_good N p b) }

-- the nets of the direct circuit
pub direct_branch : (N : Netlist) (B : Blocks) (p : ℕ) → branch_of N p < N.inputs → direct_net N B p ≡ B.block p
unfolding direct_net
direct_branch N B p l = cc (lt-ltb (branch_of N p) N.inputs l)

pub direct_cell : (N : Netlist) (B : Blocks) (p j : ℕ) → ¬ (branch_of N p < N.inputs) → N.net p ≡ N.inputs + j → direct_net N B p ≡ B.count + j
unfolding direct_net
direct_cell N B p j g q =
    let m : N.net p - N.inputs ≡ j = omega arith in
    cc (le-ltb (branch_of N p) N.inputs (omega arith), le-ltb (N.net p) N.inputs (omega arith))

direct_input : (N : Netlist) (B : Blocks) (p : ℕ) → ¬ (branch_of N p < N.inputs) → N.net p < N.inputs → direct_net N B p ≡ B.first (N.net p)
unfolding direct_net
direct_input N B p g l = cc (le-ltb (branch_of N p) N.inputs (omega arith), lt-ltb (N.net p) N.inputs l)

comes_branch : (N : Netlist) (f : Lines) (p : ℕ) (b : Bool) → branch_of N p < N.inputs → comes N f p b ≡ through N f N.cells (N.net p) b
unfolding comes
comes_branch N f p b l = cc (lt-ltb (branch_of N p) N.inputs l)

comes_cell : (N : Netlist) (f : Lines) (p : ℕ) (b : Bool) → ¬ (branch_of N p < N.inputs) → comes N f p b ≡ f.net (N.net p) b
unfolding comes
comes_cell N f p b g = cc (le-ltb (branch_of N p) N.inputs (omega arith))

-- it is sound, and has an order
module _ (N : Netlist) (S : Sound N) (R : Ranked N) (B : Blocks) (cnt : Counted N B) where
  pub direct_cases : (p : ℕ) → p < all_pins N → (direct_net N B p < B.count) ⊎ ((j : ℕ) × (j < N.cells) × (N.net p ≡ N.inputs + j) × (direct_net N B p ≡ B.count + j))
  direct_cases p h = elim (dec_lt (branch_of N p) N.inputs) [
    | yes l ↦ inl (rw (direct_branch N B p l) (cnt.in_block p h l))
    | no g ↦ elim (net_cases N (N.net p) (S.named p h)) [
      | inl i ↦ inl (rw (direct_input N B p g i) (cnt.in_first (N.net p) i))
      | inr s ↦ let (j, c, q) = s in inr (j, c, q, direct_cell N B p j g q)
    ]
  ]

  pub direct_sound : Sound (direct N B)
  direct_sound = record { pinned = S.pinned; named = λ p h. elim (direct_cases p h) [ inl l ↦ omega arith | inr s ↦ let (j, c, _, q) = s in omega arith ] }

  direct_rank : ℕ → ℕ
  direct_rank n = cond (ltb n B.count) 0 (suc (R.rank (N.inputs + (n - B.count))))

  rank_block : (b : ℕ) → b < B.count → direct_rank b ≡ 0
  unfolding direct_rank
  rank_block b l = cc (lt-ltb b B.count l)

  rank_cell : (j : ℕ) → direct_rank (B.count + j) ≡ suc (R.rank (N.inputs + j))
  unfolding direct_rank
  rank_cell j = let m : B.count + j - B.count ≡ j = omega arith in cc (le-ltb (B.count + j) B.count (omega arith))

  pub direct_ranked : Ranked (direct N B)
  direct_ranked =
      record {
        rank = direct_rank;
        below = λ j p o.
            let o' : PinOf N j p = record { cell = o.cell; from = o.from; to = o.to } in
            elim (direct_cases p (pin_in N j p o')) [
              | inl l ↦ rw (rank_block (direct_net N B p) l, rank_cell j) (omega arith)
              | inr s ↦ let (i, c, n, q) = s in rw (q, rank_cell i, rank_cell j) (omega (arith, rw n at (R.below j p o')))
            ];
        top = suc R.top;
        under = λ n h. elim (net_cases (direct N B) n h) [
          | inl i ↦ rw (rank_block n i) (omega arith)
          | inr s ↦ let (j, c, q) = s in rw (q, rank_cell j) (omega (arith, R.under (N.inputs + j) (omega arith)))
        ];
      }

-- a run of the transformed circuit beside one of the direct circuit
module _ (N : Netlist) (S : Sound N) (R : Ranked N) (B : Blocks) (cnt : Counted N B) (f g : Lines) (D : DirectLines N f g) (pat : ℕ → Bool) (w u : ℕ → ℕ → Bool)
    (q : Run (transformed N B) (transformed_lines N B f) (λ _. pat) w) (r : Run (direct N B) g (λ _. pat) u) where
  passing : {n x : ℕ} → Pad N n x → (b k : ℕ) → b < B.count → B.input b ≡ x → Way N S R B b n → height N S R n ≤ k → w (net_for N B b n) 0 ≡ through N f k n (pat b)
  passing (itself {x = x} l) b k c i y h =
      let right : w b 0 ≡ f.net (old_net N B b) (pat b) = q.input b 0 c in
      cc (through_input N f k x (pat b) l, for_input N B b x l, old_block N B b c)
  passing (buffer j e a) b zero c i y h = absurd (omega (arith, buf_low N S R j e))
  passing (buffer j {x = x} e a) b (suc k) c i y h =
      let (l, jk, jp) = buf_is N j e in
      let (src, xi) = pad_source N S R (buffer j e a) in
      let pad : source N (N.inputs + j) < N.inputs = rw src xi in
      let (m, st) = stands N S R B b j c l pad (i ∙ sym src) y in
      let ih : w (net_for N B b (N.net (first_pin N j))) 0 ≡ through N f k (N.net (first_pin N j)) (pat b) =
      passing a b k c i (way_on N S R B b j pad y) (omega (arith, buf_low N S R j e)) in
      stand_shows N B f pat w q b j m jk jp st ∙ ap (λ a. f.net (N.inputs + j) (f.pin (first_pin N j) a)) ih ∙ sym (through_buf N f k j (pat b) e)

  -- what comes to a pin that does not go into a pad buffer
  at_pin : (p : ℕ) → p < all_pins N → into_pad N p ≡ false
      → ((j : ℕ) → j < N.cells → N.net p ≡ N.inputs + j → ¬ (source N (N.inputs + j) < N.inputs) → w (B.count + j) 0 ≡ f.net (N.inputs + j) (u (B.count + j) 0))
      → f.pin p (w (net_for N B (home N B p) (N.net p)) 0) ≡ g.pin p (u (direct_net N B p) 0)
  at_pin p l out ih = elim (pad_cases N S R (N.net p) (S.named p l)) [
    | inl s ↦
        let b : branch_of N p ≡ source N (N.net p) = branch_is N p out in
        let i : branch_of N p < N.inputs = rw b s in
        let bl : B.block p < B.count = cnt.in_block p l i in
        let e : w (net_for N B (B.block p) (N.net p)) 0 ≡ through N f N.cells (N.net p) (pat (B.block p)) =
        passing (source_pad N S R (N.net p) (S.named p l) s) (B.block p) N.cells bl (cnt.own p l i ∙ b) (way_branch N S R B p l i) (height_top N S R (N.net p) (S.named p l)) in
        let v : u (B.block p) 0 ≡ pat (B.block p) = r.input (B.block p) 0 bl ∙ D.net (B.block p) (pat (B.block p)) in
        cc (home_branch N B p out, direct_branch N B p i, D.pin p (u (direct_net N B p) 0) l, comes_branch N f p (u (direct_net N B p) 0) i)
    | inr t ↦
        let (j, c, n, ng) = t in
        let np : ¬ (branch_of N p < N.inputs) = λ i. ng (rw (branch_in N p i).1 i) in
        let ng' : ¬ (source N (N.inputs + j) < N.inputs) = rw n at ng in
        let e : w (B.count + j) 0 ≡ f.net (N.inputs + j) (u (B.count + j) 0) = ih j c n ng' in
        let tn : net_for N B (home N B p) (N.inputs + j) ≡ B.count + j = for_cell N B (home N B p) j (not_copied N S R B (home N B p) j ng') in
        cc (direct_cell N B p j np n, D.pin p (u (direct_net N B p) 0) l, comes_cell N f p (u (direct_net N B p) 0) np)
  ]

  cells_alike : (k j : ℕ) → R.rank (N.inputs + j) < k → j < N.cells → ¬ (source N (N.inputs + j) < N.inputs) → w (B.count + j) 0 ≡ f.net (N.inputs + j) (u (B.count + j) 0)
  cells_alike zero j l c np = absurd (omega arith)
  cells_alike (suc k) j l c np =
      let a : ℕ = first_pin N j in
      let right : w (B.count + j) 0 ≡ f.net (old_net N B (B.count + j)) (makes (transformed N B) (transformed_lines N B f) w 0 j) =
      q.comb j 0 (omega arith) (flat_comb (N.kind (old_cell N B j))) in
      let left : u (B.count + j) 0 ≡ g.net (B.count + j) (makes (direct N B) g u 0 j) = r.comb j 0 c (flat_comb (N.kind j)) in
      let pin : (i : ℕ) → i < N.pins j → sees (transformed N B) (transformed_lines N B f) w 0 (a + i) ≡ sees (direct N B) g u 0 (a + i) =
      λ i b.
      let o : PinOf N j (a + i) = record { cell = c; from = omega arith; to = omega arith } in
      let low : a + i < out_pin N 0 = omega (arith, sum_up N.pins (suc j) N.cells c) in
      let (po, pn) = pin_old N B (a + i) low in
      let s : f.pin (a + i) (w (net_for N B (home N B (a + i)) (N.net (a + i))) 0) ≡ g.pin (a + i) (u (direct_net N B (a + i)) 0) =
      at_pin (a + i) (pin_in N j (a + i) o) (outside N S j (a + i) o np) (λ m c' n np'. cells_alike k m (omega (arith, R.below j (a + i) o, ap R.rank n)) c' np') in
      cc in
      let count : ones (sees (transformed N B) (transformed_lines N B f) w 0) a (N.pins j) ≡ ones (sees (direct N B) g u 0) a (N.pins j) = ones_same (sees (transformed N B) (transformed_lines N B f) w 0) (sees (direct N B) g u 0) a (N.pins j) pin in
      let fo : first_pin (opened N B) j ≡ a = first_old N B j (omega arith) in
      let oc : old_cell N B j ≡ j = old_of_cell N B j c in
      let see : ℕ → Bool = sees (transformed N B) (transformed_lines N B f) w 0 in
      let same : makes (transformed N B) (transformed_lines N B f) w 0 j ≡ makes (direct N B) g u 0 j =
      ap (λ c. gate (flat (N.kind c)) (N.pins c) (ones see (first_pin (opened N B) j) (N.pins c))) oc
      ∙ ap (λ b. gate (flat (N.kind j)) (N.pins j) (ones see b (N.pins j))) fo
      ∙ ap (gate (flat (N.kind j)) (N.pins j)) count in
      cc (old_cell_net N B j, D.net (B.count + j) (makes (direct N B) g u 0 j))

  pub same_out : (z : ℕ) → z < N.outs → sees (transformed N B) (transformed_lines N B f) w 0 (out_pin (transformed N B) z) ≡ sees (direct N B) g u 0 (out_pin N z)
  same_out z zo =
      let (po, pn) = pin_out N B S z in
      let om : out_pin (opened N B) z ≡ out_pin N z + copies N B = out_moved N S R B z in
      let out : into_pad N (out_pin N z) ≡ false = out_outside N S z in
      let e : f.pin (out_pin N z) (w (net_for N B (home N B (out_pin N z)) (N.net (out_pin N z))) 0) ≡ g.pin (out_pin N z) (u (direct_net N B (out_pin N z)) 0) =
      at_pin (out_pin N z) (omega arith) out (λ m c' n np'. cells_alike (suc (R.rank (N.inputs + m))) m (omega arith) c' np') in
      cc (home_branch N B (out_pin N z) out)

-- So a pattern shows a fault in the transformed circuit exactly if it shows it in the direct one.
pub direct_iff : (N : Netlist) → Sound N → Ranked N → (B : Blocks) → Counted N B → (f g : Lines) → DirectLines N f g → (pat : ℕ → Bool) (z : ℕ) → z < N.outs
    → Shown (transformed N B) (transformed_lines N B f) (λ _. pat) z 0 ↔ Shown (direct N B) g (λ _. pat) z 0
direct_iff N S R B cnt f g D pat z zo = (there, back)
  where
    there : Shown (transformed N B) (transformed_lines N B f) (λ _. pat) z 0 → Shown (direct N B) g (λ _. pat) z 0
    there h u u' r r' e =
        let (w, a, _) = has_run (transformed N B) good (λ _. pat) (λ _. false) (transformed_sound N S R B cnt) (transformed_ranked N S R B cnt) in
        let (w', a', _) = has_run (transformed N B) (transformed_lines N B f) (λ _. pat) (λ _. false) (transformed_sound N S R B cnt) (transformed_ranked N S R B cnt) in
        h w w' a a' (same_out N S R B cnt good good (direct_good N) pat w u a r z zo ∙ e ∙ sym (same_out N S R B cnt f g D pat w' u' a' r' z zo))

    back : Shown (direct N B) g (λ _. pat) z 0 → Shown (transformed N B) (transformed_lines N B f) (λ _. pat) z 0
    back h w w' a a' e =
        let (u, r, _) = has_run (direct N B) good (λ _. pat) (λ _. false) (direct_sound N S R B cnt) (direct_ranked N S R B cnt) in
        let (u', r', _) = has_run (direct N B) g (λ _. pat) (λ _. false) (direct_sound N S R B cnt) (direct_ranked N S R B cnt) in
        h u u' r r' (sym (same_out N S R B cnt good good (direct_good N) pat w u a r z zo) ∙ e ∙ same_out N S R B cnt f g D pat w' u' a' r' z zo)

pub pins_iff : (N : Netlist) → Sound N → Ranked N → (B : Blocks) → Counted N B → (f : Lines) (pat : ℕ → Bool) (z : ℕ) → z < N.outs
    → Shown (transformed N B) (transformed_lines N B f) (λ _. pat) z 0 ↔ Shown (direct N B) (at_pins N f) (λ _. pat) z 0
pins_iff N S R B cnt f pat z zo = direct_iff N S R B cnt f (at_pins N f) (record { net = λ n b. refl; pin = λ p b _. refl }) pat z zo

-- the direct circuit has depth 0
pub direct_flat : (N : Netlist) (B : Blocks) (z : ℕ) {p e : ℕ} → Reach (direct N B) z p e → e ≡ 0
direct_flat N B z (here h) = refl
direct_flat N B z (on {j = j} o n r) = rw (flat_comb (N.kind j)) (omega (arith, direct_flat N B z r))

pub direct_within : (N : Netlist) (B : Blocks) → Within (direct N B) 0
direct_within N B z p e i r = omega (arith, direct_flat N B z r)

-- its paths are the netlist's, and none comes from a pin into a pad buffer
module _ (N : Netlist) (S : Sound N) (R : Ranked N) (B : Blocks) (cnt : Counted N B) where
  direct_names : (q j : ℕ) → q < all_pins N → direct_net N B q ≡ B.count + j → (N.net q ≡ N.inputs + j) × ¬ (branch_of N q < N.inputs)
  direct_names q j h n = elim (direct_cases N S R B cnt q h) [
    | inl l ↦ absurd (omega arith)
    | inr s ↦
        let (i, c, m, w) = s in
        let same-cell : i ≡ j = omega (arith, w) in
        (rw same-cell at m, λ l. absurd (omega (arith, direct_branch N B q l, cnt.in_block q h l)))
  ]

  pub from_direct : (z : ℕ) {p e : ℕ} → Reach (direct N B) z p e → (d : ℕ) × Reach N z p d
  from_direct z (here h) = (0, here h)
  from_direct z (on {q = q} {j = j} o n r) =
      let (d, r') = from_direct z r in
      (delay (N.kind j) + d, on (record { cell = o.cell; from = o.from; to = o.to }) (direct_names q j (reach_in N z r') n).0 r')

  pub direct_outside : (z : ℕ) {p e : ℕ} → Reach (direct N B) z p e → into_pad N p ≡ false
  direct_outside z (here h) = out_outside N S z
  direct_outside z (on {p = p} {q = q} {j = j} o n r) =
      let out : into_pad N q ≡ false = direct_outside z r in
      let (m, g) = direct_names q j (reach_in N z (from_direct z r).1) n in
      outside N S j p (record { cell = o.cell; from = o.from; to = o.to }) (λ s. g (rw (branch_is N q out, m) s))
