-- Cells put on a list one by one, each once.
use Prim.Native.Nat.{ℕ, suc, ◌+◌, ◌-◌, ◌≤◌, ◌<◌}
use mathlib.Core.Path.{◌≡◌, sym, ◌∙◌}
use native.Mathlib.Omega.{arith}
use native.Mathlib.Decide.{dec_lt, ℕ_discrete}
use mathlib.Core.List.{List}
use lib.ListN.{length, get_or, set, length-set}
use lib.Seq.{get_or-set_same, get_or-set_other}
use Rattle.chip.proofs.Loops.{pigeons}
use Rattle.order.specs.Placed.{Listed, FirstLeft}

-- entry k of the list, with j behind the n that are on it
unfoldable entry : (list : List ℕ) (j n k : ℕ) → Dec (k ≡ n) → ℕ
entry list j n k (yes _) = j
entry list j n k (no _) = get_or list k 0

module _ {c : ℕ} {list places : List ℕ} {n : ℕ} (L : Listed c list places n) where
  entry_low : (j k : ℕ) (d : Dec (k ≡ n)) → j < c → k < suc n → entry list j n k d < c
  unfolding entry
  entry_low j k (yes e) h l = h
  entry_low j k (no g) h l = L.cell k (omega arith)

  entry_once : (j a b : ℕ) (d : Dec (a ≡ n)) (d' : Dec (b ≡ n)) → get_or places j 0 ≡ 0 → a < b → b < suc n → entry list j n a d ≡ entry list j n b d' → ⊥
  unfolding entry
  entry_once j a b (yes e) d' z l m q = omega arith
  entry_once j a b (no g) (yes e) z l m q = let s : get_or places j 0 ≡ suc a = rw q at (L.once a (omega arith)) in omega arith
  entry_once j a b (no g) (no g') z l m q =
      let s : get_or places (get_or list b 0) 0 ≡ suc a = rw q at (L.once a (omega arith)) in
      omega (arith, L.once b (omega arith))

  -- a cell without a place leaves a place free
  pub free : (j : ℕ) → j < c → get_or places j 0 ≡ 0 → n < c
  free j l z = elim (dec_lt n c) [
    | yes h ↦ h
    | no g ↦
        let (a, b, m, h, q) = pigeons c (suc n) (λ k. entry list j n k (ℕ_discrete k n)) (omega arith) (λ k h. entry_low j k (ℕ_discrete k n) l h) in
        absurd (entry_once j a b (ℕ_discrete a n) (ℕ_discrete b n) z m h q)
  ]

  -- with all places taken each cell has one
  pub full : c ≤ n → (j : ℕ) → j < c → 0 < get_or places j 0
  full h j l = elim (dec_lt 0 (get_or places j 0)) [ yes m ↦ m | no g ↦ absurd (omega (arith, free j l (omega arith))) ]

  -- with a place free some cell has none
  pub left : n < c → (r : ℕ) → FirstLeft c places r → r < c
  left h r F = elim (dec_lt r c) [
    | yes l ↦ l
    | no g ↦
        let some : (j : ℕ) → j < c → 0 < get_or places j 0 = λ j l. F.below j (omega arith) in
        let (a, b, m, l, q) = pigeons n c (λ j. get_or places j 0 - 1) h (λ j l. omega (arith, some j l, (L.stands j l (some j l)).0)) in
        let e : a ≡ b = sym (L.stands a (omega arith) (some a (omega arith))).1 ∙ rw q (L.stands b l (some b l)).1 in
        absurd (omega arith)
  ]

  -- A cell without a place takes the next one: the others stay where they are.
  module _ (few : c ≤ 1024) (j : ℕ) (l : j < c) (z : get_or places j 0 ≡ 0) where
    pub old : (k : ℕ) → k < n → get_or (set list n j) k 0 ≡ get_or list k 0
    old k b = get_or-set_other list n k j 0 (λ e. omega arith)

    pub new : get_or (set list n j) n 0 ≡ j
    new = get_or-set_same list n j 0 (omega (arith, free j l z, L.entries))

    pub other : (h : ℕ) → (h ≡ j → ⊥) → get_or (set places j (n + 1)) h 0 ≡ get_or places h 0
    other h g = get_or-set_other places j h (n + 1) 0 g

    pub mark : get_or (set places j (n + 1)) j 0 ≡ n + 1
    mark = get_or-set_same places j (n + 1) 0 (omega (arith, L.marks))

    stand : (h : ℕ) → h < c → 0 < get_or (set places j (n + 1)) h 0 → Dec (h ≡ j) → (get_or (set places j (n + 1)) h 0 ≤ n + 1) × (get_or (set list n j) (get_or (set places j (n + 1)) h 0 - 1) 0 ≡ h)
    stand h b m (yes e) = let q : n + 1 - 1 ≡ n = omega arith in rw (e, mark, q) (omega arith, new)
    stand h b m (no g) =
        let b' : 0 < get_or places h 0 = rw (other h g) at m in
        let (d, e) = L.stands h b b' in
        rw (other h g) (omega arith, old (get_or places h 0 - 1) (omega arith) ∙ e)

    pub listed_more : Listed c (set list n j) (set places j (n + 1)) (n + 1)
    listed_more =
        record {
          entries = simp length-set L.entries;
          marks = simp length-set L.marks;
          few = omega (arith, free j l z);
          cell = λ k m. elim (dec_lt k n) [ yes b ↦ rw (old k b) (L.cell k b) | no g ↦ let e : k ≡ n = omega arith in rw (e, new) l ];
          once = λ k m. elim (dec_lt k n) [
            | yes b ↦ rw (old k b) (other (get_or list k 0) (λ e. omega (arith, rw e at (L.once k b))) ∙ L.once k b)
            | no g ↦ let e : k ≡ n = omega arith in rw (e, new, mark) (omega arith)
          ];
          stands = λ h b m. stand h b m (ℕ_discrete h j);
        }

-- a table of zeros lists no cell
pub none_listed : (c : ℕ) (list places : List ℕ) → length list ≡ 1024 → length places ≡ 1024 → ((j : ℕ) → j < c → get_or places j 0 ≡ 0) → Listed c list places 0
none_listed c list places d e z =
    record {
      entries = d;
      marks = e;
      few = omega arith;
      cell = λ k l. absurd (omega arith);
      once = λ k l. absurd (omega arith);
      stands = λ j l m. absurd (omega (arith, z j l));
    }
