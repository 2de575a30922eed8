-- A netlist with no loop has an order of its nets in which each cell comes after what its pins name.
use Prim.Native.Nat.{ℕ, zero, suc, ◌+◌, ◌≤◌, ◌<◌}
use mathlib.Core.Path.{◌≡◌, refl, sym, subst}
use mathlib.Core.Logic.{◌⊎◌, inl, inr, ◌≢◌}
use native.Mathlib.Omega.{arith}
use native.Mathlib.Decide.{dec_le, ℕ_discrete}
use Rattle.chip.specs.Netlist.{Netlist, PinOf, all_pins}
use Rattle.chip.specs.Class.{Feeds, direct, via, LoopFree}
use Rattle.chip.proofs.Basics.{Ranked, pin_in}
use Rattle.chip.proofs.Decide.{map_dec, dec_and, find, dec_pin}

-- x, and v in the place of n
unfoldable pub pick : (n v x : ℕ) → Dec (x ≡ n) → ℕ
pick n v x (yes _) = v
pick n v x (no _) = x

pub pick_low : (n v x : ℕ) (e : Dec (x ≡ n)) → x < suc n → v < suc n → x ≢ v → pick n v x e < n
unfolding pick
pick_low n v x (yes e) a b g = omega arith
pick_low n v x (no e) a b g = omega arith

pub pick_same : (n v x y : ℕ) (e : Dec (x ≡ n)) (e' : Dec (y ≡ n)) → x ≢ v → y ≢ v → pick n v x e ≡ pick n v y e' → x ≡ y
unfolding pick
pick_same n v x y (yes e) (yes e') g g' q = omega arith
pick_same n v x y (yes e) (no e') g g' q = omega arith
pick_same n v x y (no e) (yes e') g g' q = omega arith
pick_same n v x y (no e) (no e') g g' q = q

-- Two of more than n numbers below n are equal.
pub pigeons : (n k : ℕ) (f : ℕ → ℕ) → n < k → ((i : ℕ) → i < k → f i < n) → (a : ℕ) × (b : ℕ) × (a < b) × (b < k) × (f a ≡ f b)
pigeons zero k f l h = absurd (omega (arith, h 0 (omega arith)))
pigeons (suc n) zero f l h = absurd (omega arith)
pigeons (suc n) (suc k) f l h =
    elim (find (λ a. f a ≡ f k) k (λ a _. ℕ_discrete (f a) (f k))) [
      | yes s ↦ (s.0, k, s.1, omega arith, s.2)
      | no g ↦
          let g' : (i : ℕ) → i < k → f i ≢ f k = λ i m e. g (i, m, e) in
          let low : (i : ℕ) → i < k → pick n (f k) (f i) (ℕ_discrete (f i) n) < n =
          λ i m. pick_low n (f k) (f i) (ℕ_discrete (f i) n) (h i (omega arith)) (h k (omega arith)) (g' i m) in
          let (a, b, m, o, e) = pigeons n k (λ i. pick n (f k) (f i) (ℕ_discrete (f i) n)) (omega arith) low in
          (a, b, m, omega arith, pick_same n (f k) (f a) (f b) (ℕ_discrete (f a) n) (ℕ_discrete (f b) n) (g' a (omega arith)) (g' b o) e)
    ]

-- what is fed is the net of a cell
pub fed_cell : {N : Netlist} {m n : ℕ} → Feeds N m n → (j : ℕ) × (j < N.cells) × (n ≡ N.inputs + j)
fed_cell (direct {j = j} o) = (j, o.cell, refl)
fed_cell (via {j = j} f o) = (j, o.cell, refl)

-- and feeding goes on
pub feeds_on : {N : Netlist} {m n t : ℕ} → Feeds N m n → Feeds N n t → Feeds N m t
feeds_on f (direct o) = via f o
feeds_on f (via g o) = via (feeds_on f g) o

-- k cells in a row, each with a pin that names the next one's net, from net n back
pub data Chain (N : Netlist) : ℕ → ℕ → Type 0 where
  stop : {n : ℕ} → Chain N n 0
  more : {n j p k : ℕ} → n ≡ N.inputs + j → PinOf N j p → Chain N (N.net p) k → Chain N n (suc k)

module _ (N : Netlist) where
  pub nth : {n k : ℕ} → Chain N n k → ℕ → ℕ
  nth stop i = 0
  nth (more {j = j} e o c) zero = j
  nth (more {j = j} e o c) (suc i) = nth c i

  pub nth_cell : {n k : ℕ} (c : Chain N n k) (i : ℕ) → i < k → nth c i < N.cells
  unfolding nth
  nth_cell stop i l = absurd (omega arith)
  nth_cell (more e o c) zero l = o.cell
  nth_cell (more e o c) (suc i) l = nth_cell c i (omega arith)

  -- the cells of a chain feed the net that it starts at
  pub head : {n k : ℕ} (c : Chain N n k) (i : ℕ) → i < k → (N.inputs + nth c i ≡ n) ⊎ Feeds N (N.inputs + nth c i) n
  unfolding nth
  head stop i l = absurd (omega arith)
  head (more e o c) zero l = inl (sym e)
  head (more {j = j} {p = p} e o c) (suc i) l =
      elim (head c i (omega arith)) [
        | inl q ↦ inr (subst (Feeds N _) (sym e) (rw q (direct o)))
        | inr q ↦ inr (subst (Feeds N _) (sym e) (via q o))
      ]

  -- and one another
  pub feeds : {n k : ℕ} (c : Chain N n k) (a b : ℕ) → a < b → b < k → Feeds N (N.inputs + nth c b) (N.inputs + nth c a)
  unfolding nth
  feeds stop a b l m = absurd (omega arith)
  feeds (more e o c) a zero l m = absurd (omega arith)
  feeds (more {j = j} e o c) zero (suc b) l m =
      elim (head c b (omega arith)) [ inl q ↦ rw q (direct o) | inr q ↦ via q o ]
  feeds (more e o c) (suc a) (suc b) l m = feeds c a b (omega arith) (omega arith)

  -- A chain longer than there are cells has a loop.
  pub loops : {n k : ℕ} → Chain N n k → N.cells < k → (m : ℕ) × Feeds N m m
  loops {k = k} c l =
      let (a, b, i, m, e) = pigeons N.cells k (nth c) l (nth_cell c) in
      (N.inputs + nth c b, subst (λ i. Feeds N (N.inputs + nth c b) (N.inputs + i)) e (feeds c a b i m))

  pub bound : LoopFree N → {n k : ℕ} → Chain N n k → k ≤ N.cells
  bound free {n} {k} c =
      elim (dec_le k N.cells) [
        | yes l ↦ l
        | no g ↦ let (m, q) = loops c (omega arith) in absurd (free m q)
      ]

  -- A set of cells each of which has a pin that names another of the set has a loop: what an ordering that stops short has found.
  pub stuck : (P : ℕ → Type 0) → ((j : ℕ) → P j → (p : ℕ) × (i : ℕ) × PinOf N j p × (N.net p ≡ N.inputs + i) × P i) → (j : ℕ) → P j → (m : ℕ) × Feeds N m m
  stuck P next j s = loops (long (suc N.cells) j s (N.inputs + j) refl) (omega arith)
    where
      long : (k j : ℕ) → P j → (n : ℕ) → n ≡ N.inputs + j → Chain N n k
      long zero j s n e = stop
      long (suc k) j s n e = let (p, i, o, q, s') = next j s in more e o (long k i s' (N.net p) q)

  -- the longest chain from a net
  pub undo : {n k : ℕ} → Chain N n (suc k) → (j : ℕ) × (j < N.cells) × ((n ≡ N.inputs + j) × ((p : ℕ) × (p < all_pins N) × (PinOf N j p × Chain N (N.net p) k)))
  undo (more {j = j} {p = p} e o c) = (j, o.cell, (e, (p, pin_in N j p o, (o, c))))

  pub redo : {n k : ℕ} → (j : ℕ) × (j < N.cells) × ((n ≡ N.inputs + j) × ((p : ℕ) × (p < all_pins N) × (PinOf N j p × Chain N (N.net p) k))) → Chain N n (suc k)
  redo s = more s.2.0 s.2.1.2.0 s.2.1.2.1

  pub dec_chain : (k n : ℕ) → Dec (Chain N n k)
  dec_chain zero n = yes stop
  dec_chain (suc k) n =
      map_dec redo undo
      (find _ N.cells λ j c. dec_and (ℕ_discrete n (N.inputs + j)) λ _. find _ (all_pins N) λ p _. dec_and (dec_pin N j p c) λ _. dec_chain k (N.net p))

  pub longest : (n k : ℕ) → (r : ℕ) × (r ≤ k) × Chain N n r × ((m : ℕ) → m ≤ k → Chain N n m → m ≤ r)
  longest n zero = (0, omega arith, stop, λ m l _. l)
  longest n (suc k) =
      elim (dec_chain (suc k) n) [
        | yes c ↦ (suc k, omega arith, c, λ m l _. l)
        | no g ↦
            let (r, l, c, most) = longest n k in
            (r, omega arith, c, λ m l c. elim (ℕ_discrete m (suc k)) [ yes e ↦ absurd (g (rw e at c)) | no e ↦ most m (omega arith) c ])
      ]

  pub ranked : LoopFree N → Ranked N
  ranked free =
      record {
        rank = λ n. (longest n N.cells).0;
        below = λ j p o.
            let (r, l, c, most) = longest (N.net p) N.cells in
            let c' : Chain N (N.inputs + j) (suc r) = more refl o c in
            (longest (N.inputs + j) N.cells).3 (suc r) (bound free c') c';
        top = N.cells;
        under = λ n _. (longest n N.cells).1;
      }

  -- no rank of it passes the number of cells
  pub ranked_low : (free : LoopFree N) (n : ℕ) → (ranked free).rank n ≤ N.cells
  unfolding ranked
  ranked_low free n = (longest n N.cells).1

-- and an order leaves no loop
pub rising : (N : Netlist) (R : Ranked N) {m n : ℕ} → Feeds N m n → R.rank m < R.rank n
rising N R (direct {j = j} {p = p} o) = R.below j p o
rising N R (via {j = j} {p = p} q o) = omega (arith, rising N R q, R.below j p o)

pub loop_free : (N : Netlist) → Ranked N → LoopFree N
loop_free N R n q = omega (arith, rising N R q)
