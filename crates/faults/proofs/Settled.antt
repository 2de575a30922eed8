-- What a fault decides the nets to, cell by cell in their order, and then the pins.
use Prim.Native.Nat.{ℕ, suc, ◌+◌, ◌-◌, ◌≤◌, ◌<◌}
use mathlib.Core.Path.{◌≡◌, sym, ap, ◌∙◌}
use mathlib.Core.Logic.{inl, inr, ◌≢◌}
use mathlib.Core.Bool.{Bool, true, false, cond}
use mathlib.Core.List.{List}
use native.Mathlib.Omega.{arith}
use native.Mathlib.Decide.{ℕ_discrete}
use lib.Dec.{ltb}
use lib.ListN.{length, get_or, set, length-set}
use lib.Seq.{get_or-set_same, get_or-set_other}
use Rattle.chip.specs.Netlist.{Netlist, first_pin}
use Rattle.chip.specs.Inner.Limits.{InLimits}
use Rattle.chip.specs.Pads.{is_buf, branch_of}
use Rattle.chip.specs.Faults.{Lines}
use Rattle.chip.specs.Inner.Direct.{through, comes}
use Rattle.chip.proofs.Bools.{fails}
use Rattle.chip.proofs.Basics.{net_cases, first_pin_lem}
use Rattle.chip.proofs.Pads.{buf_is, kind_buf}
use Rattle.chip.proofs.Direct.{through_input, through_buf, through_other}
use Rattle.order.specs.Order.{Ordered}
use Rattle.faults.specs.Decided.{decided_to, DecidedNets}

-- the inputs and the first t cells of the order are decided, with t or more steps back, and the other cells have what their nets make of a value
pub record Settled (N : Netlist) (f : Lines) (order : List ℕ) (t : ℕ) (table : List ℕ) : Type 0 where
  pub long : length table ≡ 1088
  pub input : (x : ℕ) → x < N.inputs → (b : Bool) → f.net x b ≡ decided_to (get_or table x 0) b
  pub cell : (m k : ℕ) → m < t → t ≤ k → (b : Bool) → through N f k (N.inputs + get_or order m 0) b ≡ decided_to (get_or table (N.inputs + get_or order m 0) 0) b
  pub rest : (m : ℕ) → t ≤ m → m < N.cells → (b : Bool) → f.net (N.inputs + get_or order m 0) b ≡ decided_to (get_or table (N.inputs + get_or order m 0) 0) b

module _ (N : Netlist) (L : InLimits N) (f : Lines) (order : List ℕ) (O : Ordered N order) (t : ℕ) (table : List ℕ) (K : Settled N f order t table) (h : t < N.cells) where
  pub cell_low : get_or order t 0 < N.cells
  cell_low = O.cell t h

  -- what feeds the cell is decided already
  fed_known : (k : ℕ) → t ≤ k → (b : Bool) → through N f k (N.net (first_pin N (get_or order t 0))) b ≡ decided_to (get_or table (N.net (first_pin N (get_or order t 0))) 0) b
  fed_known k l b = elim (O.after t (first_pin N (get_or order t 0)) h (first_pin_lem N L.sound (get_or order t 0) cell_low)) [
    | inl i ↦ through_input N f k _ b i ∙ K.input _ i b
    | inr s ↦ let (m, a, q) = s in rw q (K.cell m k a l b)
  ]

  apart : (m : ℕ) → ¬ (get_or order m 0 ≡ get_or order t 0) → ¬ (m ≡ t)
  apart m g q = g (ap (λ (i : ℕ). get_or order i 0) q)

  -- a cell that is no BUF shows what its net makes of its value
  pub settled_skip : N.kind (get_or order t 0) ≢ 0 → Settled N f order (t + 1) table
  settled_skip g =
      record {
        long = K.long;
        input = K.input;
        cell = λ m k l a b. elim (ℕ_discrete m t) [
          | yes q ↦ rw q (own k a b)
          | no n ↦ K.cell m k (omega arith) (omega arith) b
        ];
        rest = λ m l. K.rest m (omega arith);
      }
    where
      own : (k : ℕ) → t + 1 ≤ k → (b : Bool) → through N f k (N.inputs + get_or order t 0) b ≡ decided_to (get_or table (N.inputs + get_or order t 0) 0) b
      own k a b =
          let back : k ≡ suc (k - 1) = omega arith in
          ap (λ (k : ℕ). through N f k (N.inputs + get_or order t 0) b) back
          ∙ through_other N f (k - 1) (get_or order t 0) b (fails (is_buf N (get_or order t 0)) (λ y. g (buf_is N (get_or order t 0) y).1))
          ∙ K.rest t (omega arith) h b

  -- a BUF passes on what feeds it
  pub settled_more : N.kind (get_or order t 0) ≡ 0 → (v : ℕ)
      → ((b : Bool) → decided_to (get_or table (N.inputs + get_or order t 0) 0) (f.pin (first_pin N (get_or order t 0)) (decided_to (get_or table (N.net (first_pin N (get_or order t 0))) 0) b)) ≡ decided_to v b)
      → Settled N f order (t + 1) (set table (N.inputs + get_or order t 0) v)
  settled_more z v e =
      let room : N.inputs + get_or order t 0 < length table = omega (arith, K.long, cell_low, L.few_inputs, L.few_cells) in
      record {
        long = simp length-set K.long;
        input = λ x l b. rw (get_or-set_other table (N.inputs + get_or order t 0) x v 0 (omega arith)) (K.input x l b);
        cell = λ m k l a b. elim (ℕ_discrete (get_or order m 0) (get_or order t 0)) [
          | yes q ↦ rw (q, get_or-set_same table (N.inputs + get_or order t 0) v 0 room) (own k a b)
          | no g ↦ rw (get_or-set_other table (N.inputs + get_or order t 0) (N.inputs + get_or order m 0) v 0 (omega arith)) (K.cell m k (omega (arith, apart m g)) (omega arith) b)
        ];
        rest = λ m l c b.
            let g : get_or order m 0 ≢ get_or order t 0 = λ q. omega (arith, O.once m c, O.once t h, ap O.place q) in
            rw (get_or-set_other table (N.inputs + get_or order t 0) (N.inputs + get_or order m 0) v 0 (omega arith)) (K.rest m (omega arith) c b);
      }
    where
      buf : is_buf N (get_or order t 0) ≡ true
      buf = kind_buf N L (get_or order t 0) cell_low z

      own : (k : ℕ) → t + 1 ≤ k → (b : Bool) → through N f k (N.inputs + get_or order t 0) b ≡ decided_to v b
      own k a b =
          let back : k ≡ suc (k - 1) = omega arith in
          ap (λ (k : ℕ). through N f k (N.inputs + get_or order t 0) b) back
          ∙ through_buf N f (k - 1) (get_or order t 0) b buf
          ∙ ap (λ y. f.net (N.inputs + get_or order t 0) (f.pin (first_pin N (get_or order t 0)) y)) (fed_known (k - 1) (omega arith) b)
          ∙ K.rest t (omega arith) h (f.pin (first_pin N (get_or order t 0)) (decided_to (get_or table (N.net (first_pin N (get_or order t 0))) 0) b))
          ∙ e b

pub settled_all : (N : Netlist) (f : Lines) (order : List ℕ) → Ordered N order → (t : ℕ) (table : List ℕ) → t ≡ N.cells → Settled N f order t table → DecidedNets N f table
settled_all N f order O t table q K n l b = elim (net_cases N n l) [
  | inl i ↦ through_input N f N.cells n b i ∙ K.input n i b
  | inr s ↦
      let (j, c, e) = s in
      let (l, p) = O.placed j c in
      rw (e, ← p) (K.cell (O.place j) N.cells (omega arith) (omega arith) b)
]

-- what comes to a pin, by what the net that it names makes of its value and what it is decided to
pub pin_comes : (N : Netlist) (f : Lines) (p branch own seen : ℕ) → branch ≡ branch_of N p → ((b : Bool) → f.net (N.net p) b ≡ decided_to own b)
    → ((b : Bool) → through N f N.cells (N.net p) b ≡ decided_to seen b) → (b : Bool) → comes N f p b ≡ decided_to (cond (ltb branch N.inputs) seen own) b
unfolding comes
pin_comes N f p branch own seen e o s b = ap (λ (x : ℕ). cond (ltb x N.inputs) (through N f N.cells (N.net p) b) (f.net (N.net p) b)) (sym e) ∙ go (ltb branch N.inputs)
  where
    go : (t : Bool) → cond t (through N f N.cells (N.net p) b) (f.net (N.net p) b) ≡ decided_to (cond t seen own) b
    go true = s b
    go false = o b
