-- One chunk of 1,024 patterns more.
use Prim.Native.Nat.{ℕ, zero, suc, ◌+◌, ◌-◌, ◌*◌, ◌/◌, ◌%◌, ◌^◌, ◌<◌}
use mathlib.Core.Path.{◌≡◌, sym, ap, ◌∙◌}
use mathlib.Core.Logic.{inl, inr}
use mathlib.Core.Bool.{Bool, true, false, false≢true}
use native.Mathlib.Nat.{pow-suc}
use native.Mathlib.Omega.{arith}
use borrow.Author.Tests.{eq-eqb}
use native.Mathlib.Decide.{dec_lt}
use lib.Bits.{bit_and}
use lib.Pow.{pow_pos}
use Rattle.chip.specs.Search.{digit}
use Rattle.words.proofs.Bits.{digit_zero}
use Rattle.homes.specs.Homes.{Missed, Hit}
use Rattle.rows.proofs.Bits.{split, meet}
use Rattle.known.specs.Known.{None, Found, Known}

-- the bits of 2 ^ k - 1 are those below k
below_power : (k z : ℕ) → digit z (2 ^ k - 1) ≡ true → z < k
below_power zero z e = absurd (false≢true (sym (digit_zero z) ∙ e))
below_power (suc k) zero e = omega arith
below_power (suc k) (suc z) e =
    let half : (2 ^ suc k - 1) / 2 ≡ 2 ^ k - 1 = omega (arith, pow-suc 2 k, pow_pos k) in
    let l : z < k = below_power k z (ap (digit z) (sym half) ∙ e) in
    omega arith

ones_below : (k z : ℕ) → z < k → digit z (2 ^ k - 1) ≡ true
ones_below zero z h = absurd (omega arith)
ones_below (suc k) zero h = eq-eqb ((2 ^ suc k - 1) % 2) 1 (omega (arith, pow-suc 2 k, pow_pos k))
ones_below (suc k) (suc z) h =
    let half : (2 ^ suc k - 1) / 2 ≡ 2 ^ k - 1 = omega (arith, pow-suc 2 k, pow_pos k) in
    ap (digit z) half ∙ ones_below k z (omega arith)

module _ (Shows : ℕ → ℕ → Type 0) (g left₀ best₀ pat₀ : ℕ) where
  -- The chunks from q on: u holds the outputs of the group that are left, and lane z tells the patterns there that show the fault.
  module _ (q u left best pat left' best' pat' : ℕ) (lane : ℕ → ℕ → Bool)
      (mine : (z : ℕ) → z < 64 → digit z (bit_and left u) ≡ true → digit z g ≡ true) (all : (z : ℕ) → z < 64 → digit z (bit_and left g) ≡ true → digit z u ≡ true)
      (dark : (z x : ℕ) → z < 64 → digit z (bit_and left u) ≡ true → x < 1024 → lane z x ≡ false → ¬ Shows z (64 * q + x))
      (light : (z x : ℕ) → z < 64 → digit z (bit_and left u) ≡ true → x < 1024 → lane z x ≡ true → Shows z (64 * q + x)) where
    -- none before and none in these chunks
    further : (z : ℕ) → z < 64 → digit z (bit_and left u) ≡ true → ((m : ℕ) → m < 64 * q → ¬ Shows z m) → ((x : ℕ) → x < 1024 → lane z x ≡ false) → (m : ℕ) → m < 64 * (q + 16) → ¬ Shows z m
    further z zl zu before none m l t = elim (dec_lt m (64 * q)) [
      | yes h ↦ before m h t
      | no h ↦
          let e : 64 * q + (m - 64 * q) ≡ m = omega arith in
          dark z (m - 64 * q) zl zu (omega arith) (none (m - 64 * q) (omega arith)) (rw e t)
    ]

    missed_none : None Shows g (64 * q) left → Missed (bit_and left u) lane left best pat left' best' pat' → None Shows g (64 * (q + 16)) left
    missed_none N M z m zl d l = let w = split left g z d in let zu = meet left u z w.0 (all z zl d) in further z zl zu (λ m h. N z m zl d h) (λ x h. M.none z x zl zu h) m l

    pub known_missed : Missed (bit_and left u) lane left best pat left' best' pat' → Known Shows g (64 * q) left₀ best₀ pat₀ left best pat → Known Shows g (64 * (q + 16)) left₀ best₀ pat₀ left' best' pat'
    known_missed M (inl O) = inl (rw (M.left_same, M.best_same, M.pat_same) (record { left_same = O.left_same; best_same = O.best_same; pat_same = O.pat_same; none = missed_none O.none M }))
    known_missed M (inr F) = inr (rw (M.left_same, M.best_same, M.pat_same) (record { low = F.low; mine = F.mine; shows = F.shows; first = F.first; left_in = F.left_in; left_all = F.left_all; none = missed_none F.none M }))

    -- what stands before a hit, and after it
    hit_first : None Shows g (64 * q) left → (H : Hit q (bit_and left u) lane left left' best' pat') → (m : ℕ) → m < 64 * q + H.at → ¬ Shows H.out m
    hit_first N H m l t = elim (dec_lt m (64 * q)) [
      | yes h ↦ N H.out m H.out_low (meet left g H.out (split left u H.out H.out_in).0 (mine H.out H.out_low H.out_in)) h t
      | no h ↦
          let e : 64 * q + (m - 64 * q) ≡ m = omega arith in
          dark H.out (m - 64 * q) H.out_low H.out_in (omega (arith, H.at_low)) (H.first (m - 64 * q) (omega arith)) (rw e t)
    ]

    cut : (H : Hit q (bit_and left u) lane left left' best' pat') (z : ℕ) → digit z left' ≡ true → (digit z left ≡ true) × (z < H.out)
    cut H z d = let w = split left (2 ^ H.out - 1) z (ap (digit z) (sym H.left_is) ∙ d) in (w.0, below_power H.out z w.1)

    uncut : (H : Hit q (bit_and left u) lane left left' best' pat') (z : ℕ) → digit z left ≡ true → z < H.out → digit z left' ≡ true
    uncut H z d l = ap (digit z) H.left_is ∙ meet left (2 ^ H.out - 1) z d (ones_below H.out z l)

    hit_none : None Shows g (64 * q) left → (H : Hit q (bit_and left u) lane left left' best' pat') → None Shows g (64 * (q + 16)) left'
    hit_none N H z m zl d l =
        let w = split left' g z d in
        let c = cut H z w.0 in
        let zg = meet left g z c.0 w.1 in
        let zu = meet left u z c.0 (all z zl zg) in
        further z zl zu (λ m h. N z m zl zg h) (λ x h. H.below z x c.1 zu h) m l

    pub known_hit : Hit q (bit_and left u) lane left left' best' pat' → Known Shows g (64 * q) left₀ best₀ pat₀ left best pat → Known Shows g (64 * (q + 16)) left₀ best₀ pat₀ left' best' pat'
    known_hit H (inl O) = inr (new (λ z d. rw O.left_same at d) (λ z d. rw O.left_same d) O.none)
      where
        new : ((z : ℕ) → digit z left ≡ true → digit z left₀ ≡ true) → ((z : ℕ) → digit z left₀ ≡ true → digit z left ≡ true) → None Shows g (64 * q) left → Found Shows g (64 * (q + 16)) left₀ left' best' pat'
        new to from N = rw (H.best_is, H.pat_is) (record {
          low = H.out_low;
          mine = meet left₀ g H.out (to H.out (split left u H.out H.out_in).0) (mine H.out H.out_low H.out_in);
          shows = light H.out H.at H.out_low H.out_in H.at_low H.shows;
          first = hit_first N H;
          left_in = λ z d. let c = cut H z d in (to z c.0, c.1);
          left_all = λ z d l. uncut H z (from z d) l;
          none = hit_none N H;
        })
    known_hit H (inr F) = inr (rw (H.best_is, H.pat_is) (record {
      low = H.out_low;
      mine = meet left₀ g H.out (F.left_in H.out (split left u H.out H.out_in).0).0 (mine H.out H.out_low H.out_in);
      shows = light H.out H.at H.out_low H.out_in H.at_low H.shows;
      first = hit_first F.none H;
      left_in = λ z d. let c = cut H z d in ((F.left_in z c.0).0, c.1);
      left_all = λ z d l. uncut H z (F.left_all z d (omega (arith, (F.left_in H.out (split left u H.out H.out_in).0).1))) l;
      none = hit_none F.none H;
    }))
