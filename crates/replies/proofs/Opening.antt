-- A file opens as one thing, a netlist that is opened is within the limits, and what a call on it may be told of it is one.
use Prim.Native.Nat.{ℕ}
use mathlib.Core.Path.{◌≡◌, refl, sym, ◌∙◌, subst}
use mathlib.Core.Logic.{inl, inr, ◌≢◌}
use mathlib.Core.List.{List}
use native.Mathlib.Omega.{arith}
use native.Mathlib.Decide.{ℕ_discrete}
use Rattle.chip.specs.Netlist.{Netlist}
use Rattle.chip.specs.Inner.Limits.{InLimits}
use Rattle.chip.specs.Got.{Got, refused, got}
use Rattle.chip.specs.Format.{Parsed, read_of, chip_of}
use Rattle.chip.specs.Class.{Class23, ClassIs, TwoDepths, Prepared}
use Rattle.chip.specs.Refusals.{Step, refuses, goes_on, Is, When9, When10, When11, Opens, unread, read, Start, unopened, opened, Knowing, prepared}
use Rattle.chip.specs.declared.Reason.{Reason}
use Rattle.chip.proofs.Theorem.{one_prepared, class_23}
use Rattle.netlist.proofs.Limits.{in_limits, sound}
use Rattle.replies.proofs.Guards.{one_least, none_least, one_step, same_refusal}

pub one_file : {x y : Parsed} {s : Got Parsed} → s ≡ got x → s ≡ got y → x ≡ y
one_file e f = cc

abbrev Opened : Parsed → Got Netlist → Type 0
Opened x = Step (When9 (chip_of x)) (refused Reason.Looped) (Step (When10 (chip_of x)) (refused Reason.TooDeep) (Is (got (chip_of x))))

one_opened : (x : Parsed) {a b : Got Netlist} → Opened x a → Opened x b → a ≡ b
one_opened x = one_step one_least (λ _. one_step one_least (λ _ e f. e ∙ sym f))

pub one_opens : (file : List ℕ) {a b : Got Netlist} → Opens file a → Opens file b → a ≡ b
one_opens file (unread e) (unread f) = cc
one_opens file (unread e) (read f _) = cc
one_opens file (read e _) (unread f) = cc
one_opens file (read {x = x} {a = a} e h) (read {x = y} {a = b} f k) = one_opened x h (subst (λ w. Opened w b) (one_file f e) k)

pub same_netlist : {file : List ℕ} {N M : Netlist} → Opens file (got N) → Opens file (got M) → N ≡ M
same_netlist {file} e f = let s = one_opens file e f in cc

pub not_refused : {A : Type 0} {file : List ℕ} {N : Netlist} {r : Reason} {p : ℕ} → Opens file (refused r p) → Opens file (got N) → A
not_refused {file = file} e f =
    let s = one_opens file e f in
    let z : ◌≡◌ {A = ℕ} 0 1 = cc in
    absurd (omega arith)

-- a netlist that is opened is that of the file that was read, and within the limits
pub read_limits : (file : List ℕ) (x : Parsed) → read_of file ≡ got x → InLimits (chip_of x)
unfolding chip_of
read_limits file x e =
    let g = in_limits file x e in
    record {
      some_input = g.ins_low;
      few_inputs = g.ins_high;
      few_cells = g.cells_high;
      some_output = g.outs_low;
      few_outputs = g.outs_high;
      few_pins = omega (arith, g.nets_long, g.pins_high);
      kinds_known = g.kinds_are;
      pins_taken = g.counts_are;
      sound = sound x g;
    }

pub is_read : {file : List ℕ} {N : Netlist} → Opens file (got N) → (x : Parsed) × (read_of file ≡ got x) × (chip_of x ≡ N)
is_read {N = N} (read {x = x} e h) = (x, e, is_chip h refl)
  where
    is_chip : {a : Got Netlist} → Opened x a → a ≡ got N → chip_of x ≡ N
    is_chip (refuses _) f = cc
    is_chip (goes_on _ (refuses _)) f = cc
    is_chip (goes_on _ (goes_on _ q)) f = cc

pub opened_limits : {file : List ℕ} {N : Netlist} → Opens file (got N) → InLimits N
opened_limits {file} o = let (x, e, q) = is_read o in subst InLimits q (read_limits file x e)

-- A call on a file has one reply if the call on the netlist has one.
pub one_start : {A : Type 0} {refuse : Reason → ℕ → A} {Call : Netlist → A → Type 0} {file : List ℕ} {a b : A}
    → ((N : Netlist) → InLimits N → Call N a → Call N b → a ≡ b) → Start refuse Call file a → Start refuse Call file b → a ≡ b
one_start {file = file} one (unopened e) (unopened f) = let (h, k) = same_refusal refl (one_opens file e f) in rw (h, k) refl
one_start one (unopened e) (opened f _) = not_refused e f
one_start one (opened e _) (unopened f) = not_refused f e
one_start {Call = Call} {b = b} one (opened {N = N} e h) (opened f k) = one N (opened_limits e) h (subst (λ M. Call M b) (same_netlist f e) k)

-- the reply of a call on a file that opens as a netlist is that of the call on the netlist
pub start_is : {A : Type 0} {refuse : Reason → ℕ → A} {Call : Netlist → A → Type 0} {file : List ℕ} {N : Netlist} {a : A} → Opens file (got N) → Start refuse Call file a → Call N a
start_is o (unopened e) = not_refused e o
start_is {Call = Call} {a = a} o (opened e h) = subst (λ M. Call M a) (same_netlist e o) h

-- and the call on the netlist has one if it has one for the depth, blocks and class that the netlist has
pub one_knowing : {A : Type 0} {N : Netlist} {Call : ℕ → (ℕ → ℕ) → ℕ → A → Type 0} {a b : A}
    → ((d : ℕ) (low : ℕ → ℕ) (k : ℕ) → Prepared N d low k → Call d low k a → Call d low k b → a ≡ b) → Knowing N Call a → Knowing N Call b → a ≡ b
one_knowing {N = N} {Call = Call} {b = b} one (prepared {d = d} {low = low} {k = k} P h) (prepared {d = d'} {low = low'} {k = k'} P' h') =
    let (e, f, g) = one_prepared N d' d low' low k' k P' P in
    one d low k P h (subst (λ t. Call t low k b) e (subst (λ m. Call d' m k b) f (subst (λ c. Call d' low' c b) g h')))

-- what is known of the netlist that a reply speaks of
pub known_is : {A : Type 0} {N : Netlist} {Call : ℕ → (ℕ → ℕ) → ℕ → A → Type 0} {a : A} {d : ℕ} {low : ℕ → ℕ} {k : ℕ} → Prepared N d low k → Knowing N Call a → Call d low k a
known_is {N = N} {Call = Call} {a = a} {d = d} {low = low} {k = k} P (prepared {d = d'} {low = low'} {k = k'} P' h) =
    let (e, f, g) = one_prepared N d' d low' low k' k P' P in
    subst (λ t. Call t low k a) e (subst (λ m. Call d' m k a) f (subst (λ c. Call d' low' c a) g h))

-- no place of 11 is class 2 or 3, and conversely
pub not_uneven : {N : Netlist} {d : ℕ} {low : ℕ → ℕ} {k : ℕ} → Prepared N d low k → k ≢ 1 → (x : ℕ) → ¬ When11 N x
not_uneven {N} {k = k} P g x u =
    let t = u.holds in
    t.differ (class_23 N k P.classed g x t.left t.right t.out t.depth t.depth' t.joined t.one t.other)

pub even_class : {N : Netlist} {d : ℕ} {low : ℕ → ℕ} {k : ℕ} → Prepared N d low k → ((x : ℕ) → ¬ When11 N x) → k ≢ 1
even_class {N} {k = k} P none e = uneven P.classed
  where
    even : Class23 N
    even x p q z d d' t r s = elim (ℕ_discrete d d') [
      | yes h ↦ h
      | no g ↦ absurd (none_least (TwoDepths N) none x (record { left = p; right = q; out = z; depth = d; depth' = d'; joined = t; one = r; other = s; differ = g }))
    ]

    uneven : ¬ ClassIs N k
    uneven (inl a) = omega (arith, a.0)
    uneven (inr (inl a)) = omega (arith, a.0)
    uneven (inr (inr a)) = a.1 even
