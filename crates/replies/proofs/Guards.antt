-- Guards settle a reply: if each condition has one place and the answer behind them is one, so is the reply.
use Prim.Native.Nat.{ℕ, zero, suc, ◌<◌}
use mathlib.Core.Path.{◌≡◌, refl, sym, ap, ◌∙◌}
use mathlib.Core.Logic.{◌≢◌}
use mathlib.Core.List.{List, ◌++◌}
use native.Mathlib.Omega.{arith}
use lib.ListN.{length, drop}
use Rattle.std.specs.Prelude.{Err}
use Rattle.chip.specs.Got.{Got, refused, got}
use Rattle.chip.specs.Refusals.{Step, refuses, goes_on, At, Least, Wrote}
use Rattle.chip.specs.declared.Reason.{Reason}
use Rattle.chip.specs.declared.Refusal.{Refusal}

-- a condition has one place
pub one_at : {place : ℕ} {Holds : Type 0} (p q : ℕ) → At place Holds p → At place Holds q → p ≡ q
one_at p q a b = a.there ∙ sym b.there

pub one_least : {Holds : ℕ → Type 0} (p q : ℕ) → Least Holds p → Least Holds q → p ≡ q
one_least p q a b =
    let above : ¬ (p < q) = λ l. b.none_below p l a.holds in
    let below : ¬ (q < p) = λ l. a.none_below q l b.holds in
    omega arith

-- what holds of no place at all has no lowest place, and conversely
pub not_at : {place : ℕ} {Holds : Type 0} → ((p : ℕ) → ¬ At place Holds p) → ¬ Holds
not_at {place} g h = g place (record { there = λ _. place; holds = h })

pub none_least : (Holds : ℕ → Type 0) → ((p : ℕ) → ¬ Least Holds p) → (p : ℕ) → ¬ Holds p
none_least Holds g p h = below (suc p) p (omega arith) h
  where
    below : (n q : ℕ) → q < n → ¬ Holds q
    below zero q l h = absurd (omega arith)
    below (suc n) q l h = g q (record { holds = h; none_below = λ r m. below n r (omega arith) })

-- the reply of a guard is one
pub one_step : {A : Type 0} {a b : A} {When : ℕ → Type 0} {refuse : ℕ → A} {Rest : A → Type 0} → ((p q : ℕ) → When p → When q → p ≡ q)
    → (((p : ℕ) → ¬ When p) → Rest a → Rest b → a ≡ b) → Step When refuse Rest a → Step When refuse Rest b → a ≡ b
one_step {refuse = refuse} one rest (refuses {p = p} h) (refuses {p = q} k) = ap refuse (one p q h k)
one_step one rest (refuses {p = p} h) (goes_on g _) = absurd (g p h)
one_step one rest (goes_on g _) (refuses {p = q} k) = absurd (g q k)
one_step one rest (goes_on g r) (goes_on _ s) = rest g r s

-- what a call leaves in a buffer is settled by the bytes that it writes
pub same_wrote : (bytes bytes' entry exit exit' : List ℕ) → bytes ≡ bytes' → Wrote bytes entry exit → Wrote bytes' entry exit' → exit ≡ exit'
same_wrote bytes bytes' entry exit exit' e W W' = W.now_is ∙ ap (λ s. s ++ drop (length s) entry) e ∙ sym W'.now_is

-- a refusal has one reason and one place
pub same_refusal : {A : Type 0} {r s : Reason} {p q : ℕ} {y : Got A} → y ≡ refused r p → y ≡ refused s q → (r ≡ s) × (p ≡ q)
same_refusal {A} {r} {s} {p} {q} {y} e f =
    let h : ◌≡◌ {A = Refusal} (record { reason = r; place = p }) (record { reason = s; place = q }) = cc in
    (ap (λ w. w.reason) h, ap (λ w. w.place) h)

pub same_pair : {A B : Type 0} (a b : A × B) → a.0 ≡ b.0 → a.1 ≡ b.1 → a ≡ b
same_pair a b e f = λ i. (e i, f i)

-- a refusal is no answer
pub not_answered : {A : Type 0} {e : Refusal} {v : A} {l m : List ℕ} → ◌≢◌ {A = Got A × List ℕ} (Err e, l) (got v, m)
not_answered {A} {e} {v} q =
    let s : ◌≡◌ {A = Got A} (Err e) (got v) = ap (λ w. w.0) q in
    let z : ◌≡◌ {A = ℕ} 0 1 = cc in
    omega arith

-- an answer that is no refusal of a guard has passed it
pub passed : {A : Type 0} {a : A} {When : ℕ → Type 0} {refuse : ℕ → A} {Rest : A → Type 0} → ((p : ℕ) → refuse p ≢ a) → Step When refuse Rest a → ((p : ℕ) → ¬ When p) × Rest a
passed g (refuses {p = p} _) = absurd (g p refl)
passed g (goes_on h r) = (h, r)
