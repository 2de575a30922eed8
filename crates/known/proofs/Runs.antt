-- Words that obey the cells' rules, in one lane.
use Prim.Native.Nat.{ℕ, zero, suc, ◌+◌, ◌*◌, ◌<◌}
use mathlib.Core.Path.{◌≡◌, ap, ◌∙◌}
use mathlib.Core.Bool.{Bool, true}
use mathlib.Core.List.{List}
use native.Mathlib.Omega.{arith}
use lib.ListN.{get_or}
use lib.Dec.{eqb}
use lib.Bits.{bit_and}
use Rattle.chip.specs.Inner.Tables.{tabled}
use Rattle.chip.specs.Search.{digit}
use Rattle.words.proofs.Bits.{digit_zero, digit_ones}
use Rattle.words.proofs.Lanes.{gate_lane}
use Rattle.rows.specs.Rows.{on_row}
use Rattle.rows.proofs.Bits.{meet, some_bit}
use Rattle.slots.specs.Slots.{in_cone}
use Rattle.events.specs.Events.{Live, Obeys}
use Rattle.flip.specs.Bed.{Bed, made, Start, Rules}
use Rattle.bridge.specs.Chunk.{Chunk}
use Rattle.bridge.proofs.Bridge.{lane}

-- a constant's slot
pub constant : (w q : ℕ) (goods : List ℕ) → Chunk w q goods → (v k l : ℕ) → v < 2 → k < 16 → l < 64 → lane k l goods (1040 + v) ≡ eqb v 1
constant w q goods C zero k l b kl ll = ap (digit l) (C.zeros k kl) ∙ digit_zero l
constant w q goods C (suc zero) k l b kl ll = ap (digit l) (C.ones k kl) ∙ digit_ones l ll
constant w q goods C (suc (suc v)) k l b kl ll = absurd (omega arith)

pub start_of : (w q : ℕ) (goods : List ℕ) → Chunk w q goods → (k l : ℕ) → k < 16 → l < 64 → Start w (64 * (q + k) + l) (lane k l goods)
start_of w q goods C k l kl ll = record { bits = λ s h. C.bits s k l h kl ll; zeros = ap (digit l) (C.zeros k kl) ∙ digit_zero l }

-- all places that reach an output of u, z among them, obey with some sources of the pins
pub rules_of : (i c o : ℕ) (kinds counts nets firsts order cone reach src sources : List ℕ) (low : ℕ → ℕ) (rel : ℕ → ℕ → Bool) (z u : ℕ)
    → Bed (tabled i c o kinds counts nets) low rel z firsts order cone src → digit z u ≡ true → ((t : ℕ) → t < c → get_or reach t 0 ≡ get_or cone (get_or firsts (get_or order t 0) 0) 0)
    → (vals : List ℕ) (k l : ℕ) → k < 16 → l < 64 → ((t : ℕ) → t < c → Live reach u t → Obeys kinds counts firsts sources order vals t)
    → Rules (tabled i c o kinds counts nets) firsts cone z c (λ p. lane k l vals (get_or sources p 0)) (lane k l vals)
rules_of i c o kinds counts nets firsts order cone reach src sources low rel z u Q zu M vals k l kl ll O =
    record {
      cell = λ j h d e.
          let (a, q) = Q.ordered.placed j h in
          let t : ℕ = Q.ordered.place j in
          let s : lane k l vals (16 + get_or order t 0) ≡ made (tabled i c o kinds counts nets) firsts (λ p. lane k l vals (get_or sources p 0)) (get_or order t 0) =
          ap (digit l) ((O t a (live t a (rw q e))).rule k kl)
          ∙ gate_lane (on_row sources vals k) (get_or firsts (get_or order t 0) 0) (get_or counts (get_or order t 0) 0) l ll (get_or kinds (get_or order t 0) 0) (Q.limits.pins_taken (get_or order t 0) (Q.ordered.cell t a)) in
          rw q at s;
    }
  where
    live : (t : ℕ) → t < c → in_cone firsts cone z (get_or order t 0) ≡ true → Live reach u t
    live t l e q = some_bit (bit_and (get_or reach t 0) u) z (meet (get_or reach t 0) u z (ap (digit z) (M t l) ∙ e) zu) q
