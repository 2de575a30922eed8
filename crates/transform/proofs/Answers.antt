-- What is answered of a circuit that a file can hold, and what an answer with a file says of the circuit.
use Prim.Native.Nat.{ℕ, ◌+◌, ◌≤◌}
use mathlib.Core.Path.{◌≡◌, refl, subst}
use mathlib.Core.List.{List}
use native.Mathlib.Omega.{arith}
use lib.ListN.{length}
use Rattle.chip.specs.Netlist.{Netlist, all_pins}
use Rattle.chip.specs.Got.{Got, refused, got}
use Rattle.chip.specs.declared.Reason.{Reason}
use Rattle.chip.specs.Class.{Blocks}
use Rattle.chip.specs.Transformed.{copies}
use Rattle.chip.specs.File.{transformed_file}
use Rattle.chip.specs.Refusals.{Step, goes_on, Opens, unopened, opened, Short, Wrote, leaving}
use Rattle.chip.specs.Replies.{Writes, CircuitOn, TransformOn, TransformReply}
use Rattle.replies.proofs.Guards.{not_answered, not_at, passed}

-- the transformed circuit is one that a file can hold: not too many blocks, cells with the copies, pins with the copies'
pub record Writable (N : Netlist) (B : Blocks) : Type 0 where
  pub few_blocks : B.count ≤ 64
  pub few_cells : N.cells + copies N B ≤ 1024
  pub few_pins : all_pins N + copies N B ≤ 4096

module _ (N : Netlist) (B : Blocks) (entry : List ℕ) where
  -- no guard but that for the buffer's length refuses it
  pub writable_on : Writable N B → {a : Got ℕ × List ℕ}
      → Step (Short entry (length (transformed_file N B))) (leaving entry refused Reason.ShortBuffer) (Writes (transformed_file N B) entry) a → CircuitOn N B entry a
  writable_on W r =
      goes_on (λ p w. omega (arith, W.few_blocks, w.holds))
      (goes_on (λ p w. omega (arith, W.few_cells, w.holds)) (goes_on (λ p w. omega (arith, W.few_pins, w.holds)) r))

  pub writes_on : Writable N B → {exit : List ℕ} → Wrote (transformed_file N B) entry exit → CircuitOn N B entry (got (length (transformed_file N B)), exit)
  writes_on W w = writable_on W (goes_on (λ p s. omega (arith, w.room, s.holds)) (refl, w))

-- what was written is the file of a circuit that a file can hold
pub circuit_written : (N : Netlist) (B : Blocks) (entry : List ℕ) {n : ℕ} {exit : List ℕ} → CircuitOn N B entry (got n, exit)
    → Writable N B × (n ≡ length (transformed_file N B)) × Wrote (transformed_file N B) entry exit
circuit_written N B entry {n} c =
    let (blocks, c₁) = passed (λ p. not_answered) c in
    let (cells, c₂) = passed (λ p. not_answered) c₁ in
    let (pins, c₃) = passed (λ p. not_answered) c₂ in
    let (_, (e, w)) = passed (λ p. not_answered) c₃ in
    let s : ◌≡◌ {A = Got ℕ} (got n) (got (length (transformed_file N B))) = e in
    (record { few_blocks = omega (arith, not_at blocks); few_cells = omega (arith, not_at cells); few_pins = omega (arith, not_at pins) }, cc, w)

pub opened_written : (file entry : List ℕ) {n : ℕ} {exit : List ℕ} → TransformReply file entry (got n, exit)
    → (N : Netlist) × Opens file (got N) × TransformOn N entry (got n, exit)
opened_written file entry {n} {exit} r = is_opened r refl
  where
    is_opened : {a : Got ℕ × List ℕ} → TransformReply file entry a → a ≡ (got n, exit) → (N : Netlist) × Opens file (got N) × TransformOn N entry (got n, exit)
    is_opened (unopened _) e = absurd (not_answered e)
    is_opened (opened {N = N} o t) e = (N, o, subst (TransformOn N entry) e t)
