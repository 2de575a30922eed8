-- Tables that have the kinds, the pin counts and the nets of the transformed circuit hold it.
use Prim.Native.Nat.{ℕ, ◌+◌, ◌-◌, ◌<◌}
use mathlib.Core.Path.{◌≡◌, refl, sym, ap, ◌∙◌}
use mathlib.Core.List.{List}
use native.Mathlib.Decide.{dec_lt}
use native.Mathlib.Omega.{arith}
use lib.ListN.{get_or}
use Rattle.chip.specs.Netlist.{Netlist}
use Rattle.chip.specs.Inner.Limits.{Sound}
use Rattle.chip.specs.Class.{Blocks}
use Rattle.chip.specs.Transformed.{old_cell, copies, flat, transformed}
use Rattle.chip.specs.Inner.Tables.{tabled}
use Rattle.chip.proofs.Basics.{Ranked}
use Rattle.chip.proofs.Copies.{old_of_cell, copy_kind, copy_pins}
use Rattle.chip.proofs.Twice.{Same}
use Rattle.transform.specs.Inner.New.{NewTables}

flat_0 : ◌≡◌ {A = ℕ} (flat 0) 0
unfolding flat
flat_0 = refl

pub tables_same : (N : Netlist) → Sound N → Ranked N → (B : Blocks) (kinds counts nets : List ℕ) → NewTables N B kinds counts nets
    → Same (tabled B.count (N.cells + copies N B) N.outs kinds counts nets) (transformed N B)
tables_same N S R B kinds counts nets K =
    record {
      inputs = refl;
      cells = refl;
      outs = refl;
      kind = λ j h. elim (dec_lt j N.cells) [
        | yes l ↦ K.old_kind j l ∙ ap (λ i. flat (N.kind i)) (sym (old_of_cell N B j l))
        | no g ↦
            let e : j ≡ N.cells + (j - N.cells) = omega arith in
            let c : j - N.cells < copies N B = omega arith in
            ap (λ i. get_or kinds i 0) e ∙ K.new_kind (j - N.cells) c ∙ sym flat_0 ∙ ap flat (sym (copy_kind N S R B (j - N.cells) c)) ∙ ap (λ i. flat (N.kind (old_cell N B i))) (sym e)
      ];
      pins = λ j h. elim (dec_lt j N.cells) [
        | yes l ↦ K.old_count j l ∙ ap N.pins (sym (old_of_cell N B j l))
        | no g ↦
            let e : j ≡ N.cells + (j - N.cells) = omega arith in
            let c : j - N.cells < copies N B = omega arith in
            ap (λ i. get_or counts i 0) e ∙ K.new_count (j - N.cells) c ∙ sym (copy_pins N S R B (j - N.cells) c) ∙ ap (λ i. N.pins (old_cell N B i)) (sym e)
      ];
      net = K.new_net;
    }
