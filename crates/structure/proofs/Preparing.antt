-- The steps of preparing a chip, and that their results are a chip that is prepared.
use Prim.Native.Nat.{ℕ, ◌≤◌, ◌<◌}
use mathlib.Core.Path.{◌≡◌, refl}
use mathlib.Core.List.{List}
use native.Mathlib.Omega.{arith}
use native.Mathlib.Decide.{dec_lt}
use lib.ListN.{get_or}
use Rattle.chip.specs.Netlist.{Netlist}
use Rattle.chip.specs.Inner.Limits.{InLimits}
use Rattle.chip.specs.Inner.Tables.{FirstPins, BranchTable}
use Rattle.chip.specs.Class.{Branch, Lowest, blocks}
use Rattle.chip.proofs.Blocks.{in_block}
use Rattle.order.specs.Order.{Ordered}
use Rattle.order.proofs.Order.{order_free, ranked_of}
use Rattle.chip.proofs.Plain.{within_branches}
use Rattle.levels.specs.Branches.{Branched}
use Rattle.levels.proofs.Branches.{entry_branch}
use Rattle.blocks.specs.Labels.{Numbered}
use Rattle.blocks.proofs.Numbers.{counted_few}
use Rattle.balance.specs.Balance.{FewLabels, LowestUneven}
use Rattle.structure.specs.Inner.Shape.{OneInput, DepthFound, Evened, Classified, Shaped}
use Rattle.structure.proofs.Evenness.{blocks_own, place_11}
use Rattle.structure.proofs.ClassNumber.{class_is, reach_mask}

-- labels are few
module _ (N : Netlist) (L : InLimits N) (low : ℕ → ℕ) (K : Lowest N low) (table : List ℕ) (count : ℕ) (n : Numbered N low table count) where
  pub count_few : (blocks N low).count ≤ 4160
  unfolding blocks
  count_few = omega (arith, counted_few N low N.inputs table count (record { count_is = n.count_is; block_is = λ y p _ b. n.block_is y p b }), n.count_is, L.few_inputs, L.few_pins)

  pub blocks_few : (i m : ℕ) (branches : List ℕ) → Branched N i m branches → FewLabels i m branches table
  blocks_few i m branches B p h l =
      let b : Branch N (get_or branches p 0) p = entry_branch B h refl l in
      omega (arith, n.block_is _ p b, in_block N low K p b.pin (rw b.names b.input), count_few)

  pub blocks_one : OneInput N table
  blocks_one = blocks_own N low K table n.block_is

  pub shaped : (nets : List ℕ) → BranchTable N nets → (firsts order reached : List ℕ) (d x y k : ℕ) → FirstPins N firsts → Ordered N order → DepthFound N low d
      → LowestUneven N nets x → Evened N table d reached y → Classified N.inputs y x k
      → Shaped N firsts order nets table reached (record { depth = d; class = k; blocks = count; place = y })
  shaped nets same firsts order reached d x y k F O D u v c =
      record {
        low = low;
        first_pins = F;
        ordered = O;
        branch_table = same;
        prepared = record { loop_free = order_free O; depth = D.depth; lowest = K; classed = class_is N low K nets table same n.block_is y x k v.lowest u c };
        shallow = D.shallow;
        count = n.count_is;
        block_table = n.block_is;
        reach_table = λ b h. reach_mask N d ((within_branches N L.sound (ranked_of O) d).0 D.depth.within) low K table n.block_is reached v.seen_all b (omega (arith, count_few, n.count_is));
        place = λ e. place_11 N low K table n.block_is y v.lowest (uneven_of e);
      }
    where
      uneven_of : k ≡ 1 → y < N.inputs
      uneven_of e = elim (dec_lt y N.inputs) [
        | yes l ↦ l
        | no g ↦ elim (dec_lt x N.inputs) [
          | yes l ↦ absurd (omega (arith, c.two (omega arith) l))
          | no h ↦ absurd (omega (arith, c.three (omega arith) (omega arith)))
        ]
      ]
