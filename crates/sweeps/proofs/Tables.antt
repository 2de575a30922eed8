-- The sweeps over the tables of a chip of class 2 or 3, one depth at a time.
use Prim.Native.Nat.{ℕ, suc, ◌+◌, ◌*◌, ◌-◌, ◌≤◌, ◌<◌}
use mathlib.Core.Path.{◌≡◌, refl, sym, ap, ◌∙◌, subst}
use mathlib.Core.Logic.{◌≢◌}
use mathlib.Core.Bool.{Bool}
use mathlib.Core.List.{List, ◌++◌}
use native.Mathlib.Omega.{arith}
use lib.ListN.{length, take, drop}
use Rattle.chip.specs.Netlist.{Netlist}
use Rattle.chip.specs.Pads.{branch_of}
use Rattle.chip.specs.Class.{blocks, Lowest}
use Rattle.chip.specs.Clocks.{pattern_of}
use Rattle.chip.specs.Faults.{AllBits}
use Rattle.chip.specs.Replies.{PlaySet, PatternRead}
use Rattle.chip.proofs.Basics.{reach_in, Ranked}
use Rattle.chip.proofs.LookBack.{Balanced}
use Rattle.chip.proofs.Loops.{ranked}
use Rattle.chip.proofs.Theorem.{balanced_of}
use Rattle.chip.proofs.Unique.{one_low}
use Rattle.levels.specs.Levels.{LevelMasks}
use Rattle.blocks.specs.Labels.{BlockTable}
use Rattle.structure.specs.Inner.Shape.{Shaped, Ready}
use Rattle.structure.specs.declared.Shape.{Shape}
use Rattle.sweeps.specs.Copied.{marked, Places, Copied, Repeated, Cleared, IdleFilled}
use Rattle.sweeps.specs.Swept.{PlayLaid}
use Rattle.sweeps.proofs.Sweeping.{Marks, marks, Tabled, depth_copied, places, SetTo, set_more, laid_done, set_done, ReadTo, read_more, read_done}

-- what the tables are by the blocks' lowest pins, of which there is one choice
module _ {N : Netlist} {firsts order branches block reached : List ℕ} {s : Shape} (S : Shaped N firsts order branches block reached s) (low : ℕ → ℕ) (L : Lowest N low) where
  same_low : S.low ≡ low
  same_low = one_low N S.low low S.prepared.lowest L

  pub shaped_balanced : s.class ≢ 1 → Balanced N (blocks N low)
  shaped_balanced g = subst (λ w. Balanced N (blocks N w)) same_low (balanced_of N s.depth S.low s.class S.prepared g)

  pub shaped_table : Tabled N block (blocks N low).block
  shaped_table p h i = subst (λ w. BlockTable N w block) same_low S.block_table (branch_of N p) p (record { pin = h; names = refl; input = i })

  pub shaped_count : s.blocks ≡ (blocks N low).count
  shaped_count = subst (λ w. s.blocks ≡ (blocks N w).count) same_low S.count

module _ {N : Netlist} {n : ℕ} {s : Shape} {firsts order branches block reached : List ℕ} (R : Ready N n s firsts order branches block reached) (g : s.class ≢ 1) {z : ℕ} (zo : z < N.outs)
    (low : ℕ → ℕ) (L : Lowest N low) where
  bal : Balanced N (blocks N low)
  bal = shaped_balanced R.shaped low L g

  table : Tabled N block (blocks N low).block
  table = shaped_table R.shaped low L

  count : s.blocks ≡ (blocks N low).count
  count = shaped_count R.shaped low L

  order_of_lem : Ranked N
  order_of_lem = ranked N R.shaped.prepared.loop_free

  -- one depth
  module _ {e : ℕ} {words masks : List ℕ} (M : LevelMasks N e words masks) where
    marks_here : Marks N z e (marked N.inputs z branches words)
    marks_here = marks N branches words z e zo M.pins R.shaped.branch_table

    named : Tabled N branches (branch_of N)
    named p h _ = R.shaped.branch_table p h

    pub set_places : (pattern part : List ℕ) → s.blocks ≤ length pattern → N.inputs ≤ length part → Places n (marked N.inputs z branches words) block branches pattern part
    set_places pattern part l h =
        places N z e _ marks_here n R.pins block branches _ _ pattern part table named
        (λ p x r. (omega (arith, bal.counted.in_block p (reach_in N z r) x, count), omega arith))
        (λ p q x y r s w. bal.apart z p q e x w r s)

    pub set_step : (pattern entry play part : List ℕ) → e ≤ s.depth → suc s.depth * N.inputs ≤ length play
        → Copied n (marked N.inputs z branches words) block branches pattern (take (length play - (s.depth - e) * N.inputs) (drop ((s.depth - e) * N.inputs) play)) part
        → SetTo N (blocks N low) s.depth z e pattern entry play
        → SetTo N (blocks N low) s.depth z (e + 1) pattern entry
        (take ((s.depth - e) * N.inputs) play ++ (part ++ drop (length play - (s.depth - e) * N.inputs) (drop ((s.depth - e) * N.inputs) play)))
    set_step pattern entry play part h room C =
        set_more N (blocks N low) s.depth z e pattern entry play part h room (depth_copied N z e _ marks_here n R.pins block branches _ _ pattern _ part table named C)

    pub read_places : (part pattern : List ℕ) → N.inputs ≤ length part → s.blocks ≤ length pattern → Places n (marked N.inputs z branches words) branches block part pattern
    read_places part pattern h l =
        places N z e _ marks_here n R.pins branches block _ _ part pattern named table
        (λ p x r. (omega arith, omega (arith, bal.counted.in_block p (reach_in N z r) x, count)))
        (λ p q x y r s w. sym (bal.counted.own p (reach_in N z r) x) ∙ ap (blocks N low).input w ∙ bal.counted.own q (reach_in N z s) y)

    pub read_step : (window entry pattern pattern' : List ℕ)
        → Copied n (marked N.inputs z branches words) branches block (take (length window - (s.depth - e) * N.inputs) (drop ((s.depth - e) * N.inputs) window)) pattern pattern'
        → ReadTo N (blocks N low) s.depth z e window entry pattern → ReadTo N (blocks N low) s.depth z (e + 1) window entry pattern'
    read_step window entry pattern pattern' C =
        read_more N (blocks N low) s.depth z e bal window entry pattern pattern' (depth_copied N z e _ marks_here n R.pins branches block _ _ _ pattern pattern' named table C)

  -- all depths
  pub laid_all : (pattern entry idle play : List ℕ) → AllBits pattern → Repeated (suc s.depth * N.inputs) 2 entry idle → SetTo N (blocks N low) s.depth z (suc s.depth) pattern idle play
      → PlayLaid N (blocks N low) s.depth z (pattern_of pattern) entry play
  laid_all = laid_done N R.limits.sound order_of_lem R.limits.some_input s.depth R.shaped.prepared.depth.within (blocks N low) bal z zo

  pub set_all : (pat : ℕ → Bool) (entry laid play : List ℕ) → suc s.depth * N.inputs ≤ length entry → PlayLaid N (blocks N low) s.depth z pat entry laid → IdleFilled (suc s.depth * N.inputs) laid play
      → PlaySet N (blocks N low) s.depth z pat entry play
  set_all = set_done N R.limits.sound order_of_lem R.limits.some_input s.depth R.shaped.prepared.depth.within (blocks N low) bal z zo

  pub read_all : (window entry clear pattern : List ℕ) → AllBits window → s.blocks ≤ length entry → Cleared s.blocks entry clear → ReadTo N (blocks N low) s.depth z (suc s.depth) window clear pattern
      → PatternRead N (blocks N low) s.depth z s.depth window entry pattern
  read_all window entry clear pattern bits room C =
      read_done N R.limits.sound order_of_lem R.limits.some_input s.depth R.shaped.prepared.depth.within (blocks N low) bal z zo window bits entry clear pattern (omega (arith, count)) (rw count at C)
