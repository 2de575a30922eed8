-- From a prepared chip, its tables and those of a group to what the group is tried on.
use Prim.Native.Nat.{ℕ, ◌+◌, ◌-◌, ◌≤◌, ◌<◌}
use mathlib.Core.Path.{◌≡◌, refl, sym, ap, ◌∙◌, subst}
use mathlib.Core.Logic.{◌≢◌}
use mathlib.Core.Bool.{Bool, true, false, cond}
use mathlib.Core.List.{List}
use native.Mathlib.Omega.{arith}
use native.Mathlib.Decide.{dec_lt}
use borrow.Author.Tests.{lt-ltb, le-ltb}
use lib.ListN.{get_or}
use lib.Dec.{ltb}
use Rattle.chip.specs.Netlist.{Netlist, all_pins, first_pin}
use Rattle.chip.specs.Inner.Limits.{InLimits}
use Rattle.chip.specs.Pads.{branch_of}
use Rattle.chip.specs.Inner.Tables.{tabled, BranchTable}
use Rattle.chip.specs.Class.{Lowest, Reach, blocks, tally}
use Rattle.chip.specs.Clocks.{BlockReaches}
use Rattle.chip.specs.Search.{digit}
use Rattle.chip.proofs.Basics.{reach_in}
use Rattle.chip.proofs.Blocks.{branch, counted, tally_past, tally_same}
use Rattle.chip.proofs.Unique.{one_low}
use Rattle.levels.specs.Levels.{Mask}
use Rattle.structure.specs.Inner.Shape.{Ready}
use Rattle.structure.specs.declared.Shape.{Shape}
use Rattle.pads.specs.Sources.{SourceTable}
use Rattle.slots.specs.Slots.{rel_of, Laid, variable}
use Rattle.slots.specs.Slots as Slots
use Rattle.slots.proofs.Tables.{passing}
use Rattle.levels.specs.Levels.{ReachMasks}
use Rattle.walk.proofs.Walking.{ready_few, ready_laid}
use Rattle.flip.specs.Bed.{Bed}
use Rattle.readers.specs.Readers.{Heads, Wires, Built, Lengths}
use Rattle.readers.proofs.Chips.{wires, chip_of_lem, bed_of}
use Rattle.stages.specs.Stage.{Variables, Stage}
use Rattle.benches.proofs.Reading.{reading_of}
use Rattle.benches.specs.Benches.{Blocked, BlockInputs, Fitted, Group, BlockList, Benched}

-- the blocks of a chip's branches
module _ (i c o n b : ℕ) (kinds counts nets branches block : List ℕ) (low : ℕ → ℕ) (L : InLimits (tabled i c o kinds counts nets)) (e : n ≡ all_pins (tabled i c o kinds counts nets))
    (E : BranchTable (tabled i c o kinds counts nets) branches) (bl : b ≤ 4160) (D : Laid (tabled i c o kinds counts nets) b block low) where
  abbrev N : Netlist
  N = tabled i c o kinds counts nets

  is_branch : (p : ℕ) → p < n → get_or branches p 0 < i → branch_of N p < i
  is_branch p h a = rw (E p (omega arith)) at a

  block_is : (p : ℕ) → p < n → get_or branches p 0 < i → get_or block p 0 ≡ (blocks N low).block p
  block_is p h a = D.table (branch_of N p) p (branch N low D.lowest p (omega arith) (is_branch p h a))

  block_low : (p : ℕ) → p < n → get_or branches p 0 < i → get_or block p 0 < 4160
  block_low p h a = omega (arith, block_is p h a, (counted N low D.lowest).in_block p (omega arith) (is_branch p h a), D.count_is)

  pub heads_of_lem : (firsts order : List ℕ) → Lengths kinds counts firsts branches nets order block → Heads i n branches nets block
  heads_of_lem firsts order Z = record {
    few_inputs = L.few_inputs;
    few_pins = omega (arith, L.few_pins);
    branches_long = Z.branches_long;
    nets_long = Z.nets_long;
    block_long = Z.block_long;
    named = λ p h. (block_low p h, omega (arith, L.sound.named p (omega arith), L.few_cells));
  }

  -- the input of a branch, by the number of its block
  own_is : (p : ℕ) → p < n → get_or branches p 0 < i → (blocks N low).input (get_or block p 0) ≡ get_or branches p 0
  own_is p h a = ap (blocks N low).input (block_is p h a) ∙ (counted N low D.lowest).own p (omega arith) (is_branch p h a) ∙ sym (E p (omega arith))

  pub blocked_of : Blocked i n branches block
  blocked_of = record {
    few_inputs = L.few_inputs;
    few_pins = omega (arith, L.few_pins);
    there = block_low;
    one = λ p q h k a d s. sym (own_is p h a) ∙ ap (blocks N low).input s ∙ own_is q k d;
  }

  input_is : (input : List ℕ) → BlockInputs i n branches block input → (p : ℕ) → p < all_pins N → branch_of N p < i → get_or input ((blocks N low).block p) 0 ≡ branch_of N p
  input_is input I p h a =
      let t : get_or branches p 0 < i = rw (E p h) a in
      ap (λ x. get_or input x 0) (sym (block_is p (omega arith) t)) ∙ I.at p (omega arith) t ∙ E p h

-- the rows of a group's outputs agree
module _ (o b z g : ℕ) (reached : List ℕ) (G : Group o b z g reached) (y : ℕ) (yl : y < 64) (yg : digit y g ≡ true) where
  same_tally : (k : ℕ) → k ≤ b → tally (rel_of reached y) k ≡ tally (rel_of reached z) k
  same_tally k l = tally_same (rel_of reached y) (rel_of reached z) k (λ x h. G.same y x yl yg (omega arith))

  same_slots : (w : ℕ) (slots : List ℕ) → Slots.Variables b (rel_of reached z) slots w → Slots.Variables b (rel_of reached y) slots w
  same_slots w slots U = record {
    count = U.count ∙ sym (same_tally b (omega arith));
    slot = λ k l. U.slot k l ∙ ap (λ t. cond (rel_of reached z k) t 1040) (sym (same_tally k (omega arith))) ∙ ap (λ r. cond r (tally (rel_of reached y) k) 1040) (sym (G.same y k yl yg l));
  }

-- a block with a branch that reaches an output reaches it
module _ {N : Netlist} {n : ℕ} {s : Shape} {firsts order branches block reached : List ℕ} (R : Ready N n s firsts order branches block reached) (low : ℕ → ℕ) (K : Lowest N low)
    (y p e : ℕ) (yo : y < N.outs) (a : branch_of N p < N.inputs) (r : Reach N y p e) where
  there : p < all_pins N
  there = reach_in N y r

  abbrev Masks : (ℕ → ℕ) → Type 0
  Masks f = (b : ℕ) → b < (blocks N f).count → Mask N.outs (get_or reached b 0) (λ z. BlockReaches N (blocks N f) z b)

  masks : Masks low
  masks = subst Masks (one_low N R.shaped.low low R.shaped.prepared.lowest K) (λ b l. R.shaped.reach_table b (omega (arith, R.shaped.count)))

  reaches : rel_of reached y ((blocks N low).block p) ≡ true
  reaches = go (rel_of reached y ((blocks N low).block p)) refl
    where
      go : (q : Bool) → rel_of reached y ((blocks N low).block p) ≡ q → rel_of reached y ((blocks N low).block p) ≡ true
      go true q = q
      go false q = absurd ((masks ((blocks N low).block p) ((counted N low K).in_block p there a)).clear y yo q
          (e, record { pin = p; branch = record { pin = there; names = sym ((counted N low K).own p there a); input = rw ((counted N low K).own p there a) a }; block = refl; reach = r }))

-- a prepared chip of class 2 or 3
module _ (i c o n : ℕ) (s : Shape) (kinds counts firsts nets order branches block reached : List ℕ)
    (R : Ready (tabled i c o kinds counts nets) n s firsts order branches block reached) (k23 : s.class ≢ 1) (low : ℕ → ℕ) (K : Lowest (tabled i c o kinds counts nets) low) where
  laid : Laid (tabled i c o kinds counts nets) s.blocks block low
  laid = ready_laid R k23 low K

  few_blocks : s.blocks ≤ 4160
  few_blocks = ready_few R

  module _ (z w g : ℕ) (G : Group o s.blocks z g reached) (list input : List ℕ) where
    pub variables_of_lem : BlockInputs i n branches block input → w ≡ tally (rel_of reached z) s.blocks → BlockList s.blocks (rel_of reached z) list → Variables (tabled i c o kinds counts nets) low (rel_of reached) g w list input
    variables_of_lem J we M =
        record {
          wide = λ y l d. ap (tally (rel_of reached y)) (sym laid.count_is) ∙ same_tally o s.blocks z g reached G y l d s.blocks (omega arith) ∙ sym we;
          blocks_few = λ k l. let (t, a, h, q) = passing (rel_of reached z) s.blocks k (omega arith) in omega (arith, few_blocks, ap (λ x. get_or list x 0) q, M.at t a h);
          listed = λ y k l d h r.
              let a : k < s.blocks = omega (arith, laid.count_is) in
              ap (λ x. get_or list x 0) (same_tally o s.blocks z g reached G y l d k (omega arith)) ∙ M.at k a (sym (G.same y k l d a) ∙ r);
          input_is = input_is i c o n s.blocks kinds counts nets branches block low R.limits R.pins R.shaped.branch_table few_blocks laid input J;
          reached = λ y p e l d a r. reaches R low K y p e (G.outputs y l d) a r;
        }

    -- the chip's tables, and those of the group
    module _ (sources cone reach heads readers src outs : List ℕ) (C : ReachMasks (tabled i c o kinds counts nets) cone) (S : SourceTable (tabled i c o kinds counts nets) sources) (F : Fitted i c o n kinds counts firsts nets order branches block cone reach heads readers input)
        (B : Benched z i o n s.blocks w nets branches block reached src outs list) where
      pins_are : n - o ≡ first_pin (tabled i c o kinds counts nets) c
      pins_are = omega (arith, R.pins)

      bed : (y : ℕ) → y < 64 → digit y g ≡ true → Bed (tabled i c o kinds counts nets) low (rel_of reached) y firsts order cone src
      bed y l d = bed_of i c o n s.blocks y w kinds counts branches nets firsts order block reached cone B.slots src low R.limits R.pins R.shaped.first_pins R.shaped.ordered R.shaped.branch_table C laid
          (G.outputs y l d) (omega (arith, G.few, same_tally o s.blocks z g reached G y l d s.blocks (omega arith))) (same_slots o s.blocks z g reached G y l d w B.slots B.variables) B.pin_slots

      few_own : z < 64
      few_own = omega (arith, G.output, R.limits.few_outputs)

      wired : Wires i c (first_pin (tabled i c o kinds counts nets) c) counts firsts branches nets order block
      wired = wires i c o s.blocks kinds counts branches nets firsts order block low R.limits R.shaped.first_pins R.shaped.ordered R.shaped.branch_table F.sizes few_blocks laid

      made : Built i c (first_pin (tabled i c o kinds counts nets) c) counts firsts branches nets order block heads readers
      made = rw pins_are at F.built

      known : Variables (tabled i c o kinds counts nets) low (rel_of reached) g w list input
      known = variables_of_lem F.inputs B.variables.count B.listed

      -- the slot of each pin is there
      variable_low : (k : ℕ) → k < s.blocks → variable (rel_of reached z) k < 1042
      variable_low k l = go (rel_of reached z k) refl
        where
          go : (r : Bool) → rel_of reached z k ≡ r → variable (rel_of reached z) k < 1042
          go true q = rw q (omega (arith, G.few, tally_past (rel_of reached z) k s.blocks l q))
          go false q = rw q (omega arith)

      slot_low : (p : ℕ) → p < n → get_or src p 0 < 1042
      slot_low p l = elim (dec_lt (get_or branches p 0) i) [
        | yes a ↦
            let q : get_or src p 0 ≡ get_or B.slots (get_or block p 0) 0 = B.pin_slots.slot p l ∙ ap (λ r. cond r (get_or B.slots (get_or block p 0) 0) (cond (ltb (get_or nets p 0) i) 1040 (16 + (get_or nets p 0 - i)))) (lt-ltb (get_or branches p 0) i a) in
            let h : get_or block p 0 < s.blocks = in_blocks p l a in
            omega (arith, B.variables.slot (get_or block p 0) h, variable_low (get_or block p 0) h)
        | no f ↦
            let q : get_or src p 0 ≡ cond (ltb (get_or nets p 0) i) 1040 (16 + (get_or nets p 0 - i)) = B.pin_slots.slot p l ∙ ap (λ r. cond r (get_or B.slots (get_or block p 0) 0) (cond (ltb (get_or nets p 0) i) 1040 (16 + (get_or nets p 0 - i)))) (le-ltb (get_or branches p 0) i (omega arith)) in
            elim (dec_lt (get_or nets p 0) i) [
              | yes x ↦ omega (arith, ap (λ r. cond r 1040 (16 + (get_or nets p 0 - i))) (lt-ltb (get_or nets p 0) i x))
              | no x ↦ omega (arith, ap (λ r. cond r 1040 (16 + (get_or nets p 0 - i))) (le-ltb (get_or nets p 0) i (omega arith)), (F.named.named p l).1)
            ]
      ]
        where
          in_blocks : (p : ℕ) → p < n → get_or branches p 0 < i → get_or block p 0 < s.blocks
          in_blocks p l a = omega (
            arith,
            block_is i c o n s.blocks kinds counts nets branches block low R.limits R.pins R.shaped.branch_table few_blocks laid p l a,
            (counted (tabled i c o kinds counts nets) low K).in_block p (omega (arith, R.pins)) (is_branch i c o n s.blocks kinds counts nets branches block low R.limits R.pins R.shaped.branch_table few_blocks laid p l a),
            laid.count_is,
          )

      pub stage_of : Stage i c o n w g kinds counts firsts nets order branches sources cone reach heads readers src outs list input low (rel_of reached)
      stage_of =
          record {
            limits = R.limits;
            pins = R.pins;
            first_pins = R.shaped.first_pins;
            ordered = R.shaped.ordered;
            branched = R.shaped.branch_table;
            sources_are = S;
            chip = chip_of_lem i c o s.blocks kinds counts branches nets firsts order block low R.limits R.shaped.first_pins R.shaped.ordered R.shaped.branch_table F.sizes
                (rel_of reached) z cone src (bed z few_own G.own) reach heads readers B.pin_slots.long (omega (arith, F.reach_long, R.limits.few_cells)) made;
            apart = record { few_inputs = wired.heads.few_inputs; pins_long = B.pin_slots.long; cell = R.shaped.ordered.cell; pins = wired.apart };
            reading = reading_of i c o (first_pin (tabled i c o kinds counts nets) c) w g z kinds counts branches nets firsts order cone block heads readers src list input low (rel_of reached) (bed z few_own G.own) few_own G.own
                R.shaped.branch_table laid.table made known B.listed.long F.inputs.long;
            variables = known;
            masks = F.masks;
            beds = bed;
            outs_long = B.out_slots.long;
            outs_low = λ y l. elim (dec_lt y o) [
              | yes h ↦ omega (arith, B.out_slots.at y h, slot_low (n - o + y) (omega (arith, R.pins)))
              | no h ↦ omega (arith, B.out_slots.rest y (omega arith))
            ];
            outs_are = λ y h. B.out_slots.at y h ∙ ap (λ x. get_or src x 0) (omega (arith, R.pins));
          }
