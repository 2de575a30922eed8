-- The file of a transformed circuit reads back as that circuit. Transforming it gives the same bytes again, where no flip-flop is fed by an input or a pad buffer.
use Prim.Native.Nat.{ℕ, zero, suc, ◌+◌, ◌≤◌}
use mathlib.Core.Path.{◌≡◌, refl, sym, ap, ◌∙◌, subst}
use mathlib.Core.Logic.{inl}
use mathlib.Core.List.{List, ◌++◌}
use native.Mathlib.Omega.{arith}
use lib.ListN.{length, take, drop}
use lib.Seq.{take-append_seam}
use Rattle.chip.specs.Netlist.{Netlist, sum_below, all_pins}
use Rattle.chip.specs.Inner.Limits.{Sound, InLimits}
use Rattle.chip.specs.Got.{got}
use Rattle.chip.specs.Format.{Parsed, read_of, chip_of}
use Rattle.chip.specs.Inner.Laws.{NoFlopAtPad}
use Rattle.chip.specs.Class.{LoopFree, Depth, Lowest, Blocks, blocks_of, blocks, Prepared}
use Rattle.chip.specs.Transformed.{old_cell, copies, transformed}
use Rattle.chip.specs.File.{file_of, transformed_file}
use Rattle.chip.specs.Refusals.{goes_on, Opens, read, opened, prepared}
use Rattle.chip.specs.Replies.{TransformOn, TransformReply}
use Rattle.chip.proofs.Basics.{Ranked, Counted, sum_up, takes_flat, flat_known}
use Rattle.chip.proofs.Blocks.{counted}
use Rattle.chip.proofs.Copies.{out_moved}
use Rattle.chip.proofs.Loops.{ranked, loop_free}
use Rattle.chip.proofs.Lowest.{has_lowest}
use Rattle.chip.proofs.Transforming.{transformed_sound, transformed_ranked, old_low, flat_reach}
use Rattle.chip.proofs.Twice.{Same, count_again, copies_again, twice}
use Rattle.chip.proofs.Theorem.{has_prepared}
use Rattle.replies.proofs.Opening.{opened_limits}
use Rattle.writing.proofs.RoundTrip.{Pads, parsed_of, read_file}
use Rattle.writing.proofs.Alike.{parsed_alike, pins_alike, file_same}
use Rattle.transform.proofs.Alike.{SameBlocks, sound_alike, reach_alike, free_alike, lowest_alike, blocks_alike, copies_alike, opened_alike}
use Rattle.transform.proofs.Answers.{Writable, writes_on, circuit_written, opened_written}

-- what transforming finds in the file of a transformed circuit
pub record Again (N : Netlist) (low : ℕ → ℕ) : Type 0 where
  pub netlist : Netlist
  pub low' : ℕ → ℕ
  pub class : ℕ
  pub opens : Opens (transformed_file N (blocks N low)) (got netlist)
  pub known : Prepared netlist 0 low' class
  pub writable : Writable netlist (blocks netlist low')
  pub same : transformed_file netlist (blocks netlist low') ≡ transformed_file N (blocks N low)

module _ (N : Netlist) (L : InLimits N) (free : LoopFree N) (low : ℕ → ℕ) (W : Lowest N low) where
  abbrev B : Blocks
  B = blocks N low

  abbrev T : Netlist
  T = transformed N (blocks N low)

  R : Ranked N
  R = ranked N free

  cnt : Counted N (blocks N low)
  cnt = counted N low W

  -- it is sound, and has no loop
  new_sound : Sound T
  new_sound = transformed_sound N L.sound R B cnt

  new_ranked : Ranked T
  new_ranked = transformed_ranked N L.sound R B cnt

  -- its pins are the netlist's and one for each copy
  pub new_pins : all_pins T ≡ all_pins N + copies N (blocks N low)
  new_pins = out_moved N L.sound R B N.outs

  some_block : 1 ≤ B.count
  unfolding blocks
  some_block =
      let up : sum_below (blocks_of N low) (suc zero) ≤ sum_below (blocks_of N low) N.inputs = sum_up (blocks_of N low) (suc zero) N.inputs L.some_input in
      omega arith

  module _ (F : Writable N (blocks N low)) where
    -- it is within the limits
    pub new_limits : InLimits (transformed N (blocks N low))
    new_limits = record {
      some_input = some_block;
      few_inputs = F.few_blocks;
      few_cells = F.few_cells;
      some_output = L.some_output;
      few_outputs = L.few_outputs;
      few_pins = omega (arith, new_pins, F.few_pins);
      kinds_known = λ j h. flat_known (N.kind (old_cell N B j)) (L.kinds_known (old_cell N B j) (old_low N L.sound R B cnt j h));
      pins_taken = λ j h. takes_flat (N.kind (old_cell N B j)) (N.pins (old_cell N B j)) ∙ L.pins_taken (old_cell N B j) (old_low N L.sound R B cnt j h);
      sound = new_sound;
    }

    new_pads : Pads (λ b. b + 1) (λ k. B.count + 1 + k) T.inputs T.outs
    new_pads = record {
      in_some = λ k h. omega arith;
      out_some = λ k h. omega arith;
      in_distinct = λ j k a h e. omega arith;
      out_distinct = λ j k a h e. omega arith;
      apart = λ j k a h e. omega arith;
    }

    abbrev x : Parsed
    x = parsed_of (λ b. b + 1) (λ k. B.count + 1 + k) T

    abbrev M : Netlist
    M = chip_of x

    read_again : read_of (transformed_file N (blocks N low)) ≡ got x
    read_again = read_file (λ b. b + 1) (λ k. B.count + 1 + k) T new_limits new_pads

    alike : Same M T
    alike = parsed_alike (λ b. b + 1) (λ k. B.count + 1 + k) T

    -- The written file reads back as the transformed circuit.
    pub reads_back : (y : Parsed) × (read_of (transformed_file N (blocks N low)) ≡ got y) × Same (chip_of y) (transformed N (blocks N low))
    reads_back = (x, read_again, alike)

    flat_depth : Depth M 0
    flat_depth = record { within = λ z p e i r. omega (arith, flat_reach N B z (reach_alike M T alike z r)); met = inl refl }

    pub again : NoFlopAtPad N → Again N low
    again quiet =
        let (low', W') = has_lowest T new_sound new_ranked in
        let free' : LoopFree M = free_alike M T alike (loop_free T new_ranked) in
        let (_, _, k, P) = has_prepared M (sound_alike M T alike new_sound) free' in
        let K : SameBlocks T (blocks M low') (blocks T low') = blocks_alike M T alike low' W' in
        let c : (blocks M low').count ≡ B.count = K.count ∙ count_again N L.sound R quiet low W low' W' in
        let n : copies M (blocks M low') ≡ 0 = copies_alike M T alike (blocks M low') (blocks T low') K ∙ copies_again N L.sound R quiet low W low' W' in
        record {
          netlist = M;
          low' = low';
          class = k;
          opens =
              read read_again (goes_on (λ n w. free' n w.holds)
              (goes_on (λ z w. let D = w.holds in omega (arith, flat_depth.within z D.pin D.depth D.input D.reach, D.over)) refl));
          known = record { loop_free = free'; depth = flat_depth; lowest = lowest_alike M T alike low' W'; classed = P.classed };
          writable = record {
            few_blocks = omega (arith, c, F.few_blocks);
            few_cells = omega (arith, n, alike.cells, F.few_cells);
            few_pins = omega (arith, n, pins_alike M T alike, new_pins, F.few_pins);
          };
          same =
              ap (λ n. file_of (λ b. b + 1) (λ k. n + 1 + k) (transformed M (blocks M low'))) c
              ∙ file_same (transformed M (blocks M low')) (transformed T (blocks T low')) (opened_alike M T alike (blocks M low') (blocks T low') K new_sound new_ranked) (λ b. b + 1) (λ k. B.count + 1 + k)
              ∙ file_same (transformed T (blocks T low')) T (twice N L.sound R quiet low W low' W') (λ b. b + 1) (λ k. B.count + 1 + k);
        }

again_written : (N : Netlist) → InLimits N → NoFlopAtPad N → (entry : List ℕ) {n : ℕ} {exit : List ℕ} → TransformOn N entry (got n, exit)
    → (entry' : List ℕ) → n ≤ length entry' → TransformReply (take n exit) entry' (got n, take n exit ++ drop n entry')
again_written N L quiet entry {n} {exit} (prepared {low = low} P c) entry' h =
    let (few, e, w) = circuit_written N (blocks N low) entry c in
    let A : Again N low = again N L P.loop_free low P.lowest few quiet in
    let F : List ℕ = transformed_file N (blocks N low) in
    let r : TransformReply F entry' (got (length F), F ++ drop (length F) entry') =
    subst (λ l. TransformReply F entry' (got (length l), l ++ drop (length l) entry')) A.same
    (opened A.opens (prepared A.known (writes_on A.netlist (blocks A.netlist A.low') entry' A.writable (record { room = rw (A.same, sym e) h; now_is = refl })))) in
    let t : take n exit ≡ F = rw (w.now_is, e) (take-append_seam F (drop (length F) entry)) in
    rw (t, e) r

-- Transforming the result of a transform returns the same bytes, where no flip-flop is fed by an input or a pad buffer.
pub transform_again : (file entry : List ℕ) (n : ℕ) (exit : List ℕ) → TransformReply file entry (got n, exit) → ((N : Netlist) → Opens file (got N) → NoFlopAtPad N)
    → (entry' : List ℕ) → n ≤ length entry' → TransformReply (take n exit) entry' (got n, take n exit ++ drop n entry')
transform_again file entry n exit r quiet =
    let (N, o, t) = opened_written file entry r in
    again_written N (opened_limits o) (quiet N o) entry t
