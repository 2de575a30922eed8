-- The window of a play that begins at clock t - d: its clocks are the play's, and so what is read at its clock d is read at clock t of the play.
use Prim.Native.Nat.{ℕ, suc, ◌+◌, ◌*◌, ◌-◌, ◌≤◌}
use mathlib.Core.Path.{◌≡◌, ap, ◌∙◌}
use mathlib.Core.Logic.{◌≢◌}
use mathlib.Core.Bool.{◌&&◌}
use mathlib.Core.List.{List}
use native.Mathlib.Nat.{add-mul}
use native.Mathlib.Omega.{arith}
use lib.Dec.{eqb, ltb}
use lib.ListN.{length, get_or, take, drop, length-drop}
use lib.Seq.{length-take-le}
use Rattle.chip.specs.Netlist.{Netlist}
use Rattle.chip.specs.Class.{Lowest, blocks}
use Rattle.chip.specs.Faults.{AllBits}
use Rattle.chip.specs.Replies.{PatternRead}
use Rattle.chip.proofs.Clocks.{block_deep}
use Rattle.chip.proofs.Loops.{ranked}
use Rattle.structure.specs.Inner.Shape.{Ready}
use Rattle.structure.specs.declared.Shape.{Shape}
use Rattle.sweeps.proofs.Sweeping.{part_at}
use Rattle.sweeps.proofs.Tables.{shaped_balanced}

abbrev pub window_of : ℕ → ℕ → ℕ → List ℕ → List ℕ
window_of i d t play = take (length play - (t - d) * i) (drop ((t - d) * i) play)

module _ (i d t : ℕ) (play : List ℕ) (late : d ≤ t) (inside : suc t * i ≤ length play) where
  window_room : (t - d) * i + suc d * i ≤ length play
  window_room = let w : t - d + suc d ≡ suc t = omega arith in omega (arith, add-mul (t - d) (suc d) i, ap (λ k. k * i) w)

  window_rest : length (window_of i d t play) ≡ length play - (t - d) * i
  window_rest = length-take-le (length play - (t - d) * i) (drop ((t - d) * i) play) (omega (arith, length-drop ((t - d) * i) play))

  pub window_long : suc d * i ≤ length (window_of i d t play)
  window_long = omega (arith, window_room, window_rest)

  pub window_bits : AllBits play → AllBits (window_of i d t play)
  window_bits bits k l = rw (part_at ((t - d) * i) play k) (bits ((t - d) * i + k) (omega (arith, window_room, window_rest)))

module _ {N : Netlist} {n : ℕ} {s : Shape} {firsts order branches block reached : List ℕ} (R : Ready N n s firsts order branches block reached) (g : s.class ≢ 1) where
  pub window_read : {z t : ℕ} {play entry exit : List ℕ} (low : ℕ → ℕ) → Lowest N low → s.depth ≤ t
      → PatternRead N (blocks N low) s.depth z s.depth (window_of N.inputs s.depth t play) entry exit → PatternRead N (blocks N low) s.depth z t play entry exit
  window_read {z} {t} {play} low L late P =
      record {
        pattern = P.pattern;
        long = P.long;
        bits = P.bits;
        reads = record {
          late = late;
          takes = λ b e u a q.
              let d : ℕ = s.depth in
              let x : ℕ = (blocks N low).input b in
              let h : e ≤ d = block_deep N R.limits.sound (ranked N R.shaped.prepared.loop_free) d R.shaped.prepared.depth.within (blocks N low) (shaped_balanced R.shaped low L g) z a in
              let w : t - d + (d - e) ≡ u = omega arith in
              let m : (t - d) * N.inputs + ((d - e) * N.inputs + x) ≡ u * N.inputs + x = omega (arith, add-mul (t - d) (d - e) N.inputs, ap (λ k. k * N.inputs) w) in
              P.reads.takes b e (d - e) a (omega arith)
              ∙ ap (λ v. ltb x N.inputs && eqb v 1) (part_at ((t - d) * N.inputs) play ((d - e) * N.inputs + x) ∙ ap (λ k. get_or play k 0) m);
          zero_elsewhere = P.reads.zero_elsewhere;
        };
        wrote = P.wrote;
      }
