-- After all depths each entry is the place of its variable.
use Prim.Native.Nat.{ℕ, suc, ◌+◌, ◌*◌, ◌-◌, ◌≤◌, ◌<◌}
use mathlib.Core.Path.{◌≡◌, refl, sym, ap, ◌∙◌, subst}
use mathlib.Core.Logic.{◌≢◌}
use mathlib.Core.Bool.{Bool, true}
use mathlib.Core.List.{List}
use native.Mathlib.Omega.{arith}
use native.Mathlib.Decide.{dec_lt}
use lib.ListN.{get_or}
use Rattle.chip.specs.Netlist.{Netlist, all_pins}
use Rattle.chip.specs.Pads.{branch_of}
use Rattle.chip.specs.Class.{Lowest, blocks, tally}
use Rattle.chip.specs.Clocks.{BlockAt, BlockReaches}
use Rattle.chip.specs.Search.{digit}
use Rattle.chip.proofs.Basics.{Ranked, reach_in, reach_out}
use Rattle.chip.proofs.Blocks.{tally_past}
use Rattle.chip.proofs.Bools.{passes}
use Rattle.chip.proofs.Clocks.{block_low, block_deep, names_input}
use Rattle.chip.proofs.LookBack.{Balanced}
use Rattle.chip.proofs.Loops.{ranked}
use Rattle.chip.proofs.Theorem.{balanced_of}
use Rattle.chip.proofs.Unique.{one_low}
use Rattle.structure.specs.Inner.Shape.{Ready}
use Rattle.structure.specs.declared.Shape.{Shape}
use Rattle.slots.specs.Slots.{rel_of}
use Rattle.spots.specs.Marks.{Changed, ListMark, DepthMark}
use Rattle.spots.specs.Spots.{BlockSpots}

-- a number that passes a test is known by how many before it do
pub tally_one : (test : ℕ → Bool) (b k : ℕ) → test b ≡ true → test k ≡ true → tally test b ≡ tally test k → b ≡ k
tally_one test b k t u e =
    elim (dec_lt b k) [
      | yes l ↦ absurd (omega (arith, tally_past test b k l t))
      | no g ↦ elim (dec_lt k b) [ yes l ↦ absurd (omega (arith, tally_past test k b l u)) | no h ↦ omega arith ]
    ]

-- what a prepared chip of class 2 or 3 has, by its blocks' lowest pins
module _ {N : Netlist} {n : ℕ} {s : Shape} {firsts order branches block reached : List ℕ} (R : Ready N n s firsts order branches block reached) where
  pub ranks : Ranked N
  ranks = ranked N R.shaped.prepared.loop_free

module _ {N : Netlist} {n : ℕ} {s : Shape} {firsts order branches block reached : List ℕ} (R : Ready N n s firsts order branches block reached) (g : s.class ≢ 1)
    (low : ℕ → ℕ) (L : Lowest N low) where
  same_low : R.shaped.low ≡ low
  same_low = one_low N R.shaped.low low R.shaped.prepared.lowest L

  pub bal : Balanced N (blocks N low)
  bal = subst (λ w. Balanced N (blocks N w)) same_low (balanced_of N s.depth R.shaped.low s.class R.shaped.prepared g)

  numbered : (p : ℕ) → p < all_pins N → branch_of N p < N.inputs → get_or block p 0 ≡ (blocks N low).block p
  numbered p h i = R.shaped.block_table (branch_of N p) p (record { pin = h; names = refl; input = i }) ∙ ap (λ w. (blocks N w).block p) same_low

  pub low_block : {z b e : ℕ} → BlockAt N (blocks N low) z b e → b < s.blocks
  low_block {z} {b} {e} a =
      let c : s.blocks ≡ (blocks N low).count = rw same_low at R.shaped.count in
      omega (arith, block_low N R.limits.sound (ranks R) s.depth R.shaped.prepared.depth.within (blocks N low) bal z a)

  pub is_reached : {z b e : ℕ} → BlockAt N (blocks N low) z b e → rel_of reached z b ≡ true
  is_reached {z} {b} {e} a =
      let q : low ≡ R.shaped.low = one_low N low R.shaped.low L R.shaped.prepared.lowest in
      let h : BlockReaches N (blocks N low) z b = (e, a) in
      passes (digit z (get_or reached b 0)) (λ f. (R.shaped.reach_table b (low_block a)).clear z (reach_out N a.reach) f (rw q at h))

module _ {N : Netlist} {n : ℕ} {s : Shape} {firsts order branches block reached : List ℕ} (R : Ready N n s firsts order branches block reached) (g : s.class ≢ 1)
    (outs : ℕ) (lists₀ lists spots₀ spots : List ℕ) (C : Changed (ListMark s.blocks N.outs outs reached) lists₀ lists)
    (D : Changed (DepthMark N s.depth (suc s.depth) outs block lists) spots₀ spots) (z : ℕ) (among : digit z outs ≡ true) where
  module _ (low : ℕ → ℕ) (L : Lowest N low) where
    -- a block is listed at its number
    listed : (b e : ℕ) → BlockAt N (blocks N low) z b e → tally (rel_of reached z) b < 16 → get_or lists (16 * z + tally (rel_of reached z) b) 0 ≡ b
    listed b e a few =
        let t : rel_of reached z b ≡ true = is_reached R g low L a in
        let m = C.put (16 * z + tally (rel_of reached z) b) b (record {
          out = z;
          below = reach_out N a.reach;
          among = among;
          row = record { block = low_block R g low L a; reaches = t; few = few; at = refl };
        }) in
        let y : m.out ≡ z = omega (arith, m.row.at, m.row.few) in
        let u : rel_of reached z (get_or lists (16 * z + tally (rel_of reached z) b) 0) ≡ true = rw y at m.row.reaches in
        let w : 16 * z + tally (rel_of reached z) b ≡ 16 * z + tally (rel_of reached z) (get_or lists (16 * z + tally (rel_of reached z) b) 0) = rw y at m.row.at in
        tally_one (rel_of reached z) _ b u t (omega arith)

    spot_is : (b e : ℕ) → BlockAt N (blocks N low) z b e → tally (rel_of reached z) b < 16
        → get_or spots (16 * z + tally (rel_of reached z) b) 0 ≡ (s.depth - e) * N.inputs + (blocks N low).input b
    spot_is b e a few =
        let W : Balanced N (blocks N low) = bal R g low L in
        let T = numbered R g low L in
        let rk : Ranked N = ranks R in
        let i : branch_of N a.pin < N.inputs = names_input N R.limits.sound rk s.depth R.shaped.prepared.depth.within (blocks N low) W z a in
        let deep : e ≤ s.depth = block_deep N R.limits.sound rk s.depth R.shaped.prepared.depth.within (blocks N low) W z a in
        let at : get_or lists (16 * z + tally (rel_of reached z) b) 0 ≡ b = listed b e a few in
        let m = D.put (16 * z + tally (rel_of reached z) b) _ (record {
          depth = e;
          below = omega arith;
          pin = a.pin;
          branch = i;
          out = z;
          among = among;
          reach = a.reach;
          spot = record { from = omega arith; to = omega arith; block = at ∙ sym a.block ∙ sym (T a.pin a.branch.pin i); is = refl };
        }) in
        let y : m.out ≡ z = omega (arith, m.spot.from, m.spot.to) in
        let r = rw y at m.reach in
        let h : m.pin < all_pins N = reach_in N z r in
        let k : (blocks N low).block m.pin ≡ b = sym (T m.pin h m.branch) ∙ sym m.spot.block ∙ at in
        let f : m.depth ≡ e = W.one z m.pin a.pin m.depth e m.branch i (k ∙ sym a.block) r a.reach in
        let x : (blocks N low).input b ≡ branch_of N m.pin = ap (λ j. (blocks N low).input j) (sym k) ∙ W.counted.own m.pin h m.branch in
        m.spot.is ∙ ap (λ j. (s.depth - j) * N.inputs + branch_of N m.pin) f ∙ ap (λ j. (s.depth - e) * N.inputs + j) (sym x)

  pub spots_found : BlockSpots N s.depth z reached spots
  spots_found = record { spot = spot_is }
