-- The cells worked out on the faulty slots give the faulty outputs to look at, and copying all words puts the good ones back.
use Prim.Native.Nat.{◌-◌}
use mathlib.Core.Path.{refl, ap, ◌∙◌}
use native.Mathlib.Omega.{arith}
use lib.ListN.{length}
use Rattle.chip.proofs.Basics.{zero_at}
use Rattle.buffers.proofs.Slots.{ends_low, ran_is, put_back}
use Rattle.buffers.proofs.run_fault.Goals as goal

pub look_all-requires : goal.look_all-requires
look_all-requires c =
    let a = c.args in
    let F = c.copy_pins.ensures in
    let W = c.good_cells.ensures in
    let long = W.long ∙ ap length c.requires.vals_value.0 ∙ c.requires.chunk_bound.3 in
    record {
      q_bound = (
        c.requires.chunk_bound.0,
        c.requires.chunk_bound.1,
        c.requires.chunk_bound.2,
        F.long,
        λ z l. (omega (arith, c.requires.chunk_bound.4 z l, c.requires.chunk_bound.3), omega (arith, ends_low (a.chip.sizes.pins - a.chip.sizes.outputs) a.chip.sizes.outputs a.faulty.now _ _ c.requires.outputs_bound.0 refl (λ y. zero_at 64 y) F c.requires.outputs_bound.3 z l, long)),
      );
    }

pub returns-clause-fault_ran : goal.returns-clause-fault_ran
returns-clause-fault_ran c =
    let a = c.args in
    let W = c.good_cells.ensures in ran_is _ _ _ _ _ _ _ _ _ _ _ _ _ _ _ _ _ _ _ _ _ _ _ _ c.requires.vals_value.0 W c.copy_pins.ensures c.look_all.ensures

pub returns-clause-vals_after : goal.returns-clause-vals_after
returns-clause-vals_after c =
    let a = c.args in
    let W = c.good_cells.ensures in put_back a.goods.now _ _ c.requires.chunk_bound.3 (W.long ∙ ap length c.requires.vals_value.0 ∙ c.requires.chunk_bound.3) c.copy_words.ensures
