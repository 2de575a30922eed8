-- After p pins each pin has its cone and each net the joined cones of those pins among them that name it.
use mathlib.Core.Path.{◌≡◌, sym, ◌∙◌}
use native.Mathlib.Omega.{arith}
use lib.ListN.{length-set}
use Rattle.chip.specs.Netlist.{all_pins}
use Rattle.outputs.proofs.Tables.{sites_none, sites_more, sites_all}
use Rattle.outputs.proofs.site_masks.Goals as goal

pub loop-p-init : goal.loop-p-init
loop-p-init c = (c.requires.sites_len.0, λ N e b q m. sites_none _ N _ _ c.requires.sites_len.1)

pub loop-p-preserved : goal.loop-p-preserved
loop-p-preserved c =
    let l = c.loop-p in (
      simp length-set l.invariant.0,
      λ N e b q m.
          sites_more _ _ N _ _ _ (l.invariant.1 N e b q m) (q l.p ∙ sym c.from.ensures) (omega (arith, c.from.ensures, c.requires.base_bound.2 l.p c.loop-p-test.true)) (omega (arith, l.invariant.0)) (m l.p (omega arith)),
    )

pub returns : goal.returns
returns c =
    λ N e b q m.
    let l = c.loop-p in
    let f : l.p ≡ all_pins N = omega arith in
    sites_all N _ _ l.invariant.0 m (rw (f, b) at (l.invariant.1 N e b q m))
