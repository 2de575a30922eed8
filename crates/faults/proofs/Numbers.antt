-- Each number below twice the number of sites is that of a fault, and each fault has its number.
use Prim.Native.Nat.{ℕ, ◌+◌, ◌-◌, ◌*◌, ◌/◌, ◌%◌, ◌<◌}
use mathlib.Core.Path.{◌≡◌, refl, sym, ap, ◌∙◌, subst}
use mathlib.Core.Bool.{cond}
use native.Mathlib.Omega.{arith}
use native.Mathlib.Decide.{dec_lt}
use borrow.Author.Tests.{lt-ltb, le-ltb}
use Rattle.chip.specs.Netlist.{Netlist, all_pins}
use Rattle.chip.specs.Faults.{SiteIn, FaultIn}
use Rattle.chip.specs.declared.Fault.{Fault}
use Rattle.chip.specs.declared.Site.{Site}
use Rattle.chip.specs.declared.Site.TheVariants.{Net, Pin}
use Rattle.faults.specs.Numbers.{fault_number}

pub fault_net : (nets f x v : ℕ) → f / 2 ≡ x → f % 2 ≡ v → x < nets → ◌≡◌ {A = Fault} (fault_number nets f) (record { site = Net x; stuck = v })
fault_net nets f x v e m l = rw (e, m, lt-ltb x nets l) refl

pub fault_pin : (nets f x v : ℕ) → f / 2 ≡ nets + x → f % 2 ≡ v → ◌≡◌ {A = Fault} (fault_number nets f) (record { site = Pin x; stuck = v })
fault_pin nets f x v e m =
    let d : nets + x - nets ≡ x = omega arith in
    rw (e, m, le-ltb (nets + x) nets (omega arith), d) refl

-- each number below twice the sites is that of a fault
pub fault_in : (N : Netlist) (f : ℕ) → f < 2 * (N.inputs + N.cells + all_pins N) → FaultIn N (fault_number (N.inputs + N.cells) f)
fault_in N f l = record { site = site; value = omega arith }
  where
    site : SiteIn N (fault_number (N.inputs + N.cells) f).site
    site = elim (dec_lt (f / 2) (N.inputs + N.cells)) [
      | yes h ↦ subst (λ t. SiteIn N (cond t (Net (f / 2)) (Pin (f / 2 - (N.inputs + N.cells))))) (sym (lt-ltb (f / 2) (N.inputs + N.cells) h)) h
      | no g ↦
          let h : f / 2 - (N.inputs + N.cells) < all_pins N = omega arith in
          subst (λ t. SiteIn N (cond t (Net (f / 2)) (Pin (f / 2 - (N.inputs + N.cells))))) (sym (le-ltb (f / 2) (N.inputs + N.cells) (omega arith))) h
    ]

-- and each fault has its number
module _ (N : Netlist) (nets : ℕ) (fault : Fault) (q : nets ≡ N.inputs + N.cells) (F : FaultIn N fault) where
  abbrev at : Site → Fault
  at t = record { site = t; stuck = fault.stuck }

  pub number_net : (x : ℕ) → fault.site ≡ Net x → (fault_number nets (2 * x + fault.stuck) ≡ fault) × (2 * x + fault.stuck < 2 * (nets + all_pins N))
  number_net x e =
      let l : x < N.inputs + N.cells = subst (SiteIn N) e F.site in
      let v = F.value in (
        fault_net nets (2 * x + fault.stuck) x fault.stuck (omega arith) (omega arith) (omega arith) ∙ ap at (sym e),
        omega arith,
      )

  pub number_pin : (p : ℕ) → fault.site ≡ Pin p → (fault_number nets (2 * (nets + p) + fault.stuck) ≡ fault) × (2 * (nets + p) + fault.stuck < 2 * (nets + all_pins N))
  number_pin p e =
      let l : p < all_pins N = subst (SiteIn N) e F.site in
      let v = F.value in (
        fault_pin nets (2 * (nets + p) + fault.stuck) p fault.stuck (omega arith) (omega arith) ∙ ap at (sym e),
        omega arith,
      )
