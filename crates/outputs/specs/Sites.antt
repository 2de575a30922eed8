-- Words of outputs: those that each site reaches, how many blocks stand behind each, those that are wide, and those at which a fault is looked for.
use Rattle.std.specs.Prelude.{ℕ, ◌+◌, ◌-◌, ◌/◌, ◌^◌, ◌≤◌, ◌<◌, ◌≡◌, ◌≢◌, true, cond, List, length, get_or, ltb}
use Rattle.std.specs.Int.Bits.{bit_and}
use Rattle.chip.specs.Netlist.{Netlist, all_pins}
use Rattle.chip.specs.Search.{digit, SiteReaches}
use Rattle.chip.specs.declared.Site.{Site}
use Rattle.chip.specs.declared.Site.TheVariants.{Net, Pin}
use Rattle.levels.specs.Levels.{Mask}
use Rattle.walk.specs.Walk.{width_of}

-- site s of a chip with so many nets
abbrev pub site_of : ℕ → ℕ → Site
site_of nets s = cond (ltb s nets) (Net s) (Pin (s - nets))

-- the outputs that each site reaches
pub record SiteMasks (N : Netlist) (sites : List ℕ) : Type 0 where
  pub long : length sites ≡ 5184
  pub at : (s : ℕ) → s < N.inputs + N.cells + all_pins N → Mask N.outs (get_or sites s 0) (SiteReaches N (site_of (N.inputs + N.cells) s))

-- the blocks behind each of the first k outputs, counted
pub record Widths (k b : ℕ) (reached widths : List ℕ) : Type 0 where
  pub long : length widths ≡ 64
  pub at : (z : ℕ) → z < k → get_or widths z 0 ≡ width_of b reached z

-- the word has those of the first k outputs that have more than 16 blocks behind them
pub record WideWord (k : ℕ) (widths : List ℕ) (r : ℕ) : Type 0 where
  pub wide : (z : ℕ) → digit z r ≡ true → (z < k) × (16 < get_or widths z 0)
  pub all : (z : ℕ) → z < k → 16 < get_or widths z 0 → digit z r ≡ true

-- faults `from` up to `to` are looked for at all outputs of their sites, or at none if one of these is wide, and no other fault is
pub record Started (from to wides : ℕ) (sites left : List ℕ) : Type 0 where
  pub long : length left ≡ 10368
  pub narrow : (f : ℕ) → from ≤ f → f < to → bit_and (get_or sites (f / 2) 0) wides ≡ 0 → get_or left f 0 ≡ get_or sites (f / 2) 0
  pub refused : (f : ℕ) → from ≤ f → f < to → bit_and (get_or sites (f / 2) 0) wides ≢ 0 → get_or left f 0 ≡ 0
  pub before : (f : ℕ) → f < from → get_or left f 0 ≡ 0
  pub after : (f : ℕ) → to ≤ f → get_or left f 0 ≡ 0

-- the number of patterns of each output
abbrev pub size_of : ℕ → List ℕ → ℕ → ℕ
size_of b reached z = 2 ^ width_of b reached z
