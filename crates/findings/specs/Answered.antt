-- The search of a fault that was looked for, before its play is set: the answer, and what is left to do for it.
use Rattle.std.specs.Prelude.{ℕ, suc, ◌+◌, ◌*◌, ◌/◌, ◌^◌, ◌≤◌, ◌<◌, ◌≡◌, ◌≢◌, List, length, get_or}
use Rattle.std.specs.Int.Bits.{bit_and}
use Rattle.chip.specs.Netlist.{Netlist}
use Rattle.chip.specs.Inner.Tables.{tabled, sized}
use Rattle.chip.specs.Class.{Lowest, blocks}
use Rattle.chip.specs.Replies.{SearchOn}
use Rattle.chip.specs.declared.Fault.{Fault}
use Rattle.chip.specs.declared.Searched.{Searched}
use Rattle.chip.specs.declared.Searched.TheVariants.{Found, Untestable, Refused}
use Rattle.chip.specs.declared.Sizes.{Sizes}
use Rattle.structure.specs.Inner.Shape.{Ready}
use Rattle.structure.specs.declared.Shape.{Shape}
use Rattle.opening.specs.Open.{netlist_of}
use Rattle.opening.specs.declared.Chip.{Chip}
use Rattle.slots.specs.Slots.{rel_of}
use Rattle.walk.specs.Walk.{width_of, Played}
use Rattle.outputs.specs.Sites.{SiteMasks, Widths, WideWord, size_of}
use Rattle.outputs.specs.Groups.{Sofar}
use Rattle.known.specs.Setting.{Shows}
use Rattle.spots.specs.Spots.{Spots}
use Rattle.findings.specs.declared.Findings.{Findings}

-- pattern m for output z can be set in a buffer with so much room
pub record Settable (N : Netlist) (s : Shape) (reached : List ℕ) (room z m : ℕ) : Type 0 where
  pub even : s.class ≢ 1
  pub output : z < N.outs
  pub narrow : width_of s.blocks reached z ≤ 16
  pub number : m < 2 ^ width_of s.blocks reached z
  pub fits : suc s.depth * N.inputs ≤ room

-- what the answer asks of the lent play: that the pattern found is set, or that nothing is written
abbrev pub Left : Netlist → ℕ → List ℕ → List ℕ → List ℕ → Searched → Type 0
Left N d reached entry exit (Found z m k) = (low : ℕ → ℕ) → Lowest N low → Played N (blocks N low) d z m reached entry exit
Left N d reached entry exit (Untestable k) = exit ≡ entry
Left N d reached entry exit (Refused e) = exit ≡ entry

-- with that done, the answer is the search's reply
pub record Answered (N : Netlist) (s : Shape) (fault : Fault) (reached : List ℕ) (room : ℕ) (r : Searched) : Type 0 where
  pub found : (z m k : ℕ) → r ≡ Found z m k → Settable N s reached room z m
  pub replies : (entry exit : List ℕ) → length entry ≡ room → Left N s.depth reached entry exit r → SearchOn N fault entry (r, exit)

-- the answer for fault f, if none of its site's outputs is wide: its lowest output that a pattern shows it at, or 64, and the first pattern there
pub record Judged (i c o n b f wides : ℕ) (kinds counts nets reached sites widths best pat : List ℕ) : Type 0 where
  pub a_fault : f < 2 * (i + c + n)
  pub sites_are : SiteMasks (tabled i c o kinds counts nets) sites
  pub widths_are : Widths o b reached widths
  pub wides_are : WideWord o widths wides
  pub long_best : length best ≡ 10368
  pub long_pat : length pat ≡ 10368
  pub found : (low : ℕ → ℕ) → Lowest (tabled i c o kinds counts nets) low → bit_and (get_or sites (f / 2) 0) wides ≡ 0
      → (left : ℕ) × Sofar (Shows i c o kinds counts nets low (rel_of reached) f) (size_of b reached) 0 (get_or sites (f / 2) 0) left (get_or best f 0) (get_or pat f 0)

-- fault f of a chip of class 2 or 3 with these tables was looked for
pub record Looked (z : Sizes) (s : Shape) (f wides : ℕ) (sites widths best pat kinds counts nets reached : List ℕ) : Type 0 where
  pub firsts : List ℕ
  pub order : List ℕ
  pub branches : List ℕ
  pub block : List ℕ
  pub ready : Ready (sized z kinds counts nets) z.pins s firsts order branches block reached
  pub even : s.class ≢ 1
  pub judged : Judged z.inputs z.cells z.outputs z.pins s.blocks f wides kinds counts nets reached sites widths best pat

-- all faults of an open chip were looked for, and the places of its patterns' variables were found
pub record Surveyed (t : Chip) (r : Findings) : Type 0 where
  pub looked : (f : ℕ) → f < 2 * (t.sizes.inputs + t.sizes.cells + t.sizes.pins)
      → Looked t.sizes t.shape f r.wides r.sites r.widths r.best r.pat t.kinds t.counts t.nets t.reached
  pub places : Spots (netlist_of t) t.shape.depth t.reached r.spots
