-- What is worked out of a netlist once, for every call that follows.
use Rattle.std.specs.Prelude.{ℕ, suc, ◌+◌, ◌≤◌, ◌<◌, ◌≡◌, ◌⊎◌, List, get_or, MatchResult}
use Rattle.chip.specs.Got.{Got}
use Rattle.chip.specs.declared.Reason.{Reason}
use Rattle.chip.specs.declared.Refusal.{Refusal}
use Rattle.chip.specs.Netlist.{Netlist, all_pins}
use Rattle.chip.specs.Inner.Limits.{InLimits}
use Rattle.chip.specs.Inner.Tables.{FirstPins, BranchTable}
use Rattle.chip.specs.Class.{LoopFree, Branch, Depth, Lowest, Prepared, blocks}
use Rattle.chip.specs.Clocks.{BlockReaches}
use Rattle.order.specs.Order.{Ordered}
use Rattle.order.specs.Sorted.{netlist_in, IsSorted}
use Rattle.order.specs.declared.Sorted.{Sorted}
use Rattle.levels.specs.Levels.{Mask, MasksBefore, AnyReach}
use Rattle.levels.specs.Branches.{Branched}
use Rattle.blocks.specs.Labels.{LevelJoined, BlockTable}
use Rattle.balance.specs.Balance.{SeenMasks, LowestConflict, LowestUneven}
use Rattle.chip.specs.Refusals.{When9, When10, When11}
use Rattle.structure.specs.declared.Shape.{Shape}
use Rattle.structure.specs.declared.Measured.{Measured}

-- a netlist within the limits whose cells are in order, with its number of pins and its branches
pub record InOrder (t : Sorted) (branches : List ℕ) : Type 0 where
  pub sorted : IsSorted t
  pub branched : Branched (netlist_in t) t.sizes.inputs t.sizes.pins branches

-- one depth further: the masks of the nets for the next, the labels with all pairs at this depth joined, the outputs reached at it
pub record Deeper (N : Netlist) (e : ℕ) (masks : List ℕ) (low low' : ℕ → ℕ) (outs : ℕ) : Type 0 where
  pub next : MasksBefore N (suc e) masks
  pub joined : LevelJoined N e low low'
  pub reached : Mask N.outs outs (AnyReach N e)

-- the depth with the blocks' lowest pins, and the lowest input that reaches an output with two depths; or the lowest output that is too deep
pub record DepthFound (N : Netlist) (low : ℕ → ℕ) (d : ℕ) : Type 0 where
  pub depth : Depth N d
  pub lowest : Lowest N low
  pub shallow : d ≤ 255

-- the refusal is 10 at such an output
abbrev pub IsDeep : Netlist → Refusal → Type 0
IsDeep N e = (e.reason ≡ Reason.TooDeep) × When10 N e.place

abbrev pub DepthIs : Netlist → List ℕ → (ℕ → ℕ) → Got Measured → Type 0
DepthIs N branches low r = MatchResult r (λ m. DepthFound N low m.depth × LowestUneven N branches m.input) (IsDeep N)

-- branches with one label are branches of one input
abbrev pub OneInput : Netlist → List ℕ → Type 0
OneInput N labels = (x y p q : ℕ) → Branch N x p → Branch N y q → get_or labels p 0 ≡ get_or labels q 0 → x ≡ y

-- the lowest input below best with a conflict at depth e, or best; and the outputs that each label reaches at the depths up to e
pub record Seen (N : Netlist) (labels : List ℕ) (e best : ℕ) (seen : List ℕ) (r : ℕ) : Type 0 where
  pub lowest : LowestConflict N labels e best r
  pub seen_now : SeenMasks N labels (e + 1) seen

-- the lowest input whose branches with one label have two depths to one output; and the outputs that each label reaches
pub record Evened (N : Netlist) (labels : List ℕ) (d : ℕ) (seen : List ℕ) (r : ℕ) : Type 0 where
  pub lowest : LowestUneven N labels r
  pub seen_all : SeenMasks N labels (suc d) seen

-- the class is 1 if a block is uneven, else 2 if an input is, else 3; an input number at least that of the inputs stands for none
pub record Classified (inputs by_block by_input k : ℕ) : Type 0 where
  pub one : by_block < inputs → k ≡ 1
  pub two : inputs ≤ by_block → by_input < inputs → k ≡ 2
  pub three : inputs ≤ by_block → inputs ≤ by_input → k ≡ 3

-- a chip that is prepared: its tables, its depth, class and number of blocks, and where the class is 1 the place of refusal 11
pub record Shaped (N : Netlist) (firsts order branches block reached : List ℕ) (s : Shape) : Type 0 where
  pub low : ℕ → ℕ
  pub first_pins : FirstPins N firsts
  pub ordered : Ordered N order
  pub branch_table : BranchTable N branches
  pub prepared : Prepared N s.depth low s.class
  pub shallow : s.depth ≤ 255
  pub count : s.blocks ≡ (blocks N low).count
  pub block_table : BlockTable N low block
  pub reach_table : (b : ℕ) → b < s.blocks → Mask N.outs (get_or reached b 0) (λ z. BlockReaches N (blocks N low) z b)
  pub place : s.class ≡ 1 → When11 N s.place

-- a chip that is ready for every step behind: within the limits, with its number of pins n, and prepared with all its tables
pub record Ready (N : Netlist) (n : ℕ) (s : Shape) (firsts order branches block reached : List ℕ) : Type 0 where
  pub limits : InLimits N
  pub pins : n ≡ all_pins N
  pub shaped : Shaped N firsts order branches block reached s

-- the refusal is 9 at the lowest net that reaches itself
abbrev pub IsLooped : Netlist → Refusal → Type 0
IsLooped N e = (e.reason ≡ Reason.Looped) × When9 N e.place

abbrev pub FoundIs : Netlist → List ℕ → List ℕ → List ℕ → List ℕ → List ℕ → Got Shape → Type 0
FoundIs N firsts order branches block reached r = MatchResult r (Shaped N firsts order branches block reached) (λ e. IsLooped N e ⊎ (LoopFree N × IsDeep N e))
