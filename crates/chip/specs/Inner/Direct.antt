-- The transformed circuit as the search may run it, without copies: each branch names its block, and what the pad buffers on its way do stands at its pin.
use Rattle.std.specs.Prelude.{ℕ, zero, suc, ◌+◌, ◌-◌, ◌<◌, ◌≡◌, Bool, cond, ◌&&◌, leb, ltb}
use Rattle.chip.specs.Netlist.{Netlist, first_pin, all_pins}
use Rattle.chip.specs.Pads.{is_buf, fed, branch_of}
use Rattle.chip.specs.Class.{Blocks}
use Rattle.chip.specs.Transformed.{flat}
use Rattle.chip.specs.Faults.{Lines}

-- a branch names its block; a pin into a pad buffer may name anything that comes before it
unfoldable pub direct_net : Netlist → Blocks → ℕ → ℕ
direct_net N B p =
    cond (ltb (branch_of N p) N.inputs) (B.block p) (cond (ltb (N.net p) N.inputs) (B.first (N.net p)) (B.count + (N.net p - N.inputs)))

abbrev pub direct : Netlist → Blocks → Netlist
direct N B = record { inputs = B.count; cells = N.cells; outs = N.outs; kind = λ j. flat (N.kind j); pins = N.pins; net = direct_net N B }

-- a BUF drives net n
abbrev pub buf_net : Netlist → ℕ → Bool
buf_net N n = leb N.inputs n && is_buf N (n - N.inputs)

-- what net n shows if the BUFs back from it, k at the most, are given the value b
abbrev pub through : Netlist → Lines → ℕ → ℕ → Bool → Bool
through N f zero n b = f.net n b
through N f (suc k) n b = f.net n (cond (buf_net N n) (f.pin (first_pin N (n - N.inputs)) (through N f k (fed N n) b)) b)

-- what comes to pin p of the value b of the block or the cell that it names
unfoldable pub comes : Netlist → Lines → ℕ → Bool → Bool
comes N f p b = cond (ltb (branch_of N p) N.inputs) (through N f N.cells (N.net p) b) (f.net (N.net p) b)

-- a fault, on nets, pins or pad buffers, as what each pin makes of the value of the block or the cell that it names
abbrev pub at_pins : Netlist → Lines → Lines
at_pins N f = record { net = λ n b. b; pin = λ p b. f.pin p (comes N f p b) }

-- g is that, at the pins that there are
pub record DirectLines (N : Netlist) (f g : Lines) : Type 0 where
  pub net : (n : ℕ) (b : Bool) → g.net n b ≡ b
  pub pin : (p : ℕ) (b : Bool) → p < all_pins N → g.pin p b ≡ f.pin p (comes N f p b)
