-- 'The netlist file', written: the bytes of a netlist whose input x has pad in_pad x, and whose output z has pad out_pad z.
use Rattle.std.specs.Prelude.{ℕ, zero, suc, ◌+◌, ◌/◌, ◌%◌, List, [], ◌∷◌, ◌++◌}
use Rattle.chip.specs.Netlist.{Netlist, first_pin, out_pin}
use Rattle.chip.specs.Class.{Blocks}
use Rattle.chip.specs.Transformed.{transformed}

-- numbers of two bytes are low byte first
abbrev pub word : ℕ → List ℕ
word n = n % 256 ∷ n / 256 ∷ []

-- the first n inputs: a pad each
abbrev pub inputs_file : (ℕ → ℕ) → ℕ → List ℕ
inputs_file in_pad zero = []
inputs_file in_pad (suc n) = inputs_file in_pad n ++ in_pad n ∷ []

-- n pins from pin a on: a net each
abbrev pub pins_file : Netlist → ℕ → ℕ → List ℕ
pins_file N a zero = []
pins_file N a (suc n) = pins_file N a n ++ word (N.net (a + n))

-- the first n cells: kind, pin count, and the pins
abbrev pub cells_file : Netlist → ℕ → List ℕ
cells_file N zero = []
cells_file N (suc j) = cells_file N j ++ N.kind j ∷ N.pins j ∷ pins_file N (first_pin N j) (N.pins j)

-- the first n outputs: pad and net
abbrev pub outputs_file : Netlist → (ℕ → ℕ) → ℕ → List ℕ
outputs_file N out_pad zero = []
outputs_file N out_pad (suc z) = outputs_file N out_pad z ++ out_pad z ∷ word (N.net (out_pin N z))

unfoldable pub file_of : (ℕ → ℕ) → (ℕ → ℕ) → Netlist → List ℕ
file_of in_pad out_pad N =
    word N.inputs
    ++ inputs_file in_pad N.inputs
    ++ word N.cells
    ++ cells_file N N.cells
    ++ word N.outs
    ++ outputs_file N out_pad N.outs

-- the file whose input k has pad k + 1, and whose output k has the pad that is the number of inputs + 1 + k
abbrev pub padded_file : Netlist → List ℕ
padded_file N = file_of (λ k. k + 1) (λ k. N.inputs + 1 + k) N

-- 'The transformed circuit' as a file: block b has pad b + 1, output k has pad B + 1 + k
abbrev pub transformed_file : Netlist → Blocks → List ℕ
transformed_file N B = padded_file (transformed N B)
