-- 'The netlist file' and 'Refusal numbers': a file read front to back, with the refusals 1 to 8 and their places.
-- The first refusal decides, so the order of the lines is the order of precedence.
use Rattle.std.specs.Prelude.{ℕ, zero, suc, ◌+◌, ◌*◌, List, [], ◌∷◌, ◌++◌, Bool, false, ◌&&◌, ◌||◌, not, length, get_or, ltb, leb, eqb}
use Rattle.chip.specs.Netlist.{Netlist, takes}
use Rattle.chip.specs.Got.{Got, got, ◌>>=◌, check}
use Rattle.chip.specs.declared.Reason.{Reason}

-- The fields.

-- one byte: 1, at the length, if it is cut
unfoldable pub byte_at : List ℕ → ℕ → Got ℕ
byte_at file at = do
  _ ← check (ltb at (length file)) Reason.CutShort (length file)
  got (get_or file at 0)

-- a number of two bytes, low byte first: 1, at the length, if it is cut
unfoldable pub word_at : List ℕ → ℕ → Got ℕ
word_at file at = do
  _ ← check (leb (at + 2) (length file)) Reason.CutShort (length file)
  got (get_or file at 0 + 256 * get_or file (at + 1) 0)

-- the count of a section: 2 if it is beyond its limits
unfoldable pub count_at_place : List ℕ → ℕ → ℕ → ℕ → Got ℕ
count_at_place file lo hi at = do
  n ← word_at file at
  _ ← check (leb lo n && leb n hi) Reason.BadCount at
  got n

-- whether a pad is among the pads used before
unfoldable pub is_in : ℕ → List ℕ → Bool
is_in pad [] = false
is_in pad (q ∷ used) = eqb q pad || is_in pad used

-- a pad: 3 if it is 0 or was used before
unfoldable pub pad_at : List ℕ → List ℕ → ℕ → Got ℕ
pad_at file used at = do
  pad ← byte_at file at
  _ ← check (not (eqb pad 0 || is_in pad used)) Reason.BadPad at
  got pad

-- the kind of a cell: 4 if it is above 9
unfoldable pub kind_at : List ℕ → ℕ → Got ℕ
kind_at file at = do
  kind ← byte_at file at
  _ ← check (leb kind 9) Reason.BadKind at
  got kind

-- the pin count of a cell with so many pins before it: 5 if it is wrong for the kind, then 7 if the pins pass 4,096
unfoldable pub pin_count_at : List ℕ → ℕ → ℕ → ℕ → Got ℕ
pin_count_at file kind before at = do
  m ← byte_at file at
  _ ← check (takes kind m) Reason.BadPinCount at
  _ ← check (leb (before + m) 4096) Reason.ManyPins at
  got m

-- the net that a pin names: 6 if it is not below the number of nets, I+C
unfoldable pub net_at : List ℕ → ℕ → ℕ → Got ℕ
net_at file net_count at = do
  net ← word_at file at
  _ ← check (ltb net net_count) Reason.BadNet at
  got net

-- The sections: so many entries are left, from a place on; the last arguments grow with each entry.

-- the inputs: a pad each
unfoldable pub inputs : List ℕ → ℕ → ℕ → List ℕ → Got (List ℕ)
inputs file zero at pads = got pads
inputs file (suc n) at pads = do
  pad ← pad_at file pads at
  inputs file n (at + 1) (pads ++ pad ∷ [])

-- the pins of a cell: a net each
unfoldable pub pins : List ℕ → ℕ → ℕ → ℕ → List ℕ → Got (List ℕ)
pins file net_count zero at nets = got nets
pins file net_count (suc m) at nets = do
  net ← net_at file net_count at
  pins file net_count m (at + 2) (nets ++ net ∷ [])

-- what the cells read so far give: the place after them, the kind and the pin count of each, and the net of each pin
pub record Cells : Type 0 where
  pub at : ℕ
  pub kinds : List ℕ
  pub counts : List ℕ
  pub nets : List ℕ

-- one cell: kind, pin count, pins
unfoldable pub cell : List ℕ → ℕ → Cells → Got Cells
cell file net_count c = do
  kind ← kind_at file c.at
  m ← pin_count_at file kind (length c.nets) (c.at + 1)
  nets ← pins file net_count m (c.at + 2) c.nets
  got (record { at = c.at + 2 + 2 * m; kinds = c.kinds ++ kind ∷ []; counts = c.counts ++ m ∷ []; nets = nets })

unfoldable pub cells : List ℕ → ℕ → ℕ → Cells → Got Cells
cells file net_count zero c = got c
cells file net_count (suc n) c = do
  d ← cell file net_count c
  cells file net_count n d

-- what the outputs read so far give, after the inputs' pads and the cells' pins: the pads, and the net of each pin
pub record Outputs : Type 0 where
  pub pads : List ℕ
  pub nets : List ℕ

-- the outputs: a pad and a net each
unfoldable pub outputs : List ℕ → ℕ → ℕ → ℕ → List ℕ → List ℕ → Got Outputs
outputs file net_count zero at pads nets = got (record { pads = pads; nets = nets })
outputs file net_count (suc n) at pads nets = do
  pad ← pad_at file pads at
  net ← net_at file net_count (at + 1)
  outputs file net_count n (at + 3) (pads ++ pad ∷ []) (nets ++ net ∷ [])

-- The whole file: the numbers of inputs and outputs, the pads of the inputs and then of the outputs, the kind and the
-- pin count of each cell, and the net of each pin, the cells' pins first and then one for each output.
pub record Parsed : Type 0 where
  pub ins : ℕ
  pub outs : ℕ
  pub pads : List ℕ
  pub kinds : List ℕ
  pub counts : List ℕ
  pub nets : List ℕ

-- after i inputs and n cells: the output count, 2 before 7, the outputs, and 8 for bytes after them
unfoldable pub ending : List ℕ → ℕ → ℕ → List ℕ → Cells → Got Parsed
ending file i n pads c = do
  o ← count_at_place file 1 64 c.at
  _ ← check (leb (length c.nets + o) 4096) Reason.ManyPins c.at
  x ← outputs file (i + n) o (c.at + 2) pads c.nets
  _ ← check (leb (length file) (c.at + 2 + 3 * o)) Reason.Trailing (c.at + 2 + 3 * o)
  got (record { ins = i; outs = o; pads = x.pads; kinds = c.kinds; counts = c.counts; nets = x.nets })

unfoldable pub read_of : List ℕ → Got Parsed
read_of file = do
  i ← count_at_place file 1 64 0
  pads ← inputs file i 2 []
  n ← count_at_place file 0 1024 (2 + i)
  c ← cells file (i + n) n (record { at = 4 + i; kinds = []; counts = []; nets = [] })
  ending file i n pads c

-- the circuit that a file gives
unfoldable pub chip_of : Parsed → Netlist
chip_of x = record {
  inputs = x.ins;
  cells = length x.kinds;
  outs = x.outs;
  kind = λ j. get_or x.kinds j 0;
  pins = λ j. get_or x.counts j 0;
  net = λ p. get_or x.nets p 0;
}
