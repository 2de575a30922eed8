-- 'Small circuits with known results', with W2 and W3 of 02: the netlist files of P1 to P10, and beside them a chain of branches, P8 with a NOT in place of its pad buffer, three pad buffers in a row, and a net that hangs from a loop.
use Rattle.std.specs.Prelude.{ℕ, List, [], ◌∷◌}

-- P1 to P4, the listing's circuit: a DFF, and an XOR of the input and the DFF's net
abbrev pub listing : List ℕ
listing = 1 ∷ 0 ∷ 1 ∷ 2 ∷ 0 ∷ 8 ∷ 1 ∷ 0 ∷ 0 ∷ 6 ∷ 2 ∷ 0 ∷ 0 ∷ 1 ∷ 0 ∷ 1 ∷ 0 ∷ 2 ∷ 2 ∷ 0 ∷ []

-- P3: the listing's circuit transformed
abbrev pub listing_transformed : List ℕ
listing_transformed = 2 ∷ 0 ∷ 1 ∷ 2 ∷ 2 ∷ 0 ∷ 0 ∷ 1 ∷ 0 ∷ 0 ∷ 6 ∷ 2 ∷ 1 ∷ 0 ∷ 2 ∷ 0 ∷ 1 ∷ 0 ∷ 3 ∷ 3 ∷ 0 ∷ []

-- P5: the input straight to the output
abbrev pub straight : List ℕ
straight = 1 ∷ 0 ∷ 1 ∷ 0 ∷ 0 ∷ 1 ∷ 0 ∷ 2 ∷ 0 ∷ 0 ∷ []

-- P6: x and NOT x into AND
abbrev pub never_one : List ℕ
never_one = 1 ∷ 0 ∷ 1 ∷ 2 ∷ 0 ∷ 1 ∷ 1 ∷ 0 ∷ 0 ∷ 2 ∷ 2 ∷ 0 ∷ 0 ∷ 1 ∷ 0 ∷ 1 ∷ 0 ∷ 2 ∷ 2 ∷ 0 ∷ []

-- P7: x through a DFF to output 0, and straight to output 1
abbrev pub two_outputs : List ℕ
two_outputs = 1 ∷ 0 ∷ 1 ∷ 1 ∷ 0 ∷ 8 ∷ 1 ∷ 0 ∷ 0 ∷ 2 ∷ 0 ∷ 2 ∷ 1 ∷ 0 ∷ 3 ∷ 0 ∷ 0 ∷ []

-- x to three NOTs, the first and the second into an AND, the second and the third into another: a with b and b with c, and no output of a and c
abbrev pub chained : List ℕ
chained = 1 ∷ 0 ∷ 1 ∷ 5 ∷ 0 ∷ 1 ∷ 1 ∷ 0 ∷ 0 ∷ 1 ∷ 1 ∷ 0 ∷ 0 ∷ 1 ∷ 1 ∷ 0 ∷ 0 ∷ 2 ∷ 2 ∷ 1 ∷ 0 ∷ 2 ∷ 0 ∷ 2 ∷ 2 ∷ 2 ∷ 0 ∷ 3 ∷ 0 ∷ 2 ∷ 0 ∷ 2 ∷ 4 ∷ 0 ∷ 3 ∷ 5 ∷ 0 ∷ []

-- P8: x to a BUF, the BUF's net to an XOR straight and through a DFF
abbrev pub buffered : List ℕ
buffered = 1 ∷ 0 ∷ 1 ∷ 3 ∷ 0 ∷ 0 ∷ 1 ∷ 0 ∷ 0 ∷ 8 ∷ 1 ∷ 1 ∷ 0 ∷ 6 ∷ 2 ∷ 1 ∷ 0 ∷ 2 ∷ 0 ∷ 1 ∷ 0 ∷ 2 ∷ 3 ∷ 0 ∷ []

-- P8 transformed: the second block has a copy of the BUF
abbrev pub buffered_transformed : List ℕ
buffered_transformed = 2 ∷ 0 ∷ 1 ∷ 2 ∷ 4 ∷ 0 ∷ 0 ∷ 1 ∷ 0 ∷ 0 ∷ 0 ∷ 1 ∷ 2 ∷ 0 ∷ 6 ∷ 2 ∷ 5 ∷ 0 ∷ 3 ∷ 0 ∷ 0 ∷ 1 ∷ 1 ∷ 0 ∷ 1 ∷ 0 ∷ 3 ∷ 4 ∷ 0 ∷ []

-- P8 with a NOT where it has the BUF
abbrev pub inverted : List ℕ
inverted = 1 ∷ 0 ∷ 1 ∷ 3 ∷ 0 ∷ 1 ∷ 1 ∷ 0 ∷ 0 ∷ 8 ∷ 1 ∷ 1 ∷ 0 ∷ 6 ∷ 2 ∷ 1 ∷ 0 ∷ 2 ∷ 0 ∷ 1 ∷ 0 ∷ 2 ∷ 3 ∷ 0 ∷ []

-- three BUFs in a row, the second's net to an XOR through the third and through a DFF, the first's net an output
abbrev pub threefold : List ℕ
threefold = 1 ∷ 0 ∷ 1 ∷ 5 ∷ 0 ∷ 0 ∷ 1 ∷ 0 ∷ 0 ∷ 0 ∷ 1 ∷ 1 ∷ 0 ∷ 0 ∷ 1 ∷ 2 ∷ 0 ∷ 8 ∷ 1 ∷ 2 ∷ 0 ∷ 6 ∷ 2 ∷ 3 ∷ 0 ∷ 4 ∷ 0 ∷ 2 ∷ 0 ∷ 2 ∷ 5 ∷ 0 ∷ 3 ∷ 1 ∷ 0 ∷ []

-- that circuit transformed: the second block has copies of all three BUFs, and the third one of the first
abbrev pub threefold_transformed : List ℕ
threefold_transformed =
    3 ∷ 0 ∷ 1 ∷ 2 ∷ 3 ∷ 9 ∷ 0 ∷ 0 ∷ 1 ∷ 0 ∷ 0 ∷ 0 ∷ 1 ∷ 3 ∷ 0 ∷ 0 ∷ 1 ∷ 4 ∷ 0 ∷ 0 ∷ 1 ∷ 4 ∷ 0 ∷ 6 ∷ 2 ∷ 10 ∷ 0 ∷ 6 ∷ 0
    ∷ 0 ∷ 1 ∷ 1 ∷ 0 ∷ 0 ∷ 1 ∷ 8 ∷ 0 ∷ 0 ∷ 1 ∷ 9 ∷ 0 ∷ 0 ∷ 1 ∷ 2 ∷ 0 ∷ 2 ∷ 0 ∷ 4 ∷ 7 ∷ 0 ∷ 5 ∷ 11 ∷ 0 ∷ []

-- P9: a DFF that feeds itself
abbrev pub self_fed : List ℕ
self_fed = 1 ∷ 0 ∷ 1 ∷ 1 ∷ 0 ∷ 8 ∷ 1 ∷ 1 ∷ 0 ∷ 1 ∷ 0 ∷ 2 ∷ 1 ∷ 0 ∷ []

-- a BUF that hangs from a DFF that feeds itself: net 1 hangs from the loop, and net 2 is on it
abbrev pub hanging : List ℕ
hanging = 1 ∷ 0 ∷ 1 ∷ 2 ∷ 0 ∷ 0 ∷ 1 ∷ 2 ∷ 0 ∷ 8 ∷ 1 ∷ 2 ∷ 0 ∷ 1 ∷ 0 ∷ 2 ∷ 1 ∷ 0 ∷ []

-- P10: the empty file
abbrev pub empty : List ℕ
empty = []
