use lib.Bits.{bit_xor}
use lib.ListN.{get_or}
use Rattle.rows.specs.Rows.{Filled}
use Rattle.rows.proofs.turned.Given as goal

abbrev pub invariant-loop-k : goal.invariant-loop-k
invariant-loop-k l = Filled 0 l.k (λ k. bit_xor (get_or l.words k 0) l.m) l.initial.out l.out
