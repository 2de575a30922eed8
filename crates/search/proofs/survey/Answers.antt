-- Every output is in the word of all ones and every fault in the range that is looked for, so nothing is left out.
use Prim.Native.Nat.{ℕ}
use native.Mathlib.Omega.{arith}
use lib.ListN.{length-replicate, get_or-replicate}
use Rattle.chip.proofs.Basics.{zero_at}
use Rattle.words.proofs.Bits.{digit_ones}
use Rattle.search.proofs.survey.Goals as goal

pub judge-wides-requires-clause-sites_len : goal.judge-wides-requires-clause-sites_len
judge-wides-requires-clause-sites_len c = (length-replicate {A = ℕ} 5184 0, (λ x. zero_at 5184 x), length-replicate {A = ℕ} 64 0)

pub judge-wides-requires-clause-fresh : goal.judge-wides-requires-clause-fresh
judge-wides-requires-clause-fresh c = (record { long_left = length-replicate {A = ℕ} 10368 0; long_best = length-replicate {A = ℕ} 10368 64; long_pat = length-replicate {A = ℕ} 10368 0 }, (λ f h. get_or-replicate 10368 f 64 0 h))

pub returns : goal.returns
returns c =
    let p = c.requires in
    record {
      looked = λ g l. record { firsts = _; order = _; branches = _; block = _; ready = p.0.ready; even = p.1; judged = c.judge-wides.ensures g (omega arith) l };
      places = record { row = λ y l. c.spots_of.ensures y (digit_ones y (omega (arith, p.0.ready.limits.few_outputs))) };
    }
