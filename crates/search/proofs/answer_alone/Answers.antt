-- An open chip is all that `judge` asks, and the fault is the one that it looked for.
use Prim.Native.Nat.{ℕ}
use native.Mathlib.Omega.{arith}
use lib.ListN.{length-replicate, get_or-replicate}
use Rattle.chip.proofs.Basics.{zero_at}
use Rattle.search.proofs.answer_alone.Goals as goal

pub judge-wides-requires-clause-sites_len : goal.judge-wides-requires-clause-sites_len
judge-wides-requires-clause-sites_len c = (length-replicate {A = ℕ} 5184 0, (λ x. zero_at 5184 x), length-replicate {A = ℕ} 64 0)

pub judge-wides-requires-clause-fresh : goal.judge-wides-requires-clause-fresh
judge-wides-requires-clause-fresh c = (record { long_left = length-replicate {A = ℕ} 10368 0; long_best = length-replicate {A = ℕ} 10368 64; long_pat = length-replicate {A = ℕ} 10368 0 }, (λ f h. get_or-replicate 10368 f 64 0 h))

pub answer_judged-requires : goal.answer_judged-requires
answer_judged-requires c =
    let p = c.requires in
    (_, _, _, _, record { firsts = _; order = _; branches = _; block = _; ready = p.fact.ready; even = p.class_nonzero.0; judged = c.judge-wides.ensures _ (omega arith) (omega arith) })

pub returns : goal.returns
returns c =
    let p = c.requires in
    c.answer_judged.ensures _ _ _ _
    (record { firsts = _; order = _; branches = _; block = _; ready = p.fact.ready; even = p.class_nonzero.0; judged = c.judge-wides.ensures _ (omega arith) (omega arith) })
