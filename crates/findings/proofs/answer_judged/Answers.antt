-- What was looked for tells whether an output is wide, and the verdict's walk, where the play has room, is the search's answer.
use Prim.Native.Nat.{ℕ, ◌+◌, ◌/◌, ◌≤◌, ◌<◌}
use mathlib.Core.Path.{refl}
use mathlib.Core.List.{List}
use native.Mathlib.Omega.{arith}
use native.Mathlib.Nat.{mul-le-mul}
use native.Mathlib.Numerals.{add-one}
use lib.ListN.{get_or}
use Rattle.chip.specs.Inner.Tables.{sized}
use Rattle.chip.specs.Class.{blocks}
use Rattle.chip.specs.Faults.{FaultIn}
use Rattle.chip.specs.Search.{SiteReaches}
use Rattle.chip.specs.declared.Fault.{Fault}
use Rattle.faults.specs.Numbers.{fault_number}
use Rattle.faults.proofs.Numbers.{fault_in}
use Rattle.levels.specs.Levels.{Mask}
use Rattle.walk.specs.Walk.{TooWide, Walkable, WalkIs}
use Rattle.findings.specs.Answered.{Looked}
use Rattle.findings.proofs.Answering.{walkable, reply_16, reply_15, answer_refused, answer_found, answer_none}
use Rattle.findings.proofs.Wide.{narrow_word}
use Rattle.findings.proofs.answer_judged.Goals as goal
use Rattle.findings.proofs.answer_judged.Goals.{Start, After-first_wide-y, Else-y-z, After-verdict}

-- the number of the fault is below the number of faults that there can be
few : (s : Start) → s.args.f < 10368
few s =
    let L = s.requires.4 in
    omega (arith, L.judged.a_fault, L.ready.pins, L.ready.limits.few_inputs, L.ready.limits.few_cells, L.ready.limits.few_pins)

-- A chip with these tables, on which the fault was looked for.

abbrev Asked : Start → List ℕ → List ℕ → List ℕ → List ℕ → Type 0
Asked s kinds counts nets reached =
    let a = s.args in
    Looked a.z a.s a.f a.wides a.sites.now a.widths.now a.best.now a.pat.now kinds counts nets reached

abbrev fault : Start → Fault
fault s = fault_number (s.args.z.inputs + s.args.z.cells) s.args.f

abbrev outs : Start → ℕ
outs s = get_or s.args.sites.now (s.args.f / 2) 0

module _ (s : Start) {kinds counts nets reached : List ℕ} (L : Asked s kinds counts nets reached) where
  has_fault : FaultIn (sized s.args.z kinds counts nets) (fault s)
  has_fault = fault_in (sized s.args.z kinds counts nets) s.args.f (omega (arith, L.judged.a_fault, L.ready.pins))

  mask : Mask s.args.z.outputs (outs s) (SiteReaches (sized s.args.z kinds counts nets) (fault s).site)
  mask = L.judged.sites_are.at (s.args.f / 2) (omega (arith, L.judged.a_fault, L.ready.pins))

module _ (c : After-first_wide-y) {kinds counts nets reached : List ℕ} (L : Asked (goal.at.After-first_wide-y c).Start kinds counts nets reached) where
  too_wide : TooWide c.args.z.outputs c.args.s.blocks (outs (goal.at.After-first_wide-y c).Start) reached c.first_wide-y.result
  too_wide = c.first_wide-y.ensures _ _ _ L.judged.widths_are L.judged.wides_are

-- none of the site's outputs is wide, so the walk over them is that of 01
module _ (c : Else-y-z) {kinds counts nets reached : List ℕ} (L : Asked (goal.at.Else-y-z c).Start kinds counts nets reached) where
  walks : Walkable (sized c.args.z kinds counts nets) c.args.s (fault (goal.at.Else-y-z c).Start) (outs (goal.at.Else-y-z c).Start) reached
  walks =
      let at = goal.at.Else-y-z c in
      walkable L.ready L.even (fault at.Start) _ (mask at.Start L) _ (too_wide at.After-first_wide-y L) (omega (arith, c.if-y-z.false))

module _ (c : After-verdict) {kinds counts nets reached : List ℕ} (L : Asked (goal.at.After-verdict c).Start kinds counts nets reached) where
  walked : WalkIs (sized c.args.z kinds counts nets) (blocks (sized c.args.z kinds counts nets) L.ready.shaped.low) (fault (goal.at.After-verdict c).Start) (outs (goal.at.After-verdict c).Start) reached c.verdict.result
  walked =
      let at = goal.at.After-verdict c in
      let J = L.judged in
      let low = L.ready.shaped.low in
      let (left, S) = J.found low L.ready.shaped.prepared.lowest (narrow_word _ _ _ _ _ _ _ (omega arith) J.widths_are J.wides_are (too_wide at.After-first_wide-y L) (omega (arith, c.if-y-z.false))) in
      c.verdict.ensures (sized c.args.z kinds counts nets) c.args.s.blocks reached low (fault at.Start) left refl L.ready.shaped.count J.widths_are (rw c.from.ensures S)

pub bounds-sites-f : goal.bounds-sites-f
bounds-sites-f c = omega (arith, few (goal.at.bounds-sites-f c).Start)

pub returns-then-y-z : goal.returns-then-y-z
returns-then-y-z c kinds counts nets reached L =
    let at = goal.at.returns-then-y-z c in
    rw c.at.ensures (answer_refused _ _ _ _ _ _ (λ entry _. reply_16 L.ready L.even _ _ (mask at.Start L) (has_fault at.Start L) _ entry (too_wide at.After-first_wide-y L) c.if-y-z.true))

pub overflow_mul-long : goal.overflow_mul-long
overflow_mul-long c =
    let R = c.requires.4.ready in
    let h : c.args.s.depth + 1 ≤ 256 = omega (arith, R.shaped.shallow) in
    omega (arith, mul-le-mul h R.limits.few_inputs)

pub returns-then-room-long : goal.returns-then-room-long
returns-then-room-long c kinds counts nets reached L =
    let at = goal.at.returns-then-room-long c in
    rw c.at-then-room-long.ensures
    (answer_refused _ _ _ _ _ _ (λ entry l. reply_15 L.ready L.even _ _ (mask at.Start L) (has_fault at.Start L) entry (walks at.Else-y-z L) (rw l c.if-room-long.true)))

pub bounds-best-f : goal.bounds-best-f
bounds-best-f c = omega (arith, few (goal.at.bounds-best-f c).Start)

pub bounds-pat-f : goal.bounds-pat-f
bounds-pat-f c = omega (arith, few (goal.at.bounds-pat-f c).Start)

pub verdict-requires-clause-by_index : goal.verdict-requires-clause-by_index
verdict-requires-clause-by_index c =
    let L = c.requires.4 in
    (_, _, L.judged.widths_are, (walks (goal.at.verdict-requires-clause-by_index c).Else-y-z L).narrow)

pub returns-in-Missed : goal.returns-in-Missed
returns-in-Missed c kinds counts nets reached L =
    let at = goal.at.returns-in-Missed c in
    answer_none L.ready L.even _ _ (mask at.Start L) (has_fault at.Start L) (walks at.Else-y-z L) _ (rw add-one at c.if-room-long.false) _ (walked at.After-verdict L) _ c.in-Missed.is

pub returns-in-Hit : goal.returns-in-Hit
returns-in-Hit c kinds counts nets reached L =
    let at = goal.at.returns-in-Hit c in
    answer_found L.ready L.even _ _ (mask at.Start L) (has_fault at.Start L) (walks at.Else-y-z L) _ (rw add-one at c.if-room-long.false) _ (walked at.After-verdict L) _ _ _ c.in-Hit.is
