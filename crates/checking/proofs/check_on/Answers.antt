-- Each test that is passed rules out one refusal in the order of the reply, and what the clocks show is then the answer.
use Prim.Native.Nat.{ℕ}
use mathlib.Core.Path.{refl, sym}
use mathlib.Core.List.{List}
use Rattle.std.specs.Prelude.{Option, Some, None}
use Rattle.chip.specs.Netlist.{Netlist}
use Rattle.chip.specs.Faults.{FaultIn, stuck}
use Rattle.chip.specs.Refusals.{refuses, goes_on, prepared, Clocks}
use Rattle.chip.specs.Replies.{Checks, shows, shows_not}
use Rattle.chip.specs.Got.{got}
use Rattle.chip.specs.declared.Fault.{Fault}
use Rattle.chip.specs.declared.Sight.{Sight}
use Rattle.faults.specs.Sites.{Known}
use Rattle.plays.proofs.Bytes.{not_above}
use Rattle.opening.specs.Open.{netlist_of}
use Rattle.running.specs.Verdict.{Verdict}
use Rattle.checking.proofs.check_on.Goals as goal
use Rattle.checking.proofs.check_on.Goals.{After-known, Else-not-known}

-- what the test of the site says
told : (c : After-known) → Known (netlist_of c.args.opened.now) c.args.fault c.known.result
told c = c.known.ensures (netlist_of c.args.opened.now) refl refl (sym c.requires.ready.pins)

site : (c : Else-not-known) → FaultIn (netlist_of c.args.opened.now) c.args.fault
site c = rw c.if-not-known.false at (told (goal.at.Else-not-known c).After-known)

-- what the clocks of a play show is what checking it answers
shown : (N : Netlist) (d : ℕ) (fault : Fault) (play : List ℕ) (n : ℕ) → Clocks N.inputs play n → (r : Option Sight) → Verdict N (stuck fault) play d n r → Checks N d fault play (got r)
shown N d fault play n K (Some s) S = shows K S
shown N d fault play n K None S = shows_not K S

pub returns-then-not-known : goal.returns-then-not-known
returns-then-not-known c =
    rw c.at.ensures (prepared c.requires.ready.shaped.prepared (refuses (record { there = refl; holds = rw c.if-not-known.true at (told (goal.at.returns-then-not-known c).After-known) })))

pub returns-in_default : goal.returns-in_default
returns-in_default c =
    rw c.at-in_default.ensures (prepared c.requires.ready.shaped.prepared (goes_on (λ p w. w.holds (site (goal.at.returns-in_default c).Else-not-known)) (refuses (record { there = refl; holds = c.in_default.ensures }))))

pub returns-in-Some-first_above_one : goal.returns-in-Some-first_above_one
returns-in-Some-first_above_one c =
    rw c.at-in-Some-first_above_one.ensures (prepared c.requires.ready.shaped.prepared (goes_on (λ p w. w.holds (site (goal.at.returns-in-Some-first_above_one c).Else-not-known)) (goes_on (λ p w. w.holds _ c.in-Some.ensures) (refuses c.in-Some-first_above_one.ensures))))

pub run_on-requires-clause-fault_in : goal.run_on-requires-clause-fault_in
run_on-requires-clause-fault_in c = (site (goal.at.run_on-requires-clause-fault_in c).Else-not-known, record { long = c.in-Some.ensures.long; bits = c.in_default-first_above_one.ensures })

pub returns : goal.returns
returns c =
    prepared c.requires.ready.shaped.prepared (goes_on (λ p w. w.holds (site (goal.at.returns c).Else-not-known)) (goes_on (λ p w. w.holds _ c.in-Some.ensures) (goes_on (not_above c.in_default-first_above_one.ensures) (shown _ _ _ _ _ c.in-Some.ensures _ c.run_on.ensures))))
