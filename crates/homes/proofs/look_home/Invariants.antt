use Rattle.homes.specs.Homes.{LookedHome}
use Prim.Native.Nat.{◌+◌}
use Rattle.homes.proofs.look_home.Given as goal

abbrev pub invariant-loop-e : goal.invariant-loop-e
invariant-loop-e l =
    let h = l.home in
    LookedHome l.e h.kind h.net h.pin (16 + h.number) h.first h.count l.q l.u l.src l.outs l.goods l.vals l.initial.known.left l.initial.known.best l.initial.known.pat l.known.left l.known.best l.known.pat
