-- All lanes hold those of any fault, and otherwise `each_lane` joins the lanes of each open fault.
use borrow.Author.Rules.{rules}
use Prim.Native.Nat.{◌-◌, ◌^◌}
use mathlib.Core.Path.{◌≡◌}
use lib.ListN.{replicate}
use Rattle.homes.proofs.Looking.{lanes_all}
use Rattle.homes.proofs.home_lanes.Goals as goal

pub returns-then-left-home-ne0-2 : goal.returns-then-left-home-ne0-2
returns-then-left-home-ne0-2 c =
    let e : c.fill.new.self ≡ replicate 16 (2 ^ 64 - 1) = search rules in
    rw e (lanes_all _ _ _ _ _ _ _ _ _ _ _)
