-- A branch goes to what stands for its net in its block, a pin into a pad buffer to the lowest block, any other to its net's old cell.
use Prim.Native.Nat.{◌<◌, ◌-◌}
use mathlib.Core.Path.{ap, ◌∙◌}
use native.Mathlib.Omega.{arith}
use lib.ListN.{get_or}
use Rattle.chip.specs.Netlist.{all_pins}
use Rattle.chip.specs.Transformed.{net_for}
use Rattle.opening.specs.Open.{netlist_of}
use Rattle.transform.specs.Inner.New.{blocks_in}
use Rattle.transform.proofs.New.{copied_net, branch_block, pad_net, cell_net}
use Rattle.transform.proofs.new_net.Goals as goal
use Rattle.transform.proofs.new_net.Goals.{Start}

-- the pin is one of the netlist's
pin : (s : Start) → s.args.p < all_pins (netlist_of s.args.opened.now)
pin s = omega (arith, s.requires.pin, s.requires.copied.is_open.ready.pins)

pub net_for-requires : goal.net_for-requires
net_for-requires c =
    let a = c.args in
    let K = c.requires.copied in
    let h = pin (goal.at.net_for-requires c).Start in
    let (e, l) = branch_block (copied_net K) a.p h (omega (arith, c.from.ensures, c.if-from-i.true)) in
    record { copied = K; block = (omega (arith, c.from-then-from-i.ensures, l), omega (arith, c.from-net.ensures, K.is_open.ready.limits.sound.named a.p h)) }

pub returns-then-from-i : goal.returns-then-from-i
returns-then-from-i c K =
    let (e, _) = branch_block (copied_net K) c.args.p (pin (goal.at.returns-then-from-i c).Start) (omega (arith, c.from.ensures, c.if-from-i.true)) in
    c.net_for.ensures K
    ∙ ap (λ k. net_for (netlist_of c.args.opened.now) (blocks_in K.is_open) k c.from-net.result) (c.from-then-from-i.ensures ∙ e)
    ∙ ap (net_for (netlist_of c.args.opened.now) (blocks_in K.is_open) _) c.from-net.ensures

pub returns-then-net-i : goal.returns-then-net-i
returns-then-net-i c K =
    let w = c.from-net.ensures in
    ap (λ n. get_or c.args.found.now.lowest n 0) w
    ∙ pad_net (copied_net K) c.args.p (pin (goal.at.returns-then-net-i c).Start) (omega (arith, c.from.ensures, c.if-from-i.false)) (omega (arith, w, c.if-net-i.true))

pub returns : goal.returns
returns c K =
    let w = c.from-net.ensures in
    let q = cell_net (copied_net K) c.args.p (pin (goal.at.returns c).Start) (omega (arith, c.from.ensures, c.if-from-i.false)) (get_or c.args.opened.now.nets c.args.p 0 - c.args.opened.now.sizes.inputs) (omega (arith, w, c.if-net-i.false)) in
    omega (arith, q, w)
