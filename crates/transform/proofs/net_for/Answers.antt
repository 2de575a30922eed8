-- An input stands as the block, a marked cell as the copy with its number, an unmarked one as itself, by the marks and numbers.
use Prim.Native.Nat.{◌-◌}
use native.Mathlib.Omega.{arith}
use Rattle.transform.proofs.New.{copied_net, copy_low, for_pad, for_marked, for_unmarked}
use Rattle.transform.proofs.net_for.Goals as goal

pub returns-then-net-z : goal.returns-then-net-z
returns-then-net-z c K = for_pad (copied_net K) c.args.k c.args.net c.requires.block.0 c.requires.block.1 c.if-net-z.true

-- the number of the copy is one of a cell that a file can hold
pub overflow_cast-result-then-found-place-eq1 : goal.overflow_cast-result-then-found-place-eq1
overflow_cast-result-then-found-place-eq1 c =
    let K = c.requires.copied in
    omega (arith, c.from.ensures, K.few_blocks, K.few_cells, copy_low (copied_net K) c.args.k (c.args.net - c.args.opened.now.sizes.inputs) c.requires.block.0 (omega (arith, c.if-net-z.false, c.requires.block.1)) c.if-found-place-eq1.true)

pub returns-then-found-place-eq1 : goal.returns-then-found-place-eq1
returns-then-found-place-eq1 c K =
    let q = for_marked (copied_net K) c.args.k c.args.net c.requires.block.0 c.requires.block.1 (c.args.net - c.args.opened.now.sizes.inputs) (omega (arith, c.if-net-z.false)) c.if-found-place-eq1.true in
    omega (arith, q, c.from.ensures)

pub returns : goal.returns
returns c K = for_unmarked (copied_net K) c.args.k c.args.net c.requires.block.0 c.requires.block.1 (c.args.net - c.args.opened.now.sizes.inputs) (omega (arith, c.if-net-z.false)) c.if-found-place-eq1.false
