-- After k pins the bytes stored are the words of their nets, and the next word goes right behind them.
use Prim.Native.Nat.{◌+◌, ◌-◌, ◌<◌}
use Rattle.writing.proofs.Puts.{part_at}
use mathlib.Core.Path.{refl}
use mathlib.Core.List.{[]}
use native.Mathlib.Omega.{arith}
use Rattle.chip.specs.File.{word, pins_file}
use Rattle.chip.specs.Inner.Tables.{tabled}
use Rattle.writing.proofs.Lengths.{pins_long}
use Rattle.writing.proofs.Puts.{put_more, put_length}
use Rattle.writing.proofs.put_pins.Goals as goal

pub put_word-at-requires : goal.put_word-at-requires
put_word-at-requires c =
    let l = c.loop-net in
    let p = l.invariant 0 0 0 [] [] in
    omega (arith, p.next, pins_long (tabled 0 0 0 [] [] c.args.nets.now) c.args.from l.net-index, put_length p)

pub loop-net-preserved : goal.loop-net-preserved
loop-net-preserved c =
    let a = c.args in
    let l = c.loop-net in
    let h : l.net-index < a.from + a.n - a.from = omega arith in
    λ i c' o kinds counts.
    let N = tabled i c' o kinds counts a.nets.now in
    put_more (pins_file N a.from) (λ k. word (N.net (a.from + k))) (λ n. refl) (l.invariant i c' o kinds counts)
    (rw (part_at a.from (a.from + a.n - a.from) l.net-index a.nets.now h) at c.put_word-at.ensures)
