-- The tables of a file that was taken hold its netlist; so what is found of the tables is what the file opens as.
use Prim.Native.Nat.{ℕ, ◌≤◌}
use mathlib.Core.Path.{◌≡◌, sym, ap, ◌∙◌, subst, fun_ext}
use mathlib.Core.Logic.{inl, inr, ◌⊎◌}
use mathlib.Core.List.{List}
use Rattle.std.specs.Prelude.{Err}
use native.Mathlib.Omega.{arith}
use Rattle.chip.specs.Netlist.{Netlist, all_pins}
use Rattle.chip.specs.Inner.Limits.{InLimits}
use Rattle.chip.specs.Inner.Tables.{sized}
use Rattle.chip.specs.Got.{refused, got}
use Rattle.chip.specs.Format.{chip_of}
use Rattle.chip.specs.Class.{LoopFree, Prepared}
use Rattle.chip.specs.Refusals.{refuses, goes_on, When9, When10, Opens, read, prepared}
use Rattle.chip.specs.Replies.{ClassOn}
use Rattle.chip.specs.declared.Reason.{Reason}
use Rattle.chip.specs.declared.Refusal.{Refusal}
use Rattle.netlist.specs.Inner.Holds.{Holds}
use Rattle.netlist.specs.declared.Tables.{Tables}
use Rattle.replies.proofs.Opening.{read_limits}
use Rattle.structure.specs.Inner.Shape.{IsLooped, IsDeep}
use Rattle.opening.specs.Open.{netlist_of, IsOpen}
use Rattle.opening.specs.declared.Chip.{Chip}

-- the netlist that the tables of a reading hold
abbrev pub tables_chip : Tables → Netlist
tables_chip r = sized r.sizes r.kinds r.counts r.nets

module _ (file : List ℕ) (r : Tables) (h : Holds file r) where
  tables_chip_lem : tables_chip r ≡ chip_of h.x
  unfolding chip_of
  tables_chip_lem = λ i. record {
    inputs = h.inputs i;
    cells = h.cells i;
    outs = h.outputs i;
    kind = fun_ext h.kind_at i;
    pins = fun_ext h.count_at i;
    net = fun_ext h.net_at_lem i;
  }

  pub tables_limits : InLimits (tables_chip r)
  tables_limits = subst InLimits (sym tables_chip_lem) (read_limits file h.x h.read)

  pub tables_pins : r.sizes.pins ≡ all_pins (tables_chip r)
  tables_pins = h.pins ∙ ap all_pins (sym tables_chip_lem)

  pub opens_looped : (n : ℕ) → When9 (tables_chip r) n → Opens file (refused Reason.Looped n)
  opens_looped n l = read h.read (refuses (subst (λ N. When9 N n) tables_chip_lem l))

  pub opens_deep : (y : ℕ) → LoopFree (tables_chip r) × When10 (tables_chip r) y → Opens file (refused Reason.TooDeep y)
  opens_deep y d =
      let e : LoopFree (chip_of h.x) × When10 (chip_of h.x) y = subst (λ N. LoopFree N × When10 N y) tables_chip_lem d in
      read h.read (goes_on (λ n w. e.0 n w.holds) (refuses e.1))

  -- a chip that is prepared is opened, for it has no loop and is not too deep
  pub opens_chip : (d : ℕ) (low : ℕ → ℕ) (k : ℕ) → Prepared (tables_chip r) d low k → d ≤ 255 → Opens file (got (tables_chip r))
  opens_chip d low k S l =
      let P : Prepared (chip_of h.x) d low k = subst (λ N. Prepared N d low k) tables_chip_lem S in
      read h.read (goes_on (λ n w. P.loop_free n w.holds)
      (goes_on (λ y w. let D = w.holds in omega (arith, P.depth.within y D.pin D.depth D.input D.reach, D.over)) (ap got tables_chip_lem)))

  -- what is found of the tables is what the file is refused by
  pub opens_unfit : (e : Refusal) → IsLooped (tables_chip r) e ⊎ (LoopFree (tables_chip r) × IsDeep (tables_chip r) e) → Opens file (Err e)
  opens_unfit e (inl h) = rw (← h.0) at opens_looped e.place h.1
  opens_unfit e (inr h) = rw (← h.1.0) at opens_deep e.place (h.0, h.1.1)

-- naming the class of an open chip
pub class_is_on : (t : Chip) → IsOpen t → ClassOn (netlist_of t) (got (record { class = t.shape.class; depth = t.shape.depth; blocks = t.shape.blocks }))
class_is_on t o = prepared o.ready.shaped.prepared (ap (λ b. got (record { class = t.shape.class; depth = t.shape.depth; blocks = b })) o.ready.shaped.count)
