-- The outputs that a pin reaches at any depth are those that it reaches at depth 0 without the flip-flops.
use Prim.Native.Nat.{ℕ}
use mathlib.Core.Path.{◌≡◌, ◌∙◌, fun_ext}
use mathlib.Core.List.{List}
use lib.ListN.{get_or}
use Rattle.chip.specs.Netlist.{Netlist}
use Rattle.chip.specs.Inner.Limits.{InLimits}
use Rattle.chip.specs.Inner.Tables.{tabled}
use Rattle.chip.specs.Transformed.{flat, flattened}
use Rattle.chip.proofs.Basics.{takes_flat, flat_known}
use Rattle.chip.proofs.Opened.{to_flat, from_flat}
use Rattle.order.specs.Order.{Ordered}
use Rattle.levels.specs.Levels.{PinMasks, ReachMasks}
use Rattle.levels.proofs.Masks.{mask_same}

module _ (N : Netlist) where
  pub flat_limits : InLimits N → InLimits (flattened N)
  flat_limits L =
      record {
        some_input = L.some_input;
        few_inputs = L.few_inputs;
        few_cells = L.few_cells;
        some_output = L.some_output;
        few_outputs = L.few_outputs;
        few_pins = L.few_pins;
        kinds_known = λ j h. flat_known (N.kind j) (L.kinds_known j h);
        pins_taken = λ j h. takes_flat (N.kind j) (N.pins j) ∙ L.pins_taken j h;
        sound = record { pinned = L.sound.pinned; named = L.sound.named };
      }

  pub flat_ordered : (order : List ℕ) → Ordered N order → Ordered (flattened N) order
  flat_ordered order o =
      record { cell = o.cell; place = o.place; placed = o.placed; once = o.once; after = λ k p l q. o.after k p l (record { cell = q.cell; from = q.from; to = q.to }) }

  -- what reaches an output at depth 0 without flip-flops reaches it at some depth
  pub flat_masks : (cone : List ℕ) → PinMasks (flattened N) 0 cone → ReachMasks N cone
  flat_masks cone m p l = mask_same (λ z _ r. from_flat N z r) (λ z _ s. to_flat N z s.1) (m p l)

-- the tables with the kinds without their flip-flops
pub flat_tabled : (i c o : ℕ) (kinds gates counts nets : List ℕ) → ((j : ℕ) → get_or gates j 0 ≡ flat (get_or kinds j 0))
    → tabled i c o gates counts nets ≡ flattened (tabled i c o kinds counts nets)
flat_tabled i c o kinds gates counts nets h =
    λ t. record { inputs = i; cells = c; outs = o; kind = fun_ext h t; pins = λ j. get_or counts j 0; net = λ p. get_or nets p 0 }
