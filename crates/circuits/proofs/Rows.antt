-- The listing and P1 to P10: each row is a reply that the call's contract allows, and so the reply.
use Rattle.std.specs.Prelude.{None}
use Prim.Native.Nat.{ℕ, zero, suc, ◌+◌, ◌*◌, ◌≤◌, ◌<◌}
use mathlib.Core.Path.{◌≡◌, refl}
use mathlib.Core.List.{List, [], ◌∷◌}
use lib.ListN.{length}
use lib.Dec.{T, eqb, eqb→eq}
use native.Mathlib.Omega.{arith}
use native.Mathlib.Decide.{dec_lt}
use Rattle.chip.specs.Netlist.{Netlist, first_pin, out_pin}
use Rattle.chip.specs.Got.{got}
use Rattle.chip.specs.Format.{Parsed, read_of, chip_of}
use Rattle.chip.specs.Class.{Feeds, direct, via}
use Rattle.chip.specs.Faults.{SiteIn, FaultIn}
use Rattle.chip.specs.Refusals.{refuses, Least, When9, unread, read}
use Rattle.chip.specs.Replies.{CheckReply, SearchReply}
use Rattle.chip.specs.declared.Site.{Site}
use Rattle.chip.specs.declared.Site.TheVariants.{Net, Pin}
use Rattle.chip.specs.declared.Fault.{Fault}
use Rattle.chip.specs.declared.Searched.{Searched}
use Rattle.chip.proofs.Basics.{sum_up}
use Rattle.chip.proofs.Loops.{fed_cell}
use Rattle.chip.proofs.Tests.{every, every_at}
use Rattle.circuits.specs.Circuits.{listing, straight, never_one, two_outputs, chained, buffered, inverted, threefold, hanging}
use Rattle.circuits.specs.Table.{SmallCircuits}
use Rattle.circuits.specs.Useless.{Hangs}
use Rattle.circuits.proofs.Small.{Small, working, N, B, depth, in_chip, class_reply, transform_reply, check_reply, set_reply, search_reply}

-- the net that a cell's pin names feeds the cell's net; if all cells' pins name one net, nothing else feeds
feeds_at : (N : Netlist) (j p : ℕ) → (j < N.cells) × (first_pin N j ≤ p) × (p < first_pin N j + N.pins j) → Feeds N (N.net p) (N.inputs + j)
feeds_at N j p q = direct (record { cell = q.0; from = q.1; to = q.2 })

fed_by : {N : Netlist} {m k : ℕ} (n : ℕ) → T (every (out_pin N 0) (λ p. eqb (N.net p) n)) → Feeds N m k → m ≡ n
fed_by {N} n t (direct {j = j} {p = p} o) = eqb→eq (N.net p) n (every_at (out_pin N 0) _ t p (omega (arith, sum_up N.pins (suc j) N.cells o.cell)))
fed_by n t (via f o) = fed_by n t f

-- the circuit beside P9: net 1 is the lowest that hangs from a loop, and net 2 the lowest on one
pub hung : (x : Parsed) × (read_of hanging ≡ got x) × Least (Hangs (chip_of x)) 1 × When9 (chip_of x) 2
unfolding working
hung = (
  _,
  refl,
  record { holds = (2, feeds_at _ 1 1 (omega arith), feeds_at _ 0 0 (omega arith)); none_below = λ m l h. omega (arith, (fed_cell h.2).2) },
  record { holds = feeds_at _ 1 1 (omega arith); none_below = λ m l f. omega (arith, fed_by 2 tt f) },
)

-- P4, for both bits
listed_short : (fault : Fault) (x : Parsed) → read_of listing ≡ got x → FaultIn (chip_of x) fault → (b : ℕ) → b ≤ 1 → CheckReply listing fault (b ∷ []) (got None)
unfolding working
listed_short fault x e h zero l = let g = in_chip listing (tt, tt) fault x e h in (check_reply listing (tt, tt) fault (0 ∷ []) 1 (g.site, g.value, refl, omega arith)).1
listed_short fault x e h (suc zero) l = let g = in_chip listing (tt, tt) fault x e h in (check_reply listing (tt, tt) fault (1 ∷ []) 1 (g.site, g.value, refl, omega arith)).1
listed_short fault x e h (suc (suc b)) l = absurd (omega arith)

-- the search for a fault of a circuit whose plays have two bytes
unfoldable found_at : (file : List ℕ) (s : Small (read_of file)) → suc (depth file s) * (N file s).inputs ≡ 2 → (B file s).count ≤ 16 → (entry : List ℕ) → 2 ≤ length entry
    → (site : Site) (stuck : ℕ) → SiteIn (N file s) site × (stuck ≤ 1) → (a : Searched × List ℕ) × SearchReply file (record { site = site; stuck = stuck }) entry a
found_at file s two few entry h site stuck q = search_reply file s (record { site = site; stuck = stuck }) (q.0, q.1, few) entry (no (λ l. omega arith))

pub small_circuits : SmallCircuits
unfolding working found_at
small_circuits =
    record {
      listed = λ entry h.
          let at = found_at listing (tt, tt) refl (omega arith) entry h in (
            (at (Net 0) 0 (omega arith)).1,
            (at (Net 0) 1 (omega arith)).1,
            (at (Net 1) 0 (omega arith)).1,
            (at (Net 1) 1 (omega arith)).1,
            (at (Net 2) 0 (omega arith)).1,
            (at (Net 2) 1 (omega arith)).1,
            (at (Pin 0) 0 (omega arith)).1,
            (at (Pin 0) 1 (omega arith)).1,
            (at (Pin 1) 0 (omega arith)).1,
            (at (Pin 1) 1 (omega arith)).1,
            (at (Pin 2) 0 (omega arith)).1,
            (at (Pin 2) 1 (omega arith)).1,
            (at (Pin 3) 0 (omega arith)).1,
            (at (Pin 3) 1 (omega arith)).1,
          );
      p1 = class_reply listing (tt, tt);
      p2 = λ entry h. (set_reply listing (tt, tt) 0 (1 ∷ 0 ∷ []) entry (omega arith) (no (λ l. omega arith))).1;
      p3 = λ entry h. (transform_reply listing (tt, tt) entry (omega arith) (no (λ l. omega arith))).1;
      p4 = listed_short;
      p5 = class_reply straight (tt, tt);
      p5_search = λ entry h. (search_reply straight (tt, tt) (record { site = Net 0; stuck = 0 }) (omega arith) entry (no (λ l. omega arith))).1;
      p6 = class_reply never_one (tt, tt);
      p6_search = λ entry h. (search_reply never_one (tt, tt) (record { site = Net 2; stuck = 0 }) (omega arith) entry (no (λ l. omega arith))).1;
      p7 = class_reply two_outputs (tt, tt);
      one_chain = class_reply chained (tt, tt);
      p8 = class_reply buffered (tt, tt);
      p8_transformed = λ entry h. (transform_reply buffered (tt, tt) entry (omega arith) (no (λ l. omega arith))).1;
      p8_net = λ entry h. (found_at buffered (tt, tt) refl (omega arith) entry h (Net 1) 0 (omega arith)).1;
      p8_pin = λ entry h. (found_at buffered (tt, tt) refl (omega arith) entry h (Pin 0) 1 (omega arith)).1;
      p8_listed = λ entry h.
          let at = found_at buffered (tt, tt) refl (omega arith) entry h in (
            (at (Net 0) 0 (omega arith)).1,
            (at (Net 0) 1 (omega arith)).1,
            (at (Net 1) 0 (omega arith)).1,
            (at (Net 1) 1 (omega arith)).1,
            (at (Net 2) 0 (omega arith)).1,
            (at (Net 2) 1 (omega arith)).1,
            (at (Net 3) 0 (omega arith)).1,
            (at (Net 3) 1 (omega arith)).1,
            (at (Pin 0) 0 (omega arith)).1,
            (at (Pin 0) 1 (omega arith)).1,
            (at (Pin 1) 0 (omega arith)).1,
            (at (Pin 1) 1 (omega arith)).1,
            (at (Pin 2) 0 (omega arith)).1,
            (at (Pin 2) 1 (omega arith)).1,
            (at (Pin 3) 0 (omega arith)).1,
            (at (Pin 3) 1 (omega arith)).1,
            (at (Pin 4) 0 (omega arith)).1,
            (at (Pin 4) 1 (omega arith)).1,
          );
      p8_inverted = class_reply inverted (tt, tt);
      p8_refused = λ fault x e h entry. let g = in_chip inverted (tt, tt) fault x e h in (search_reply inverted (tt, tt) fault (g.site, g.value, omega arith) entry (dec_lt (length entry) 2)).1;
      threefold_class = class_reply threefold (tt, tt);
      copied_threefold = λ entry h. (transform_reply threefold (tt, tt) entry (omega arith) (no (λ l. omega arith))).1;
      p9 = read refl (refuses (record { holds = feeds_at _ 0 0 (omega arith); none_below = λ m l f. omega (arith, fed_by 1 tt f) }));
      p9_hanging = read hung.1 (refuses hung.3);
      p10 = unread refl;
    }
