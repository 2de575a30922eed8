-- 'The listing' and 'Small circuits with known results': all faults of the listing, and P1 to P10, as one table of replies. Each call's contract allows one reply, so these are the replies.
use Rattle.std.specs.Prelude.{ℕ, ◌-◌, ◌≤◌, ◌≡◌, List, [], ◌∷◌, ◌++◌, length, drop, None}
use Rattle.chip.specs.Got.{refused, got}
use Rattle.chip.specs.Format.{Parsed, read_of, chip_of}
use Rattle.chip.specs.Faults.{FaultIn}
use Rattle.chip.specs.Refusals.{Opens}
use Rattle.chip.specs.Replies.{ClassReply, TransformReply, SetReply, CheckReply, SearchReply, search_refused}
use Rattle.chip.specs.declared.Site.{Site}
use Rattle.chip.specs.declared.Site.TheVariants.{Net, Pin}
use Rattle.chip.specs.declared.Fault.{Fault}
use Rattle.chip.specs.declared.Reason.{Reason}
use Rattle.chip.specs.declared.Searched.TheVariants.{Found, Untestable}
use Rattle.circuits.specs.Circuits.{listing, listing_transformed, straight, never_one, two_outputs, chained, buffered, buffered_transformed, inverted, threefold, threefold_transformed, self_fed, hanging, empty}

-- what the line `out 0 tries K play A B` of a listing says of a fault: the tries are one more than the pattern's number
abbrev pub Line : List ℕ → List ℕ → Site → ℕ → ℕ → ℕ → ℕ → Type 0
Line file entry site stuck tries a b = SearchReply file (record { site = site; stuck = stuck }) entry (Found 0 (tries - 1) tries, a ∷ b ∷ drop 2 entry)

pub record SmallCircuits : Type 0 where
  -- the listing: nets ascending, then pins, stuck 0 before 1
  pub listed : (entry : List ℕ) → 2 ≤ length entry
      → Line listing entry (Net 0) 0 2 1 0
      × Line listing entry (Net 0) 1 2 1 0
      × Line listing entry (Net 1) 0 2 1 0
      × Line listing entry (Net 1) 1 1 0 0
      × Line listing entry (Net 2) 0 2 1 0
      × Line listing entry (Net 2) 1 1 0 0
      × Line listing entry (Pin 0) 0 2 1 0
      × Line listing entry (Pin 0) 1 1 0 0
      × Line listing entry (Pin 1) 0 3 0 1
      × Line listing entry (Pin 1) 1 1 0 0
      × Line listing entry (Pin 2) 0 2 1 0
      × Line listing entry (Pin 2) 1 1 0 0
      × Line listing entry (Pin 3) 0 2 1 0
      × Line listing entry (Pin 3) 1 1 0 0
  -- class 2, depth 1, two blocks
  pub p1 : ClassReply listing (got (record { class = 2; depth = 1; blocks = 2 }))
  -- pattern (1, 0) sets clocks 1, 0
  pub p2 : (entry : List ℕ) → 2 ≤ length entry → SetReply listing 0 (1 ∷ 0 ∷ []) entry (got 2, 1 ∷ 0 ∷ drop 2 entry)
  -- its transformed circuit
  pub p3 : (entry : List ℕ) → 21 ≤ length entry → TransformReply listing entry (got 21, listing_transformed ++ drop 21 entry)
  -- a play of one clock: not seen, for any fault
  pub p4 : (fault : Fault) (x : Parsed) → read_of listing ≡ got x → FaultIn (chip_of x) fault → (b : ℕ) → b ≤ 1 → CheckReply listing fault (b ∷ []) (got None)
  -- class 3, depth 0; n0/0 is shown by play 1, tries 2
  pub p5 : ClassReply straight (got (record { class = 3; depth = 0; blocks = 1 }))
  pub p5_search : (entry : List ℕ) → 1 ≤ length entry → SearchReply straight (record { site = Net 0; stuck = 0 }) entry (Found 0 1 2, 1 ∷ drop 1 entry)
  -- one block, class 3; the AND's net stuck at 0 is untestable after 2 tries
  pub p6 : ClassReply never_one (got (record { class = 3; depth = 0; blocks = 1 }))
  pub p6_search : (entry : List ℕ) → 1 ≤ length entry → SearchReply never_one (record { site = Net 2; stuck = 0 }) entry (Untestable 2, entry)
  -- class 3, two blocks
  pub p7 : ClassReply two_outputs (got (record { class = 3; depth = 1; blocks = 2 }))
  -- a with b and b with c: one block, even if a and c share no output
  pub one_chain : ClassReply chained (got (record { class = 3; depth = 0; blocks = 1 }))
  -- class 2, depth 1, two blocks, of which the second has a copy of the BUF; the BUF's net stuck at 0 and its pin stuck at 1 are shown by play 1, 0, tries 2; and its whole listing
  pub p8 : ClassReply buffered (got (record { class = 2; depth = 1; blocks = 2 }))
  pub p8_transformed : (entry : List ℕ) → 29 ≤ length entry → TransformReply buffered entry (got 29, buffered_transformed ++ drop 29 entry)
  pub p8_net : (entry : List ℕ) → 2 ≤ length entry → SearchReply buffered (record { site = Net 1; stuck = 0 }) entry (Found 0 1 2, 1 ∷ 0 ∷ drop 2 entry)
  pub p8_pin : (entry : List ℕ) → 2 ≤ length entry → SearchReply buffered (record { site = Pin 0; stuck = 1 }) entry (Found 0 1 2, 1 ∷ 0 ∷ drop 2 entry)
  pub p8_listed : (entry : List ℕ) → 2 ≤ length entry
      → Line buffered entry (Net 0) 0 2 1 0
      × Line buffered entry (Net 0) 1 2 1 0
      × Line buffered entry (Net 1) 0 2 1 0
      × Line buffered entry (Net 1) 1 2 1 0
      × Line buffered entry (Net 2) 0 2 1 0
      × Line buffered entry (Net 2) 1 1 0 0
      × Line buffered entry (Net 3) 0 2 1 0
      × Line buffered entry (Net 3) 1 1 0 0
      × Line buffered entry (Pin 0) 0 2 1 0
      × Line buffered entry (Pin 0) 1 2 1 0
      × Line buffered entry (Pin 1) 0 2 1 0
      × Line buffered entry (Pin 1) 1 1 0 0
      × Line buffered entry (Pin 2) 0 3 0 1
      × Line buffered entry (Pin 2) 1 1 0 0
      × Line buffered entry (Pin 3) 0 2 1 0
      × Line buffered entry (Pin 3) 1 1 0 0
      × Line buffered entry (Pin 4) 0 2 1 0
      × Line buffered entry (Pin 4) 1 1 0 0
  -- with a NOT in place of the BUF class 1; the search is refused by 11 at 0
  pub p8_inverted : ClassReply inverted (got (record { class = 1; depth = 1; blocks = 1 }))
  pub p8_refused : (fault : Fault) (x : Parsed) → read_of inverted ≡ got x → FaultIn (chip_of x) fault → (entry : List ℕ) → SearchReply inverted fault entry (search_refused Reason.ClassOne 0, entry)
  -- three blocks; copies by block and then by cell, of all BUFs on the way to a block's branches
  pub threefold_class : ClassReply threefold (got (record { class = 2; depth = 1; blocks = 3 }))
  pub copied_threefold : (entry : List ℕ) → 53 ≤ length entry → TransformReply threefold entry (got 53, threefold_transformed ++ drop 53 entry)
  -- 9 at the DFF's net, which every call gives; and so where a lower net hangs from such a loop
  pub p9 : Opens self_fed (refused Reason.Looped 1)
  pub p9_hanging : Opens hanging (refused Reason.Looped 2)
  -- 1 at 0, which every call gives
  pub p10 : Opens empty (refused Reason.CutShort 0)
