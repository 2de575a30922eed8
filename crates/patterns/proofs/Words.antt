-- The good words of a chunk in both tables, and the tables before the first chunk.
use Prim.Native.Nat.{ℕ, ◌+◌, ◌-◌, ◌*◌, ◌^◌, ◌≤◌, ◌<◌}
use mathlib.Core.Path.{◌≡◌, sym, ap, ◌∙◌}
use mathlib.Core.List.{List}
use native.Mathlib.Omega.{arith}
use native.Mathlib.Decide.{dec_lt}
use lib.ListN.{length, get_or}
use lib.Seq.{ext_get_or}
use Rattle.chip.specs.Search.{digit}
use Rattle.rows.specs.Rows.{Filled}
use Rattle.events.specs.Events.{Chip, Worked}
use Rattle.bridge.specs.Chunk.{Chunk}
use Rattle.patterns.specs.Variables.{Variables}
use Rattle.patterns.specs.Words.{Store, GoodWords}
use Rattle.patterns.proofs.Setting.{chunk_of}

pub good_words : (c w q u : ℕ) (kinds counts firsts src order reach heads readers goods vals goods₁ goods₂ vals₁ : List ℕ) → w ≤ 16
    → Chip c kinds counts firsts src order reach heads readers → ((t : ℕ) → t < c → get_or order t 0 < c) → Store c goods vals → Variables w q goods goods₁
    → Worked c u kinds counts firsts src order reach goods₁ goods₂ c → Filled 0 (16 * (16 + c)) (λ x. get_or goods₂ x 0) vals vals₁
    → GoodWords c w q u kinds counts firsts src order reach goods₂ vals₁
good_words c w q u kinds counts firsts src order reach heads readers goods vals goods₁ goods₂ vals₁ wl H inside S K W F =
    record {
      words = W.long ∙ K.long ∙ S.words;
      chunk = record {
        bits = λ s k l a b d. ap (digit l) (W.others (16 * s + k) (λ t h e. omega arith)) ∙ C.bits s k l a b d;
        zeros = λ k b. W.others (16 * 1040 + k) (λ t h e. omega (arith, H.cell t h)) ∙ C.zeros k b;
        ones = λ k b. W.others (16 * 1041 + k) (λ t h e. omega (arith, H.cell t h)) ∙ C.ones k b;
      };
      good = record { obeys = λ t h v. W.obeys t h v };
      same = ext_get_or 0 vals₁ goods₂ (F.long ∙ S.runs ∙ sym (W.long ∙ K.long ∙ S.words)) (λ x l. same x);
    }
  where
    C : Chunk w q goods₁
    C = chunk_of w q goods goods₁ wl S.zeros S.ones K

    same : (x : ℕ) → get_or vals₁ x 0 ≡ get_or goods₂ x 0
    same x = elim (dec_lt x (16 * (16 + c))) [
      | yes l ↦ let e : 0 + x ≡ x = omega arith in ap (λ y. get_or vals₁ y 0) (sym e) ∙ F.done x l
      | no g ↦
          F.above x (omega arith) ∙ S.beyond x (omega arith) ∙ sym (K.others x (omega arith)) ∙ sym (W.others x (λ t h e. omega (arith, inside t h)))
    ]

-- two tables of zeros with the ones in their slot
pub store_blank : (c : ℕ) (a goods vals : List ℕ) → length a ≡ 16672 → ((x : ℕ) → get_or a x 0 ≡ 0) → Filled 16656 16 (λ k. 2 ^ 64 - 1) a goods → Filled 16656 16 (λ k. 2 ^ 64 - 1) a vals → Store c goods vals
store_blank c a goods vals l z F G =
    record {
      words = F.long ∙ l;
      runs = G.long ∙ l;
      zeros = λ k h. F.below (16 * 1040 + k) (omega arith) ∙ z (16 * 1040 + k);
      ones = λ k h. let e : 16 * 1041 + k ≡ 16656 + k = omega arith in ap (λ x. get_or goods x 0) e ∙ F.done k h;
      beyond = λ x h. elim (dec_lt x 16656) [
        | yes b ↦ G.below x b ∙ sym (F.below x b)
        | no g ↦ elim (dec_lt x 16672) [
          | yes b ↦
              let e : 16656 + (x - 16656) ≡ x = omega arith in
              ap (λ y. get_or vals y 0) (sym e) ∙ G.done (x - 16656) (omega arith) ∙ sym (F.done (x - 16656) (omega arith)) ∙ ap (λ y. get_or goods y 0) e
          | no f ↦ G.above x (omega arith) ∙ sym (F.above x (omega arith))
        ]
      ];
    }
