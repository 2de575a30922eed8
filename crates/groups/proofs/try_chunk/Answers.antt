-- A fault is one that is tried alone or one of another cell, and the two calls take on disjoint sets, so all faults go on.
use native.Mathlib.Omega.{arith}
use Rattle.groups.proofs.Chunks.{ready_of, watch_alone, watch_places, chunk_tried}
use Rattle.groups.proofs.try_chunk.Goals as goal

pub try_alone-requires-clause-good_run : goal.try_alone-requires-clause-good_run
try_alone-requires-clause-good_run c =
    let W = c.good_words.ensures in
    let (cone, low, rel, S) = c.requires.by_index in ready_of _ _ _ _ _ _ _ _ _ _ _ _ _ _ _ _ _ _ _ _ _ _ low rel S _ _ (omega arith) c.requires.chunk_bound.0 W

pub try_places-requires-clause-good_run : goal.try_places-requires-clause-good_run
try_places-requires-clause-good_run c =
    let (cone, low, rel, S) = c.requires.by_index in
    let T = c.try_alone.ensures in ready_of _ _ _ _ _ _ _ _ _ _ _ _ _ _ _ _ _ _ _ _ _ _ low rel S _ _ (omega arith) c.requires.chunk_bound.0 c.good_words.ensures

pub returns-clause-watch : goal.returns-clause-watch
returns-clause-watch c =
    let (cone, low, rel, S) = c.requires.by_index in
    let G = c.good_words.ensures in
    let A = c.try_alone.ensures in
    let P = c.try_places.ensures in
    let R = ready_of _ _ _ _ _ _ _ _ _ _ _ _ _ _ _ _ _ _ _ _ _ _ low rel S _ _ (omega arith) c.requires.chunk_bound.0 G in watch_places _ _ _ _ _ _ _ _ _ _ _ _ _ _ _ _ _ _ _ _ _ _ _ low rel S R _ _ _ _ _ _ _ _ P.places_done
    (watch_alone _ _ _ _ _ _ _ _ _ _ _ _ _ _ _ _ _ _ _ _ _ _ _ low rel S R _ _ _ _ _ _ _ A.went c.requires.long.2)

pub returns-clause-chunk_tried : goal.returns-clause-chunk_tried
returns-clause-chunk_tried c =
    let (cone, low, rel, S) = c.requires.by_index in
    let G = c.good_words.ensures in
    let A = c.try_alone.ensures in
    let P = c.try_places.ensures in
    let R = ready_of _ _ _ _ _ _ _ _ _ _ _ _ _ _ _ _ _ _ _ _ _ _ low rel S _ _ (omega arith) c.requires.chunk_bound.0 G in chunk_tried _ _ _ _ _ _ _ _ _ _ _ _ _ _ _ _ _ _ _ _ _ _ _ low rel S R _ _ _ _ _ _ _ _ _ _ _ _ G c.requires.long.1 A.went P.places_done c.requires.long.2
