-- What a call that was read has of the buffers that it is read into.
use Rattle.std.specs.Prelude.{ℕ, ◌≤◌, ◌≡◌, List, length, replicate, take}
use Rattle.asked.specs.declared.Call.{Call}
use Rattle.asked.specs.declared.Call.TheVariants.{Read, Class, Transform, SetPattern, ReadBack, CheckPlay, Search}

-- the first bytes of a buffer, as many as room says, are lent: it has that many, and each of them is 238
abbrev pub Lent : List ℕ → ℕ → Type 0
Lent buffer room = (room ≤ length buffer) × (take room buffer ≡ replicate room 238)

-- a call's file is no longer than f and its pattern or play than v, and what it is lent is the start of the buffer
abbrev pub Parts : ℕ → ℕ → List ℕ → Call → Type 0
Parts f v lent (Read file) = length file.now ≤ f
Parts f v lent (Class file) = length file.now ≤ f
Parts f v lent (Transform file out_room) = (length file.now ≤ f) × Lent lent out_room
Parts f v lent (SetPattern file output pattern play_room) =
    (length file.now ≤ f) × (length pattern.now ≤ v) × Lent lent play_room
Parts f v lent (ReadBack file output play clock pattern_room) =
    (length file.now ≤ f) × (length play.now ≤ v) × Lent lent pattern_room
Parts f v lent (CheckPlay file fault play) = (length file.now ≤ f) × (length play.now ≤ v)
Parts f v lent (Search file fault play_room) = (length file.now ≤ f) × Lent lent play_room
