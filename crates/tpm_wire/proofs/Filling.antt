-- Lemmas about the effect of one read on a reader and its flags (`Marks`).
use Rattle.std.proofs.Common.{◌≡◌, ◌≢◌, ℕ, ◌+◌, ◌<◌, List, [], ◌∷◌, ◌++◌, length, Option, Ok, true, subst, append-nil, arith}
use Rattle.std.proofs.lemmas.Grind.{common_steps}
use Rattle.std.specs.Io.KnownBytes.{Consumes}
use Rattle.tpm_bytes.specs.Tap.{Marks, after_read}
use Rattle.tpm_bytes.specs.declared.tap.Failed.{Failed}

pub nothing_read : (had has : Option (List ℕ)) (read bytes : List ℕ) → length bytes ≡ 0
    → Consumes had has (read ++ bytes) → Consumes had has read
nothing_read had has read [] none got = subst (Consumes had has) (append-nil read) got
nothing_read had has read (byte ∷ bytes) none got = absurd (omega arith)

-- If a read into a non-empty buffer returns no bytes, the reader has ended, and the read is not
-- counted.
pub ended_read : (before after : Marks) (count room : ℕ) → count ≡ 0 → 0 < room
    → after ≡ after_read {E = Failed} before (Ok count) room
    → (after.ended ≡ true) × (after.room ≡ room) × (after.reads ≡ before.reads)
ended_read before after count room none some is =
    (grind (arith, common_steps), grind (arith, common_steps), grind (arith, common_steps))

-- A read that returns bytes is counted.
pub counted_read : (before after : Marks) (count room reads : ℕ) → before.reads ≡ reads → count ≢ 0
    → reads < 1048576 → after ≡ after_read {E = Failed} before (Ok count) room
    → after.reads ≡ reads + 1
counted_read before after count room reads so some few is = grind (arith, common_steps)
