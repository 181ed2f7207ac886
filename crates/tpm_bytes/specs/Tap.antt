-- A tap wraps a reader or a writer, which is called its device. The tap's marks record what the
-- device did.
use Rattle.std.specs.Prelude.{◌≡◌, ℕ, ◌+◌, ◌-◌, ◌^◌, ◌==◌, min, List, ◌++◌}
use Rattle.std.specs.Prelude.{Bool, true, false, Option, Result, Ok, Err, if◌then◌else◌}
use Rattle.std.specs.Io.KnownBytes.{Appends}
use Rattle.tpm_bytes.specs.declared.tap.Tap.{Tap}

-- the marks of a device: whether it failed, whether it ended, the number of its reads that
-- returned bytes, and the buffer size of the last read
pub record Marks : Type 0 where
  pub failed : Bool
  pub ended : Bool
  pub reads : ℕ
  pub room : ℕ

-- the marks of a device before its first read or write
abbrev pub first_marks : Marks
first_marks = record { failed = false; ended = false; reads = 0; room = 0 }

abbrev pub marks_of : {D : Type 0} → Tap D → Marks
marks_of tap = record {
  failed = tap.failed;
  ended = tap.ended;
  reads = tap.reads;
  room = tap.room;
}

abbrev pub device_of : {D : Type 0} → Tap D → D
device_of tap = tap.device

-- the marks after a read into a buffer of this length. Reads that returned bytes are counted up to
-- 2^64 - 1
abbrev pub after_read : {E : Type 0} → Marks → Result ℕ E → ℕ → Marks
after_read marks (Err e) room = record marks { failed = true; room = room }
after_read marks (Ok count) room =
    if count == 0 then (
    if room == 0 then record marks { room = room }
    else record marks { ended = true; room = room }
    ) else record marks { reads = min (marks.reads + 1) (2 ^ 64 - 1); room = room }

-- the marks after a write of this many bytes. A write that accepts only some of the bytes changes
-- no mark
abbrev pub after_write : {E : Type 0} → Marks → Result ℕ E → ℕ → Marks
after_write marks (Err e) size = record marks { failed = true }
after_write marks (Ok count) size =
    if count == 0 then (if size == 0 then marks else record marks { failed = true }) else marks

-- A prefix of the bytes, possibly none or all of them, was appended.
abbrev pub AppendsFront : Option (List ℕ) → Option (List ℕ) → List ℕ → Type 0
AppendsFront old new text =
    (front : List ℕ) × (rest : List ℕ) × (text ≡ front ++ rest) × Appends old new front
