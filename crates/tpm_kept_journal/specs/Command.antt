-- A command to a kept device, and its encoding, which contains everything on which the command's
-- effect depends.
use Rattle.std.specs.Prelude.{◌≡◌, ℕ, ◌≤◌, ◌==◌, nat_le, not, Bool, true, false, List, length, if◌then◌else◌, Result, Ok, Err}
use Rattle.std.specs.Int.{w8, w32, w64}
use Rattle.tpm_bytes.specs.Reading.{◌>>=◌, AreBytes, refused_if}
use Rattle.tpm_image_text.specs.Fields.{bytes_in, malformed_fault, number_in, passing, yes_no_in}
use Rattle.tpm_image_text.specs.declared.fault.Malformed.{Malformed}
use Rattle.tpm_image_text.specs.Fields.{are_bytes}

-- When a command arrives: at this time of the host's clock, or this many milliseconds after the
-- previous command.
pub data Moment : Type 0 where
  At : (now : ℕ) → Moment
  After : (elapsed : ℕ) → Moment

-- A command. `Executes`: a TPM command, with its moment, its locality, whether the completing layer
-- is used, 256 random bytes, and its buffer. `Cycles`: a power cycle at this time of the host's
-- clock; `start` has no effect, since the completing layer keeps its start number. `Begins`: the
-- device is replaced with one that is created from this seed, for example to restore a snapshot.
pub data KeptCommand : Type 0 where
  Executes : Moment → (locality : ℕ) → (completes : Bool) → (random buffer : List ℕ) → KeptCommand
  Cycles : (now start : ℕ) → KeptCommand
  Begins : (seed : List ℕ) → KeptCommand

abbrev pub is_locality : ℕ → Bool
is_locality number = nat_le number 4

-- the TPM command that the bytes encode, without its moment: a byte for the locality, a byte for
-- the completing layer, the random bytes, and the buffer
unfoldable pub executed_in : Moment → List ℕ → Result KeptCommand Malformed
executed_in moment text = do
  locality ← passing is_locality (number_in w8) text
  completes ← yes_no_in locality.1
  random ← bytes_in 256 completes.1
  Ok (Executes moment locality.0 completes.0 random.0 random.1)

-- a command of kind 0, without the byte for the kind: eight bytes for the host's clock, and the
-- rest of the command
unfoldable pub executed_at_in : List ℕ → Result KeptCommand Malformed
executed_at_in text = do
  now ← number_in w64 text
  executed_in (At now.0) now.1

-- a command of kind 3, without the byte for the kind: four bytes for the milliseconds since the
-- previous command, and the rest of the command
unfoldable pub executed_after_in : List ℕ → Result KeptCommand Malformed
executed_after_in text = do
  elapsed ← number_in w32 text
  executed_in (After elapsed.0) elapsed.1

-- a power cycle, without the byte for the kind: eight bytes for the host's clock, and eight for
-- `start`, which has no effect
unfoldable pub cycled_in : List ℕ → Result KeptCommand Malformed
cycled_in text = do
  now ← number_in w64 text
  start ← number_in w64 now.1
  ended ← refused_if (not (length start.1 == 0)) malformed_fault
  Ok (Cycles now.0 start.0)

abbrev pub by_kind : (kind : ℕ) → List ℕ → Result KeptCommand Malformed
by_kind kind text =
    if kind == 0 then executed_at_in text
    else (if kind == 1 then cycled_in text
    else (if kind == 2 then Ok (Begins text)
    else (if kind == 3 then executed_after_in text else Err malformed_fault)))

-- the command that the bytes encode: a byte for its kind, and the fields of this kind
unfoldable pub command_in : List ℕ → Result KeptCommand Malformed
command_in text = do
  kind ← number_in w8 text
  by_kind kind.0 kind.1

-- the command that a list encodes; the list must consist of bytes
unfoldable pub command_of : List ℕ → Result KeptCommand Malformed
command_of text = if are_bytes text then command_in text else Err malformed_fault

-- whether the bytes were decoded as a command
abbrev pub is_command_read : Result KeptCommand Malformed → Bool
is_command_read (Ok c) = true
is_command_read (Err why) = false

-- whether the bytes were decoded as a command that has an entry
abbrev pub is_entered_read : Result KeptCommand Malformed → Bool
is_entered_read (Ok (Executes moment locality completes random buffer)) = true
is_entered_read c = false

-- A TPM command has a locality from 0 to 4, 256 random bytes, and a buffer of bytes.
abbrev pub IsGiven : KeptCommand → Type 0
IsGiven (Executes moment locality completes random buffer) =
    (locality ≤ 4) × (length random ≡ 256) × AreBytes random × AreBytes buffer
IsGiven (Cycles now start) = Unit {0}
IsGiven (Begins seed) = Unit {0}
