-- The enumerated values of a slot, each encoded as one byte.
use Rattle.std.specs.Prelude.{ℕ, ◌==◌, List, if◌then◌else◌, ok_or, Option, Some, None, Result, Ok}
use Rattle.std.specs.Int.{w8}
use Rattle.tpm_bytes.specs.Reading.{◌>>=◌}
use Rattle.tpm_image_text.specs.Fields.{malformed_fault, number_in}
use Rattle.tpm_image_text.specs.declared.fault.Malformed.{Malformed}
use Rattle.tpm_sequence.specs.declared.beginning.Beginning.{Beginning}
use Rattle.tpm_sequence.specs.declared.beginning.Beginning.TheVariants as begun
use Rattle.tpm_sequence.specs.declared.object.SequenceObject.{SequenceObject}
use Rattle.tpm_sequence.specs.declared.sequence.Sequence.{Sequence}
use Rattle.tpm_sequence.specs.declared.sequence.Sequence.TheVariants as sequence
use Rattle.tpm_sequence_text.specs.declared.kind.SequenceKind.{SequenceKind}
use Rattle.tpm_sequence_text.specs.declared.kind.SequenceKind.TheVariants as kind

-- ---- the kind of a sequence

abbrev pub sequence_kind : Sequence → SequenceKind
sequence_kind (sequence.Hash state beginning) = kind.Hash
sequence_kind (sequence.Event sha1 sha256) = kind.Event
sequence_kind (sequence.Hmac state) = kind.Hmac

-- the kind of the sequence in a slot, or None if the slot is free
abbrev pub slot_kind : Option SequenceObject → Option SequenceKind
slot_kind None = None
slot_kind (Some object) = Some (sequence_kind object.sequence)

-- the byte that encodes the kind of the sequence in a slot; 0 for a free slot
abbrev pub kind_number : Option SequenceKind → ℕ
kind_number None = 0
kind_number (Some kind.Hash) = 1
kind_number (Some kind.Event) = 2
kind_number (Some kind.Hmac) = 3

-- the kind that this byte encodes, or None for any other byte
abbrev pub kind_named : ℕ → Option (Option SequenceKind)
kind_named number =
    if number == 0 then Some None
    else (if number == 1 then Some (Some kind.Hash)
    else (if number == 2 then Some (Some kind.Event)
    else (if number == 3 then Some (Some kind.Hmac) else None)))

unfoldable pub kind_in : List ℕ → Result (Option SequenceKind × List ℕ) Malformed
kind_in text = do
  number ← number_in w8 text
  one ← ok_or (kind_named number.0) malformed_fault
  Ok (one, number.1)

-- ---- how the data of a hash sequence begin

abbrev pub beginning_number : Beginning → ℕ
beginning_number begun.Empty = 0
beginning_number begun.One = 1
beginning_number begun.Two = 2
beginning_number begun.Three = 3
beginning_number begun.Generated = 4
beginning_number begun.Ordinary = 5

-- the `Beginning` that this byte encodes, or None for any other byte
abbrev pub beginning_named : ℕ → Option Beginning
beginning_named number =
    if number == 0 then Some begun.Empty
    else (if number == 1 then Some begun.One
    else (if number == 2 then Some begun.Two
    else (if number == 3 then Some begun.Three
    else (if number == 4 then Some begun.Generated
    else (if number == 5 then Some begun.Ordinary else None)))))

unfoldable pub beginning_in : List ℕ → Result (Beginning × List ℕ) Malformed
beginning_in text = do
  number ← number_in w8 text
  one ← ok_or (beginning_named number.0) malformed_fault
  Ok (one, number.1)
