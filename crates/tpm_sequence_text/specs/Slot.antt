-- The encoding of a slot: the kind of its sequence and, unless the slot is free, the authorization
-- value and the sequence of its object.
use Rattle.std.specs.Prelude.{◌≡◌, ℕ, List, [], ◌++◌, length, Option, Some, None, IfSome, Result, Ok}
use Rattle.std.specs.Int.{w8, to_be_bytes}
use Rattle.tpm_bytes.specs.Reading.{◌>>=◌}
use Rattle.tpm_image_text.specs.Fields.{bytes_in}
use Rattle.tpm_image_text.specs.declared.fault.Malformed.{Malformed}
use Rattle.tpm_sequence.specs.declared.object.SequenceObject.{SequenceObject}
use Rattle.tpm_sequence.specs.declared.sequence.Sequence.{Sequence}
use Rattle.tpm_sequence.specs.declared.sequence.Sequence.TheVariants.{Event, Hash, Hmac}
use Rattle.tpm_sequence_text.specs.HashState.{IsHashState, hash_state_in, hash_state_text}
use Rattle.tpm_sequence_text.specs.Kind.{beginning_in, beginning_number, kind_in, kind_number, slot_kind}
use Rattle.tpm_sequence_text.specs.declared.kind.SequenceKind.{SequenceKind}
use Rattle.tpm_sequence_text.specs.declared.kind.SequenceKind.TheVariants as kind

-- ---- sequences

-- Every number of a sequence fits its integer type.
abbrev pub IsSequence : Sequence → Type 0
IsSequence (Hash state beginning) = IsHashState state
IsSequence (Event sha1 sha256) = IsHashState sha1 × IsHashState sha256
IsSequence (Hmac state) = IsHashState state.inner × IsHashState state.outer

abbrev pub sequence_text : Sequence → List ℕ
sequence_text (Hash state beginning) =
    hash_state_text state ++ to_be_bytes w8 (beginning_number beginning)
sequence_text (Event sha1 sha256) = hash_state_text sha1 ++ hash_state_text sha256
sequence_text (Hmac state) = hash_state_text state.inner ++ hash_state_text state.outer

-- decodes two values, one after the other
abbrev pub both_in : {X Y : Type 0}
    → (List ℕ → Result (X × List ℕ) Malformed)
    → (List ℕ → Result (Y × List ℕ) Malformed)
    → List ℕ → Result ((X × Y) × List ℕ) Malformed
both_in at other text = do
  x ← at text
  y ← other x.1
  Ok ((x.0, y.0), y.1)

unfoldable pub hash_in : List ℕ → Result (Sequence × List ℕ) Malformed
hash_in text = do
  parts ← both_in hash_state_in beginning_in text
  Ok (Hash parts.0.0 parts.0.1, parts.1)

unfoldable pub event_in : List ℕ → Result (Sequence × List ℕ) Malformed
event_in text = do
  parts ← both_in hash_state_in hash_state_in text
  Ok (Event parts.0.0 parts.0.1, parts.1)

unfoldable pub hmac_in : List ℕ → Result (Sequence × List ℕ) Malformed
hmac_in text = do
  parts ← both_in hash_state_in hash_state_in text
  Ok (Hmac (record { inner = parts.0.0; outer = parts.0.1 }), parts.1)

-- decodes a sequence of this kind
abbrev pub sequence_in : SequenceKind → List ℕ → Result (Sequence × List ℕ) Malformed
sequence_in kind.Hash text = hash_in text
sequence_in kind.Event text = event_in text
sequence_in kind.Hmac text = hmac_in text

-- ---- objects and slots

-- The authorization value is 32 bytes long, and every number of the sequence fits its integer type.
pub record IsSequenceObject (object : SequenceObject) : Type 0 where
  pub auth : length object.auth ≡ 32
  pub sequence : IsSequence object.sequence

abbrev pub IsSlot : Option SequenceObject → Type 0
IsSlot slot = IfSome slot IsSequenceObject

abbrev pub object_text : SequenceObject → List ℕ
object_text object = object.auth ++ sequence_text object.sequence

-- decodes an object whose sequence is of this kind
unfoldable pub object_in : SequenceKind → List ℕ → Result (SequenceObject × List ℕ) Malformed
object_in kind text = do
  parts ← both_in (bytes_in 32) (sequence_in kind) text
  Ok (record { auth = parts.0.0; sequence = parts.0.1 }, parts.1)

-- the part of an encoded slot after the kind
abbrev pub contents_text : Option SequenceObject → List ℕ
contents_text None = []
contents_text (Some object) = object_text object

unfoldable pub slot_text : Option SequenceObject → List ℕ
slot_text slot = to_be_bytes w8 (kind_number (slot_kind slot)) ++ contents_text slot

-- decodes the part of an encoded slot after the kind
abbrev pub contents_in : Option SequenceKind
    → List ℕ → Result (Option SequenceObject × List ℕ) Malformed
contents_in None text = Ok (None, text)
contents_in (Some kind) text = do
  object ← object_in kind text
  Ok (Some object.0, object.1)

unfoldable pub slot_in : List ℕ → Result (Option SequenceObject × List ℕ) Malformed
slot_in text = do
  kind ← kind_in text
  contents_in kind.0 kind.1
