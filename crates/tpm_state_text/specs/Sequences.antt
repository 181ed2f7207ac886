-- The slots of the completing layer's sequence objects, in a state text. TPM 2.0 Library, Part 1,
-- section 32.4 (hash, HMAC and event sequences).
use Rattle.std.specs.Prelude.{ℕ, Bool, true, false, List, [], replicate, if◌then◌else◌, Option, None, is_some, Result, Ok}
use Rattle.std.specs.List.{flat_map, list_any}
use Rattle.tpm_bytes.specs.Many.{many_at}
use Rattle.tpm_image_text.specs.Fields.{passing}
use Rattle.tpm_image_text.specs.declared.fault.Malformed.{Malformed}
use Rattle.tpm_sequence.specs.declared.object.SequenceObject.{SequenceObject}
use Rattle.tpm_sequence_text.specs.Slot.{slot_in, slot_text}

-- the number of slots for sequence objects
abbrev pub sequence_slots : ℕ
sequence_slots = 3

-- the slots of a layer without sequence objects
abbrev pub free_sequences : List (Option SequenceObject)
free_sequences = replicate sequence_slots None

-- whether at least one of the slots contains a sequence object
abbrev pub has_sequence : List (Option SequenceObject) → Bool
has_sequence slots = list_any is_some slots

-- the encoding of the slots: nothing if they are all free
unfoldable pub slots_text : List (Option SequenceObject) → List ℕ
slots_text slots = if has_sequence slots then flat_map slot_text slots else []

-- decodes the slots. If `is_used` is true, the slots are encoded, and one of them must contain a
-- sequence object. Otherwise, they are all free
unfoldable pub slots_in : (is_used : Bool) → List ℕ
    → Result (List (Option SequenceObject) × List ℕ) Malformed
slots_in false text = Ok (free_sequences, text)
slots_in true text = passing has_sequence (many_at slot_in sequence_slots) text
