-- Each slot has exactly one encoding.
use Rattle.std.specs.Prelude.{◌≡◌, ◌≤◌, ℕ, List, ◌++◌, length, Option, Ok}
use Rattle.tpm_bytes.specs.Reading.{AreBytes}
use Rattle.tpm_sequence.specs.declared.object.SequenceObject.{SequenceObject}
use Rattle.tpm_sequence_text.specs.Sizes.{slot_size}
use Rattle.tpm_sequence_text.specs.Slot.{IsSlot, slot_in, slot_text}

-- Decoding the encoding of a slot, followed by any bytes, returns the slot and these bytes.
abbrev pub ReadsAgain : Type 0
ReadsAgain = (slot : Option SequenceObject) (rest : List ℕ) → IsSlot slot
    → slot_in (slot_text slot ++ rest) ≡ Ok (slot, rest)

-- If decoding returns a slot, the slot is valid, and the bytes are its encoding, followed by the
-- remaining bytes.
abbrev pub ReadsOnlyText : Type 0
ReadsOnlyText = (bytes : List ℕ) (slot : Option SequenceObject) (rest : List ℕ) → AreBytes bytes
    → slot_in bytes ≡ Ok (slot, rest)
    → IsSlot slot × (bytes ≡ slot_text slot ++ rest)

-- No encoding of a slot is longer than 245 bytes.
abbrev pub StaysSmall : Type 0
StaysSmall = (slot : Option SequenceObject) → IsSlot slot → length (slot_text slot) ≤ slot_size
