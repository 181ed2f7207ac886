-- The sequence objects of the completing layer, and their handles. TPM 2.0 Library, Part 1, section
-- 32.4 (hash, HMAC and event sequences), and Part 2, section 7.2 (TPM_HT).
use Rattle.std.specs.Prelude.{ℕ, ◌+◌, ◌-◌, ◌&&◌, nat_lt, not, Bool, List, get_or, is_none, is_some, option_and_then, replicate, slice_set, if◌then◌else◌, Option, Some, None}
use Rattle.std.specs.List.{flat_map}
use Rattle.tpm_bytes.specs.Numbers.{numbers_below}
use Rattle.tpm_containers.specs.Numbered.{number_of, place_of}
use Rattle.tpm_sequence.specs.declared.object.SequenceObject.{SequenceObject}
use Rattle.tpm_types_common.specs.Handle.{is_transient, numbered_handle}
use Rattle.tpm_types_common.specs.Limits.{object_limit}
use Rattle.tpm_types_common.specs.declared.handle.Handle.{Handle}
use Rattle.tpm_actions_capability.specs.Element.{by_itself, if_there}
use Rattle.tpm_actions_capability.specs.declared.element.Element.{Element}
use Rattle.tpm_completion.specs.declared.completion.Completion.{Completion}

-- the largest number of sequence objects
abbrev pub sequence_limit : ℕ
sequence_limit = 3

-- the slots of a layer that has no sequence object
abbrev pub no_sequences : List (Option SequenceObject)
no_sequences = replicate sequence_limit None

-- the sequence object in a slot
abbrev pub in_slot : Completion → (slot : ℕ) → Option SequenceObject
in_slot c slot = get_or c.sequences slot None

-- the handle of the sequence object in a slot. These handles follow the handles of the device's
-- transient objects
abbrev pub sequence_handle : (slot : ℕ) → Handle
sequence_handle slot = numbered_handle (number_of 0x80 (object_limit + slot))

-- whether a handle is in the range of transient objects, but after the handles that the device
-- assigns
abbrev pub is_after_objects : Handle → Bool
is_after_objects handle =
    is_transient handle && not (nat_lt (place_of handle.number) object_limit)

-- the slot with the sequence object that a handle names, if there is one
unfoldable pub slot_of : Completion → Handle → Option ℕ
slot_of c handle =
    let slot : ℕ = place_of handle.number - object_limit in
    if is_after_objects handle && is_some (in_slot c slot) then Some slot else None

-- the sequence object that a handle names, if there is one
abbrev pub sequence_of : Completion → Handle → Option SequenceObject
sequence_of c handle = option_and_then (in_slot c) (slot_of c handle)

-- the lowest slot without a sequence object
unfoldable pub free_slot : Completion → Option ℕ
free_slot c =
    if is_none (in_slot c 0) then Some 0
    else (if is_none (in_slot c 1) then Some 1
    else (if is_none (in_slot c 2) then Some 2
    else None))

-- the layer's state after a sequence object was put into a slot
abbrev pub with_sequence : Completion → (slot : ℕ) → SequenceObject → Completion
with_sequence c slot object = record c { sequences = slice_set c.sequences slot (Some object) }

-- the layer's state after a slot became free
abbrev pub without_sequence : Completion → (slot : ℕ) → Completion
without_sequence c slot = record c { sequences = slice_set c.sequences slot None }

-- ---- the list of handles

unfoldable pub sequence_element : Completion → (slot : ℕ) → List Element
sequence_element c slot =
    if_there (is_some (in_slot c slot)) (by_itself (sequence_handle slot).number)

-- the handles of the sequence objects, in ascending order
abbrev pub sequence_elements : Completion → List Element
sequence_elements c = flat_map (sequence_element c) (numbers_below sequence_limit)
