-- The transient objects of a device, by handle. TPM 2.0 Library, Part 1, section 15.6 (transient
-- objects), and Part 2, section 7.2 (TPM_HT_TRANSIENT: a handle whose highest byte is 80).
use Rattle.std.specs.Prelude.{◌≡◌, ℕ, Bool, true, List, Option, Some, option_map, Result, Ok, Err, None, slice_set}
use Rattle.tpm_object.specs.Object.{transient_byte}
use Rattle.tpm_object.specs.declared.object.Object.{Object}
use Rattle.tpm_containers.specs.Numbered.{at_number, number_of, without_number}
use Rattle.tpm_containers.specs.Slots.{lowest_free}
use Rattle.tpm_containers.specs.declared.slots.SlotFault.{SlotFault}
use Rattle.tpm_containers.specs.declared.slots.SlotFault.TheVariants.{Full, NoMemory}
use Rattle.tpm_types_common.specs.declared.handle.Handle.{Handle}
use Rattle.tpm_record.specs.declared.objects.Objects.{Objects}

-- the slots of the transient objects. The function `places` returns the slots of their container
abbrev pub objects_of : {O : Type 0}
    → (O → List (Option Object)) → Objects O → List (Option Object)
objects_of places objects = places objects.places

-- the object with this handle
unfoldable pub object_at : List (Option Object) → Handle → Option Object
object_at places handle = at_number transient_byte places handle.number

-- the handle of the object in a slot
abbrev pub object_handle : ℕ → Handle
object_handle place = record { number = number_of 0x80 place }

-- the handle that the next object gets when it is added, or None if no slot is free
abbrev pub next_handle : List (Option Object) → Option Handle
next_handle places = option_map object_handle (lowest_free places)

-- the slots with this object in the slot `place`
abbrev pub with_object : List (Option Object) → ℕ → Object → List (Option Object)
with_object places place object = slice_set places place (Some object)

-- the slots without the object with this handle
unfoldable pub without_object : List (Option Object) → Handle → List (Option Object)
without_object places handle = without_number transient_byte places handle.number

-- On success, the object was put into the lowest free slot. On failure, nothing changed, because
-- all slots were taken or an allocation failed.
abbrev pub Adds : Bool → List (Option Object) → Object
    → Result Handle SlotFault → List (Option Object) → Type 0
Adds can old object (Ok handle) new =
    (place : ℕ) × (lowest_free old ≡ Some place) × (handle ≡ object_handle place)
    × (new ≡ with_object old place object)
Adds can old object (Err Full) new = (lowest_free old ≡ None) × (new ≡ old)
Adds can old object (Err NoMemory) new =
    (place : ℕ) × (lowest_free old ≡ Some place) × (can ≡ true) × (new ≡ old)
