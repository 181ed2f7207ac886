-- How a transient or persistent object is added to a record or removed from it, and how the next
-- handle that belongs to an object is found. TPM 2.0 Library, Part 1, sections 15.6 (transient
-- objects) and 37.3 (persistent objects).
use Rattle.tpm_types_common.specs.Limits.{object_limit, persistent_limit}
use Rattle.std.specs.Prelude.{◌≡◌, ℕ, zero, suc, ◌&&◌, nat_le, Bool, is_some, if◌then◌else◌, List, Option, Some, None, option_map, Result}
use Rattle.tpm_object.specs.declared.object.Object.{Object}
use Rattle.tpm_containers.specs.Numbered.{number_of}
use Rattle.tpm_containers.specs.declared.slots.SlotFault.{SlotFault}
use Rattle.tpm_containers.specs.SortedMap.{PutsKey}
use Rattle.tpm_containers.specs.declared.sorted_map.KeyFault.{KeyFault}
use Rattle.tpm_types_common.specs.Handle.{is_persistent}
use Rattle.tpm_types_common.specs.declared.handle.Handle.{Handle}
use Rattle.tpm_record.specs.Objects.{Adds, object_at, object_handle, without_object}
use Rattle.tpm_record.specs.Persistent.{next_persistent, without_persistent}
use Rattle.tpm_record.specs.Record.{Record}

-- A transient object was added, or adding it was refused; nothing else in the record changed.
abbrev pub AddsObject : Bool → Record → Object → Result Handle SlotFault → Record → Type 0
AddsObject can old object result new =
    Adds can old.objects object result new.objects × (new ≡ record old { objects = new.objects })

-- A persistent object was added, or adding it was refused; nothing else in the record changed.
abbrev pub AddsPersistent : Bool → Record → Handle → Object → Result (Unit {0}) KeyFault → Record
    → Type 0
AddsPersistent can old handle object result new =
    PutsKey persistent_limit can old.persistent handle.number object result new.persistent
    × (new ≡ record old { persistent = new.persistent })

-- the record without the transient or persistent object with this handle
abbrev pub without_object_of : Record → Handle → Record
without_object_of r handle =
    if is_persistent handle
    then record r { persistent = without_persistent r.persistent handle }
    else record r { objects = without_object r.objects handle }

-- ---- the next handle that belongs to an object

-- the first value, or the second value if the first is absent
abbrev pub or_else : {X : Type 0} → Option X → Option X → Option X
or_else (Some x) other = Some x
or_else None other = other

-- the lowest number below this limit that passes a test
abbrev pub least_below : (ℕ → Bool) → ℕ → Option ℕ
least_below test zero = None
least_below test (suc n) = or_else (least_below test n) (if test n then Some n else None)

-- whether a slot contains a transient object whose handle is at or above this number
abbrev pub is_from : List (Option Object) → (number place : ℕ) → Bool
is_from objects number place =
    nat_le number (number_of 0x80 place) && is_some (object_at objects (object_handle place))

-- the lowest handle of a transient object at or above this number
abbrev pub next_transient : List (Option Object) → ℕ → Option ℕ
next_transient objects number =
    option_map (number_of 0x80) (least_below (is_from objects number) object_limit)

-- the lowest handle of an object at or above this number. Every transient handle is below every
-- persistent handle
abbrev pub next_object : Record → ℕ → Option ℕ
next_object r number = or_else (next_transient r.objects number) (next_persistent r.persistent number)
