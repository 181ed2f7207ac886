-- The object that a command's handle names, and the conditions that a parent must satisfy.
use Rattle.tpm_types_common.specs.declared.action_check.ActionCheck.{ActionCheck}
use Rattle.tpm_types_common.specs.declared.action_check.ActionCheck.TheVariants as action
use Rattle.std.specs.Prelude.{◌≡◌, ℕ, not, Bool, true, Result, Ok, Err, ok_or}
use Rattle.tpm_bytes.specs.Reading.{refused_if}
use Rattle.tpm_object.specs.declared.object.Object.{Object}
use Rattle.tpm_object.specs.Object.{is_storage_parent}
use Rattle.tpm_containers.specs.Slots.{lowest_free}
use Rattle.tpm_types_common.specs.declared.handle.Handle.{Handle}
use Rattle.tpm_types_object.specs.declared.object_attributes.ObjectAttribute.TheVariants as attribute
use Rattle.tpm_types_common.specs.declared.rc.Place.TheVariants as place
use Rattle.tpm_types_common.specs.declared.rc.ResponseCode.TheVariants as code
use Rattle.tpm_types_object.specs.ObjectAttributes.{has}
use Rattle.tpm_types_common.specs.Rc.{at, plain}
use Rattle.tpm_record.specs.Entity.{object_of}
use Rattle.tpm_record.specs.Objects.{object_handle, with_object}
use Rattle.tpm_record.specs.Record.{Record}
use Rattle.tpm_types_common.specs.declared.refused.Refused.{Refused}
use Rattle.tpm_record.specs.rows.Refusals.{action_refusal, handle_refusal, memory_refusal}

-- the object with this handle; the general checks ensure that it exists
abbrev pub loaded_at : Record → Handle → Result Object Refused
loaded_at r handle = ok_or (object_of r handle) handle_refusal

-- check A1, which refuses the first handle if its object is not a storage parent
abbrev pub parent_passes : Object → Result (Unit {0}) Refused
parent_passes parent =
    refused_if (not (is_storage_parent parent.public))
    (action_refusal action.First (at (place.Handle 1) (plain code.Type)))

-- whether an object has fixedTPM. If it does, each of its children has fixedTPM exactly if the
-- child has fixedParent
abbrev pub is_fixed : Object → Bool
is_fixed parent = has parent.public.attributes attribute.FixedTpm

-- the refusal by this check if all object slots are taken
abbrev pub no_place : ActionCheck → Refused
no_place action = action_refusal action (plain code.ObjectMemory)

-- the slot for a new object, or the refusal by this check if no slot is free
abbrev pub place_for : ActionCheck → Record → Result ℕ Refused
place_for action r = ok_or (lowest_free r.objects) (no_place action)

-- On success, the object is in its slot. On a refusal, nothing changed: no slot was free, or memory
-- ran out, which is possible only if `can` is true.
abbrev pub Loads : Bool → Result ℕ Refused → Record → Object → Result Handle Refused → Record
    → Type 0
Loads can (Ok place) old object (Ok handle) new =
    (handle ≡ object_handle place)
    × (new ≡ record old { objects = with_object old.objects place object })
Loads can (Ok place) old object (Err e) new =
    (can ≡ true) × (e ≡ memory_refusal) × (new ≡ old)
Loads can (Err refused) old object (Ok handle) new = ⊥
Loads can (Err refused) old object (Err e) new = (e ≡ refused) × (new ≡ old)
