-- TPM2_EvictControl. TPM 2.0 Library, Part 3, section 28.5, and Part 2, section 7.5 (TPM_HC: the
-- persistent handles of the platform start at 81800000).
use Rattle.tpm_types_common.specs.Limits.{persistent_limit}
use Rattle.tpm_types_common.specs.declared.action_check.ActionCheck.TheVariants as action
use Rattle.std.specs.Prelude.{◌≡◌, ◌==◌, nat_le, not, Bool, true, false, length, is_some, if◌then◌else◌, Result, Ok, Err}
use Rattle.tpm_containers.specs.SortedMap.{Entries}
use Rattle.tpm_bytes.specs.Reading.{◌>>=◌, refused_if}
use Rattle.tpm_object.specs.declared.object.Object.{Object}
use Rattle.tpm_types_common.specs.Handle.{is_persistent, platform_handle}
use Rattle.tpm_types_common.specs.PersistentHandle.{persistent_handle_at}
use Rattle.tpm_types_common.specs.Rc.{at, plain}
use Rattle.tpm_types_common.specs.declared.handle.Handle.{Handle}
use Rattle.tpm_types_common.specs.declared.handle.HierarchyHandle.{HierarchyHandle}
use Rattle.tpm_types_common.specs.declared.handle.HierarchyHandle.TheVariants as hierarchy
use Rattle.tpm_types_common.specs.declared.rc.Place.TheVariants as place
use Rattle.tpm_types_common.specs.declared.rc.ResponseCode.TheVariants as code
use Rattle.tpm_types_common.specs.declared.refused.Refused.{Refused}
use Rattle.tpm_types_object.specs.ObjectAttributes.{has}
use Rattle.tpm_types_object.specs.declared.object_attributes.ObjectAttribute.TheVariants as attribute
use Rattle.tpm_record.specs.Persistent.{persistent_at, with_persistent, without_persistent}
use Rattle.tpm_record.specs.Record.{Record}
use Rattle.tpm_record.specs.rows.Answer.{nothing}
use Rattle.tpm_record.specs.rows.Refusals.{action_refusal, memory_refusal, parameter_refusal}
use Rattle.tpm_record.specs.rows.Request.{Request, first_handle, second_handle}
use Rattle.tpm_record.specs.rows.Rows.{Success, only}
use Rattle.tpm_actions_object.specs.Loaded.{loaded_at}

-- whether the platform (if `by_platform`) or the owner may make an object of this hierarchy
-- persistent. The objects of the endorsement hierarchy belong to the owner; objects of the null
-- hierarchy cannot be made persistent
abbrev pub is_of : (by_platform : Bool) → HierarchyHandle → Bool
is_of false hierarchy.Owner = true
is_of false hierarchy.Endorsement = true
is_of true hierarchy.Platform = true
is_of _ _ = false

-- whether the platform (if `by_platform`) or the owner may evict an object: each may evict its own
-- objects, and the platform may also remove any persistent object
abbrev pub may_evict : (by_platform removes : Bool) → HierarchyHandle → Bool
may_evict true true h = true
may_evict true false h = is_of true h
may_evict false removes h = is_of false h

-- whether a handle is reserved for the platform's persistent objects
abbrev pub is_of_platform : Handle → Bool
is_of_platform handle = nat_le 0x81800000 handle.number

-- whether the platform (if `by_platform`) or the owner may use this persistent handle. The owner
-- may not use the platform's handles; for a new persistent object the platform may use only its own
-- handles
abbrev pub may_name : (by_platform removes : Bool) → Handle → Bool
may_name true true wanted = true
may_name true false wanted = is_of_platform wanted
may_name false removes wanted = not (is_of_platform wanted)

-- the checks of an eviction by the platform (if `by_platform`) or the owner. Check A1 refuses the
-- eviction if this hierarchy may not evict the object; A2 if the object has stClear; A3 if this
-- hierarchy may not use the handle
abbrev pub eviction_passes : (by_platform removes : Bool)
    → Object → Handle → Result (Unit {0}) Refused
eviction_passes by_platform removes object wanted = do
  a1 ← refused_if (not (may_evict by_platform removes object.hierarchy))
      (action_refusal action.First (at (place.Handle 2) (plain code.Hierarchy)))
  a2 ← refused_if (has object.public.attributes attribute.StClear)
      (action_refusal action.Second (at (place.Handle 2) (plain code.Attributes)))
  refused_if (not (may_name by_platform removes wanted)) (parameter_refusal action.Third 1 code.Range)

-- the persistent objects, except the one with this handle. Refused by check A4 if persistentHandle
-- is a different handle
abbrev pub remaining_objects : Entries Object → Handle → Handle → Result (Entries Object) Refused
remaining_objects objects handle wanted = do
  a4 ← refused_if (not (wanted.number == handle.number))
      (action_refusal action.Fourth (at (place.Handle 2) (plain code.Handle)))
  Ok (without_persistent objects handle)

-- the persistent objects after a transient object is copied to this handle. Refused by check A5 if
-- the handle is taken; by A6 if no further object can be stored
abbrev pub objects_with_copy : Entries Object → Object → Handle → Result (Entries Object) Refused
objects_with_copy objects object wanted = do
  a5 ← refused_if (is_some (persistent_at objects wanted)) (action_refusal action.Fifth (plain code.NvDefined))
  a6 ← refused_if (nat_le persistent_limit (length objects)) (action_refusal action.Sixth (plain code.NvSpace))
  Ok (with_persistent objects wanted object)

-- the persistent objects after an eviction, which removes a persistent object or copies a transient
-- object
abbrev pub objects_after_eviction : Entries Object → Handle → Object → Handle
    → Result (Entries Object) Refused
objects_after_eviction objects handle object wanted =
    if is_persistent handle then remaining_objects objects handle wanted
    else objects_with_copy objects object wanted

-- the row of TPM2_EvictControl. Handles: auth (the owner or the platform) and objectHandle.
-- Parameter: persistentHandle. Refused by A1 to A6, the checks of an eviction
unfoldable pub evict_control_row : Record → Request → Result Success Refused
evict_control_row r q = do
  auth ← first_handle q.handles
  handle ← second_handle q.handles
  object ← loaded_at r handle
  wanted ← only (persistent_handle_at q.parameters)
  passed ← eviction_passes
      (auth.number == platform_handle.number) (is_persistent handle) object wanted
  persistent ← objects_after_eviction r.persistent handle object wanted
  Ok (record { answer = nothing; after = record r { persistent = persistent } })

-- The code changed the persistent objects or refused the command, as the definition says. If memory
-- can run out, the code may have refused the command with MEMORY instead of changing them. A
-- refusal changes nothing.
abbrev pub Evicts : Bool → Result (Entries Object) Refused
    → Record → Result (Unit {0}) Refused → Record → Type 0
Evicts can (Ok persistent) old (Ok done) new = new ≡ record old { persistent = persistent }
Evicts can (Ok persistent) old (Err e) new = (can ≡ true) × (e ≡ memory_refusal) × (new ≡ old)
Evicts can (Err refused) old (Ok done) new = ⊥
Evicts can (Err refused) old (Err e) new = (e ≡ refused) × (new ≡ old)
