-- Defines when a device has the authorization values that its history determines.
use Rattle.std.specs.Prelude.{◌≡◌, ℕ, List, if◌then◌else◌, Option, Some, option_map}
use Rattle.tpm_nv.specs.Index.{NvIndex, index_at}
use Rattle.tpm_object.specs.declared.object.Object.{Object}
use Rattle.tpm_types_common.specs.Handle.{is_nv_index, is_persistent, is_transient}
use Rattle.tpm_types_common.specs.declared.handle.Handle.{Handle}
use Rattle.tpm_record.specs.Entity.{permanent_auth_value}
use Rattle.tpm_record.specs.Objects.{object_at}
use Rattle.tpm_record.specs.Persistent.{persistent_at}
use Rattle.tpm_record.specs.Record.{Record}
use Rattle.tpm_step.specs.history.AuthValues.{AuthValues, auth_of}
use Rattle.tpm_step.specs.history.History.{History}

-- selects one of four values by the type of a handle: an NV index, a persistent object, a transient
-- object, or anything else
abbrev pub by_type : {X : Type 0} → Handle → (index persistent transient other : X) → X
by_type handle index persistent transient other =
    if is_nv_index handle then index
    else (if is_persistent handle then persistent
    else (if is_transient handle then transient
    else other))

abbrev pub index_auth : Option NvIndex → Option (List ℕ)
index_auth found = option_map (λ (index : NvIndex). index.auth_value) found

abbrev pub object_auth : Option Object → Option (List ℕ)
object_auth found = option_map (λ (object : Object). object.auth_value) found

-- the authorization value of the entity that a handle names, if the entity exists. A handle that
-- does not have the type of an index or an object always names an entity
abbrev pub auth_seen : Record → Handle → Option (List ℕ)
auth_seen r handle =
    by_type handle (index_auth (index_at r.nv handle))
    (object_auth (persistent_at r.persistent handle)) (object_auth (object_at r.objects handle))
    (Some (permanent_auth_value r handle))

-- `values` has the authorization value of each existing entity, at the entity's handle.
abbrev pub HaveValues : Record → AuthValues → Type 0
HaveValues r values =
    (handle : Handle) (value : List ℕ) → auth_seen r handle ≡ Some value → value ≡ values handle

-- A device and its history have the same authorization values.
abbrev pub HasAuthValues : Record → History → Type 0
HasAuthValues r history = HaveValues r (auth_of history)
