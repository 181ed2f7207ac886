-- The persistent objects of a device, in ascending order of handle. TPM 2.0 Library, Part 1,
-- section 37.3 (owner and platform evict objects), and Part 2, section 7.2 (TPM_HT_PERSISTENT: a
-- handle whose highest byte is 81).
use Rattle.tpm_types_common.specs.Limits.{persistent_limit}
use Rattle.std.specs.Prelude.{◌≡◌, ℕ, ◌≤◌, Bool, true, false, [], length, Option}
use Rattle.tpm_containers.specs.SortedMap.{AreEach, Ascends, Entries, at_key, key_from, with_key, without_key}
use Rattle.tpm_object.specs.Object.{IsObject}
use Rattle.tpm_object.specs.declared.object.Object.{Object}
use Rattle.tpm_types_common.specs.Handle.{is_persistent, numbered_handle}
use Rattle.tpm_types_common.specs.declared.handle.Handle.{Handle}
use Rattle.tpm_types_common.specs.declared.handle.HierarchyHandle.{HierarchyHandle}
use Rattle.tpm_types_common.specs.declared.handle.HierarchyHandle.TheVariants as hierarchy

abbrev pub no_persistent : Entries Object
no_persistent = []

-- the object with this handle
abbrev pub persistent_at : Entries Object → Handle → Option Object
persistent_at objects handle = at_key objects handle.number

-- the persistent objects after an object was added
abbrev pub with_persistent : Entries Object → Handle → Object → Entries Object
with_persistent objects handle object = with_key objects handle.number object

-- the persistent objects after an object was removed
abbrev pub without_persistent : Entries Object → Handle → Entries Object
without_persistent objects handle = without_key objects handle.number

-- the lowest handle of a persistent object at or above this number
abbrev pub next_persistent : Entries Object → ℕ → Option ℕ
next_persistent objects number = key_from objects number

-- whether objects in a hierarchy can be made persistent. Objects in the null hierarchy cannot,
-- because the secrets of this hierarchy are replaced at each TPM Reset
abbrev pub can_persist : HierarchyHandle → Bool
can_persist hierarchy.Owner = true
can_persist hierarchy.Endorsement = true
can_persist hierarchy.Platform = true
can_persist hierarchy.Null = false

-- The invariant of a persistent object: its handle is persistent, objects in its hierarchy can be
-- made persistent, and the object satisfies `IsObject`.
pub record IsPersistent (number : ℕ) (object : Object) : Type 0 where
  pub named : is_persistent (numbered_handle number) ≡ true
  pub owned : can_persist object.hierarchy ≡ true
  pub sized : IsObject object

-- The invariant of all persistent objects: their handles ascend, their number is within the limit,
-- and each object satisfies `IsPersistent`.
pub record ArePersistent (objects : Entries Object) : Type 0 where
  pub ascends : Ascends objects
  pub few : length objects ≤ persistent_limit
  pub each : AreEach IsPersistent objects
