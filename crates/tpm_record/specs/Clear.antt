-- The effect of TPM2_Clear on transient and persistent objects: it removes the objects in the owner
-- and endorsement hierarchies. TPM 2.0 Library, Part 3, section 24.6. The effect on the hierarchies
-- is defined in Hierarchy, and the effect on NV indices in tpm_nv/Clear.
use Rattle.std.specs.Prelude.{◌≡◌, ◌≤◌, ℕ, Bool, true, false, not, List, Option, Some, None, map, if◌then◌else◌}
use Rattle.tpm_containers.specs.SortedMap.{Entries, kept_entries}
use Rattle.tpm_object.specs.Object.{transient_byte}
use Rattle.tpm_object.specs.declared.object.Object.{Object}
use Rattle.tpm_containers.specs.Numbered.{at_number}
use Rattle.tpm_containers.specs.Slots.{taken_count}
use Rattle.tpm_types_common.specs.declared.handle.HierarchyHandle.{HierarchyHandle}
use Rattle.tpm_types_common.specs.declared.handle.HierarchyHandle.TheVariants as hierarchy

-- whether TPM2_Clear removes the objects in a hierarchy
abbrev pub is_cleared : HierarchyHandle → Bool
is_cleared hierarchy.Owner = true
is_cleared hierarchy.Endorsement = true
is_cleared hierarchy.Platform = false
is_cleared hierarchy.Null = false

-- whether a slot contains an object that TPM2_Clear removes
abbrev pub is_place_cleared : Option Object → Bool
is_place_cleared (Some object) = is_cleared object.hierarchy
is_place_cleared None = false

-- a slot after TPM2_Clear: free if its object is removed, and otherwise unchanged
abbrev pub cleared_place : Option Object → Option Object
cleared_place place = if is_place_cleared place then None else place

unfoldable pub cleared_objects : List (Option Object) → List (Option Object)
cleared_objects places = map cleared_place places

-- whether a persistent object survives TPM2_Clear
abbrev pub outlasts : Object → Bool
outlasts object = not (is_cleared object.hierarchy)

abbrev pub cleared_persistent : Entries Object → Entries Object
cleared_persistent objects = kept_entries outlasts objects

-- What TPM2_Clear does to the transient objects.
pub record ClearingLaws : Type 0 where
  -- an object in a cleared hierarchy is removed
  pub gone : (places : List (Option Object)) (number : ℕ) (object : Object)
      → at_number transient_byte places number ≡ Some object
      → is_cleared object.hierarchy ≡ true
      → at_number transient_byte (cleared_objects places) number ≡ None
  -- any other object is unchanged
  pub stays : (places : List (Option Object)) (number : ℕ) (object : Object)
      → at_number transient_byte places number ≡ Some object
      → is_cleared object.hierarchy ≡ false
      → at_number transient_byte (cleared_objects places) number ≡ Some object
  -- if there was no object with this handle, there is still none
  pub absent : (places : List (Option Object)) (number : ℕ)
      → at_number transient_byte places number ≡ None
      → at_number transient_byte (cleared_objects places) number ≡ None
  -- the number of slots in use does not increase
  pub few : (places : List (Option Object))
      → taken_count (cleared_objects places) ≤ taken_count places
