-- How a success changes the NV indices, depending on the part of the state that it changes. TPM 2.0
-- Library, Part 3, section 31 (non-volatile storage), and Part 1, section 37.
use Rattle.std.specs.Prelude.{◌≡◌, ℕ, Bool, false, List, Option, Some, None, Ok, if◌then◌else◌}
use Rattle.std.specs.Int.{w64, from_be_bytes}
use Rattle.std.specs.List.{list_any}
use Rattle.tpm_types_common.specs.declared.handle.Handle.{Handle}
use Rattle.tpm_types_nv.specs.NvAttributes.{index_type}
use Rattle.tpm_types_nv.specs.declared.nv_attributes.NvAttribute.TheVariants as attribute
use Rattle.tpm_types_nv.specs.declared.nv_public.NvPublic.{NvPublic}
use Rattle.tpm_types_nv.specs.declared.nv_type.NvType.TheVariants as type
use Rattle.tpm_nv.specs.Access.{contents_after_increment, index_has}
use Rattle.tpm_nv.specs.Clear.{contents_after_clear}
use Rattle.tpm_nv.specs.Definition.{defined_index, index_attribute_conflicts}
use Rattle.tpm_nv.specs.Index.{NvContents, NvIndex, changed_index, index_at, with_index}
use Rattle.tpm_nv.specs.Index.{without_index}
use Rattle.tpm_record.specs.rows.Request.{Request, second_handle}
use Rattle.tpm_nvactions.specs.NvDefineSpace.{Parameters, parameters_in}
use Rattle.tpm_step.specs.rows.Footprint.{StartsNv}
use Rattle.tpm_commands.specs.Part.{Part, NvData, NvCounter, NvAuthValue, NvDefined, NvUndefined, Beginning}
use Rattle.tpm_commands.specs.Part.{Cleared}

abbrev pub IsCounter : NvIndex → Type 0
IsCounter index = index_type index.public.attributes ≡ Some type.Counter

-- the value of a counter, if it has been incremented since its definition
abbrev pub stored_count : NvIndex → Option ℕ
stored_count index =
    if index_has index attribute.Written then Some (from_be_bytes w64 index.bytes) else None

-- If the index is a counter after the change, it was a counter before, with the same value and the
-- same TPMA_NV_CLEAR_STCLEAR.
abbrev pub KeepsCount : NvIndex → NvIndex → Type 0
KeepsCount old new =
    IsCounter new
    → IsCounter old
    × (stored_count new ≡ stored_count old)
    × (index_has new attribute.ClearStClear ≡ index_has old attribute.ClearStClear)

-- One index is locked, or one index that is not a counter is written. The index keeps its
-- authorization value and, if it is a counter, its value.
pub record Writes (old new : NvContents) : Type 0 where
  pub handle : Handle
  pub before : NvIndex
  pub after : NvIndex
  pub found : index_at old handle ≡ Some before
  pub count : KeepsCount before after
  pub auth_value : after.auth_value ≡ before.auth_value
  pub is : new ≡ changed_index old handle after

-- The counter that the second handle names is incremented.
pub record Increments (q : Request) (old new : NvContents) : Type 0 where
  pub handle : Handle
  pub named : second_handle q.handles ≡ Ok handle
  pub is : contents_after_increment old handle ≡ Ok new

-- The authorization value of one index changes, and nothing else.
pub record ChangesAuth (old new : NvContents) : Type 0 where
  pub handle : Handle
  pub index : NvIndex
  pub value : List ℕ
  pub found : index_at old handle ≡ Some index
  pub is : new ≡ changed_index old handle (record index { auth_value = value })

-- The attributes of a new index do not conflict, given that the platform (true) or the owner
-- (false) defines it.
abbrev pub HasNoConflict : (by_platform : Bool) → NvPublic → Type 0
HasNoConflict by_platform p =
    list_any (λ wrong. wrong) (index_attribute_conflicts by_platform p.attributes) ≡ false

-- The index that the parameters define is added. Its handle had no index before, and its attributes
-- do not conflict.
pub record Defines (q : Request) (old new : NvContents) : Type 0 where
  pub by_platform : Bool
  pub parameters : Parameters
  pub read : parameters_in q.parameters ≡ Ok parameters
  pub free : index_at old parameters.public.nv_index ≡ None
  pub passes : HasNoConflict by_platform parameters.public
  pub is : new
      ≡ with_index old parameters.public.nv_index
      (defined_index parameters.public parameters.auth_value)

-- The index that the second handle names is removed.
pub record Undefines (q : Request) (old new : NvContents) : Type 0 where
  pub handle : Handle
  pub named : second_handle q.handles ≡ Ok handle
  pub is : new ≡ without_index old handle

-- how a success changes the NV indices if it changes this part of the state; if the part is not
-- listed here, the indices are unchanged
abbrev pub ChangesIndices : Part → Request → NvContents → NvContents → Type 0
ChangesIndices NvData q = Writes
ChangesIndices NvCounter q = Increments q
ChangesIndices NvAuthValue q = ChangesAuth
ChangesIndices NvDefined q = Defines q
ChangesIndices NvUndefined q = Undefines q
ChangesIndices Beginning q = StartsNv
ChangesIndices Cleared q = λ old new. new ≡ contents_after_clear old
ChangesIndices _ q = λ old new. new ≡ old
