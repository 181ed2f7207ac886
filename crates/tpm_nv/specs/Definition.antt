-- The checks of a new NV index, and the effect of its definition. TPM 2.0 Library, Part 3, section
-- 31.3 (TPM2_NV_DefineSpace), and Part 2, section 13.4 (TPMA_NV). The order of the checks and two
-- limits are choices of this implementation: the data is limited to `nv_data_limit`, and
-- unsupported attributes are refused.
use Rattle.tpm_types_common.specs.Algorithm.{is_policy_size}
use Rattle.tpm_types_common.specs.Limits.{nv_data_limit}
use Rattle.std.specs.Prelude.{◌≡◌, ℕ, ◌==◌, ◌&&◌, if◌then◌else◌, nat_lt, nat_le, not, Bool, true, false}
use Rattle.std.specs.Prelude.{List, [], ◌∷◌, length, Option, Some, None, Result, Ok, Err, is_some}
use Rattle.std.specs.Bool.{beq}
use Rattle.std.specs.List.{list_any}
use Rattle.tpm_bytes.specs.Reading.{◌>>=◌, refused_if}
use Rattle.tpm_mac.specs.Digest.{digest_size}
use Rattle.tpm_types_nv.specs.NvAttributes.{has, index_type, is_of}
use Rattle.tpm_types_nv.specs.declared.nv_attributes.NvAttribute.{NvAttribute}
use Rattle.tpm_types_nv.specs.declared.nv_attributes.NvAttribute.TheVariants as attribute
use Rattle.tpm_types_nv.specs.declared.nv_attributes.NvAttributes.{NvAttributes}
use Rattle.tpm_types_nv.specs.NvPublic.{is_nv_public}
use Rattle.tpm_types_nv.specs.declared.nv_public.NvPublic.{NvPublic}
use Rattle.tpm_types_nv.specs.declared.nv_type.NvType.{NvType}
use Rattle.tpm_types_nv.specs.declared.nv_type.NvType.TheVariants as type
use Rattle.tpm_nv.specs.Index.{NvContents, NvIndex, has_room, index_at, with_index}
use Rattle.tpm_nv.specs.declared.fault.DefineFault.{DefineFault}
use Rattle.tpm_nv.specs.declared.fault.DefineFault.TheVariants as define
use Rattle.tpm_nv.specs.declared.fault.RestoreFault.{RestoreFault}
use Rattle.tpm_nv.specs.declared.fault.RestoreFault.TheVariants.{Public, DataSize, Defined, Space, NoMemory}
use Rattle.tpm_nv.specs.declared.definition.DefinitionFault.{DefinitionFault}
use Rattle.tpm_nv.specs.declared.definition.DefinitionFault.TheVariants as fault

-- ---- the checks of a new index

-- whether at least one of these attributes is set
abbrev pub has_one : NvAttributes → List NvAttribute → Bool
has_one attributes these = list_any (λ one. has attributes one) these

-- the attributes that allow somebody to write the index
abbrev pub write_attributes : List NvAttribute
write_attributes =
    attribute.PpWrite ∷ attribute.OwnerWrite ∷ attribute.AuthWrite ∷ attribute.PolicyWrite ∷ []

-- the attributes that allow somebody to read the index
abbrev pub read_attributes : List NvAttribute
read_attributes =
    attribute.PpRead ∷ attribute.OwnerRead ∷ attribute.AuthRead ∷ attribute.PolicyRead ∷ []

-- the attributes that a definition may not set. The first three describe the index's state, and
-- this device does not support the last three
abbrev pub undefinable_attributes : List NvAttribute
undefinable_attributes =
    attribute.Written ∷ attribute.ReadLocked ∷ attribute.WriteLocked
    ∷ attribute.PolicyDelete ∷ attribute.GlobalLock ∷ attribute.Orderly ∷ []

-- tests for the faults that the attributes of a new index can have, one for each fault: the type is
-- not supported; an attribute is set that a definition may not set; nobody may write; nobody may
-- read; the index is a counter that a startup clears; PLATFORMCREATE is set although the owner
-- defines the index, or clear although the platform does
abbrev pub index_attribute_conflicts : (by_platform : Bool) → NvAttributes → List Bool
index_attribute_conflicts by_platform a =
    not (is_some (index_type a))
    ∷ has_one a undefinable_attributes
    ∷ not (has_one a write_attributes)
    ∷ not (has_one a read_attributes)
    ∷ (is_of a type.Counter && has a attribute.ClearStClear)
    ∷ not (beq (has a attribute.PlatformCreate) by_platform) ∷ []

-- whether an index has a size that its type allows
abbrev pub is_type_size : NvPublic → Option NvType → Bool
is_type_size p (Some type.Ordinary) = nat_le p.data_size nv_data_limit
is_type_size p (Some type.Counter) = p.data_size == 8
is_type_size p (Some type.Bits) = p.data_size == 8
is_type_size p (Some type.Extend) = p.data_size == digest_size p.name_alg
is_type_size p None = false

abbrev pub has_type_size : NvPublic → Bool
has_type_size p = is_type_size p (index_type p.attributes)

-- whether the platform (if `by_platform`) or the owner may define an index with this public area
-- and an authorization value of this size (without trailing zeros). The first check that fails
-- determines the fault
unfoldable pub definition_passes : (by_platform : Bool)
    → NvPublic
    → (auth_size : ℕ)
    → Result (Unit {0}) DefinitionFault
definition_passes by_platform p auth_size = do
  value ← refused_if (nat_lt (digest_size p.name_alg) auth_size) fault.AuthValueSize
  policy ← refused_if (not (is_policy_size p.name_alg (length p.auth_policy))) fault.AuthPolicySize
  attributes ← refused_if
      (list_any (λ wrong. wrong) (index_attribute_conflicts by_platform p.attributes))
      fault.Attributes
  refused_if (not (has_type_size p)) fault.DataSize

-- ---- the effect of a definition

-- a newly defined index, whose data is empty
abbrev pub defined_index : NvPublic → List ℕ → NvIndex
defined_index public auth_value = record { public = public; auth_value = auth_value; bytes = [] }

-- The result says whether an index with this public area can be added. A fault says why it cannot
-- be added: the handle already has an index, or there is no room for the index.
abbrev pub HasRoomFor : NvContents → NvPublic → Result (Unit {0}) RestoreFault → Type 0
HasRoomFor contents public (Ok done) =
    (index_at contents public.nv_index ≡ None) × (has_room contents public.data_size ≡ true)
HasRoomFor contents public (Err Defined) = is_some (index_at contents public.nv_index) ≡ true
HasRoomFor contents public (Err Space) =
    (index_at contents public.nv_index ≡ None) × (has_room contents public.data_size ≡ false)
HasRoomFor contents public (Err NoMemory) = ⊥
HasRoomFor contents public (Err Public) = ⊥
HasRoomFor contents public (Err DataSize) = ⊥

-- On success, the index was added with its handle. On failure, nothing changed, and the fault is
-- the first that applies: the handle already has an index, there is no room for the index, or an
-- allocation failed.
abbrev pub Inserts : Bool → NvContents → NvIndex → Result (Unit {0}) RestoreFault → NvContents
    → Type 0
Inserts can old index (Ok done) new =
    (index_at old index.public.nv_index ≡ None)
    × (has_room old index.public.data_size ≡ true)
    × (new ≡ with_index old index.public.nv_index index)
Inserts can old index (Err Defined) new =
    (is_some (index_at old index.public.nv_index) ≡ true) × (new ≡ old)
Inserts can old index (Err Space) new =
    (index_at old index.public.nv_index ≡ None)
    × (has_room old index.public.data_size ≡ false)
    × (new ≡ old)
Inserts can old index (Err NoMemory) new =
    (index_at old index.public.nv_index ≡ None)
    × (has_room old index.public.data_size ≡ true)
    × (can ≡ true)
    × (new ≡ old)
Inserts can old index (Err Public) new = ⊥
Inserts can old index (Err DataSize) new = ⊥

-- whether the index has a size that its type allows, and as many bytes of data. An index that is not
-- written has no data
abbrev pub has_data_size : NvIndex → Bool
has_data_size index =
    has_type_size index.public
    && length index.bytes
    == (if has index.public.attributes attribute.Written then index.public.data_size else 0)

-- An index can be restored if its public area can be encoded, and its data has the right size.
abbrev pub IsRestorable : NvIndex → Type 0
IsRestorable index = (is_nv_public index.public ≡ true) × (has_data_size index ≡ true)

-- On success, the index was restored. On failure, nothing changed, and the fault is the first that
-- applies: the public area cannot be encoded; the data has a wrong size; the handle already has an
-- index; there is no room for the index; or an allocation failed.
abbrev pub Restores : Bool → NvContents → NvIndex → Result (Unit {0}) RestoreFault → NvContents
    → Type 0
Restores can old index (Ok done) new = IsRestorable index × Inserts can old index (Ok done) new
Restores can old index (Err Public) new = (is_nv_public index.public ≡ false) × (new ≡ old)
Restores can old index (Err DataSize) new =
    (is_nv_public index.public ≡ true) × (has_data_size index ≡ false) × (new ≡ old)
Restores can old index (Err Defined) new =
    IsRestorable index × Inserts can old index (Err Defined) new
Restores can old index (Err Space) new = IsRestorable index × Inserts can old index (Err Space) new
Restores can old index (Err NoMemory) new =
    IsRestorable index × Inserts can old index (Err NoMemory) new

-- An index can be defined with this public area: WRITTEN is clear, the type allows the size, and the
-- area can be encoded.
abbrev pub IsDefinable : NvPublic → Type 0
IsDefinable public =
    (has public.attributes attribute.Written ≡ false)
    × (has_type_size public ≡ true)
    × (is_nv_public public ≡ true)

-- On success, the index was defined. On failure, nothing changed, and the fault is the first that
-- applies: WRITTEN is set in the public area; the type does not allow the size; the public area
-- cannot be encoded; the handle already has an index; there is no room for the index; or an
-- allocation failed.
abbrev pub Defines : Bool → NvContents → NvIndex → Result (Unit {0}) DefineFault → NvContents
    → Type 0
Defines can old index (Ok done) new = IsDefinable index.public × Inserts can old index (Ok done) new
Defines can old index (Err define.Written) new =
    (has index.public.attributes attribute.Written ≡ true) × (new ≡ old)
Defines can old index (Err define.DataSize) new =
    (has index.public.attributes attribute.Written ≡ false)
    × (has_type_size index.public ≡ false)
    × (new ≡ old)
Defines can old index (Err define.Public) new =
    (has index.public.attributes attribute.Written ≡ false)
    × (has_type_size index.public ≡ true)
    × (is_nv_public index.public ≡ false)
    × (new ≡ old)
Defines can old index (Err define.Defined) new =
    IsDefinable index.public × Inserts can old index (Err Defined) new
Defines can old index (Err define.Space) new =
    IsDefinable index.public × Inserts can old index (Err Space) new
Defines can old index (Err define.NoMemory) new =
    IsDefinable index.public × Inserts can old index (Err NoMemory) new
