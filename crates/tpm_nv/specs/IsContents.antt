-- The conditions that the NV indices of a device always satisfy.
use Rattle.tpm_types_common.specs.Limits.{nv_index_limit, nv_space_limit}
use Rattle.std.specs.Prelude.{◌≡◌, ℕ, ◌<◌, ◌≤◌, ◌^◌, true, [], ◌∷◌, length, if◌then◌else◌}
use Rattle.tpm_containers.specs.SortedMap.{Ascends, Entries}
use Rattle.tpm_types_common.specs.AuthValue.{IsAuthValue}
use Rattle.tpm_types_nv.specs.NvAttributes.{has}
use Rattle.tpm_types_nv.specs.NvPublic.{IsNvPublic}
use Rattle.tpm_types_nv.specs.declared.nv_attributes.NvAttribute.TheVariants as attribute
use Rattle.tpm_nv.specs.Definition.{has_type_size}
use Rattle.tpm_nv.specs.Index.{NvContents, NvIndex, data_bytes}

-- The key of an index is its handle. Its public area can be encoded, its type allows its size, and
-- its authorization value can be stored. If the index has WRITTEN set, its data is as long as the
-- public area says; otherwise the data is empty.
pub record IsIndex (key : ℕ) (index : NvIndex) : Type 0 where
  pub named : key ≡ index.public.nv_index.number
  pub public : IsNvPublic index.public
  pub sized : has_type_size index.public ≡ true
  pub auth_value : IsAuthValue index.auth_value
  pub data_size : length index.bytes
      ≡ (if has index.public.attributes attribute.Written then index.public.data_size else 0)

abbrev pub AreIndices : Entries NvIndex → Type 0
AreIndices [] = Unit {0}
AreIndices (e ∷ es) = IsIndex e.0 e.1 × AreIndices es

pub record IsContents (contents : NvContents) : Type 0 where
  pub ascends : Ascends contents.indices
  pub few : length contents.indices ≤ nv_index_limit
  pub small : data_bytes contents ≤ nv_space_limit
  pub indices : AreIndices contents.indices
  pub max_count : contents.max_count < 2 ^ 64
