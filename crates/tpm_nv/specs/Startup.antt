-- The effect of a startup with CLEAR on NV indices. TPM 2.0 Library, Part 3, section 9.3
-- (TPM2_Startup), and Part 2, section 13.4 (TPMA_NV).
use Rattle.std.specs.Prelude.{◌&&◌, [], map, if◌then◌else◌}
use Rattle.tpm_types_nv.specs.NvAttributes.{has, without_attribute}
use Rattle.tpm_types_nv.specs.declared.nv_attributes.NvAttribute.TheVariants as attribute
use Rattle.tpm_types_nv.specs.declared.nv_attributes.NvAttributes.{NvAttributes}
use Rattle.tpm_nv.specs.Index.{NvContents, NvIndex}

-- the attributes, with WRITTEN cleared if CLEAR_STCLEAR is set
abbrev pub kept_written : NvAttributes → NvAttributes
kept_written a =
    if has a attribute.ClearStClear then without_attribute a attribute.Written else a

-- the attributes with READLOCKED cleared; WRITELOCKED is cleared too, unless WRITEDEFINE and
-- WRITTEN are both set
abbrev pub unlocked : NvAttributes → NvAttributes
unlocked a =
    let to_read : NvAttributes = without_attribute a attribute.ReadLocked in
    if has a attribute.WriteDefine && has a attribute.Written then to_read
    else without_attribute to_read attribute.WriteLocked

abbrev pub started_attributes : NvAttributes → NvAttributes
started_attributes a = unlocked (kept_written a)

-- an index after a startup with CLEAR. If WRITTEN is then clear, the index's data is empty
abbrev pub started_index : NvIndex → NvIndex
started_index index = record {
  public = record index.public { attributes = started_attributes index.public.attributes };
  auth_value = index.auth_value;
  bytes = if has (kept_written index.public.attributes) attribute.Written then index.bytes else [];
}

-- the contents after a startup with CLEAR, which changes every index to its `started_index`
unfoldable pub contents_after_startup : NvContents → NvContents
contents_after_startup contents =
    record contents { indices = map (λ e. (e.0, started_index e.1)) contents.indices }
