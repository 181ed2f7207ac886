-- The effect of TPM2_Clear on NV indices. TPM 2.0 Library, Part 3, section 24.6 (TPM2_Clear), and
-- Part 2, section 13.4 (TPMA_NV).
use Rattle.std.specs.Prelude.{Bool}
use Rattle.tpm_containers.specs.SortedMap.{kept_entries}
use Rattle.tpm_types_nv.specs.NvAttributes.{has}
use Rattle.tpm_types_nv.specs.declared.nv_attributes.NvAttribute.TheVariants as attribute
use Rattle.tpm_types_nv.specs.declared.nv_public.NvPublic.{NvPublic}
use Rattle.tpm_nv.specs.Index.{NvContents}

-- whether the platform defined an index: PLATFORMCREATE is set
abbrev pub is_by_platform : NvPublic → Bool
is_by_platform public = has public.attributes attribute.PlatformCreate

-- the contents after TPM2_Clear: only the indices that the platform defined remain. The largest
-- value that any counter has ever had does not change
unfoldable pub contents_after_clear : NvContents → NvContents
contents_after_clear contents =
    record contents {
      indices = kept_entries (λ index. is_by_platform index.public) contents.indices;
    }
