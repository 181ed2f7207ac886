-- Creation data, which record how an object was created. TPM 2.0 Library, Part 2, section 15.1
-- (TPMS_CREATION_DATA).
use Rattle.std.specs.Prelude.{ℕ, ◌≤◌, ◌<◌, ◌^◌, List, ◌++◌, length, Result, Ok}
use Rattle.std.specs.Int.{w8, w16, to_be_bytes}
use Rattle.tpm_bytes.specs.Reading.{◌>>=◌, number_at, or_fault}
use Rattle.tpm_bytes.specs.Writing.{sized_text}
use Rattle.tpm_types_object.specs.declared.creation_data.CreationData.{CreationData}
use Rattle.tpm_types_common.specs.declared.rc.Rc.{Rc}
use Rattle.tpm_types_common.specs.declared.rc.ResponseCode.TheVariants as code
use Rattle.tpm_types_common.specs.Algorithm.{hash_or_null_at, hash_or_null_number}
use Rattle.tpm_types_common.specs.Buffer.{buffer_at}
use Rattle.tpm_types_common.specs.PcrSelection.{IsSelection, selection_at, selection_text}
use Rattle.tpm_types_common.specs.Rc.{plain}

-- the encoding of creation data: the selected PCRs and the digest of their values, the locality,
-- the parent's nameAlg, Name and qualified Name, and the caller's data
unfoldable pub creation_data_text : CreationData → List ℕ
creation_data_text c =
    selection_text c.pcr_select.banks.items ++ sized_text c.pcr_digest ++ to_be_bytes w8 c.locality
    ++ to_be_bytes w16 (hash_or_null_number c.parent_name_alg) ++ sized_text c.parent_name
    ++ sized_text c.parent_qualified_name ++ sized_text c.outside_info

-- Creation data can be encoded if each of their fields is valid.
pub record IsCreationData (c : CreationData) : Type 0 where
  pub pcr_select : IsSelection c.pcr_select.banks.items
  pub pcr_digest : length c.pcr_digest ≤ 32
  pub locality : c.locality < 2 ^ 8
  pub parent_name : length c.parent_name ≤ 34
  pub parent_qualified_name : length c.parent_qualified_name ≤ 34
  pub outside_info : length c.outside_info ≤ 34

-- the creation data at the start of the bytes, and the remaining bytes
unfoldable pub creation_data_at : List ℕ → Result (CreationData × List ℕ) Rc
creation_data_at text = do
  pcr_select ← selection_at text
  pcr_digest ← buffer_at 32 pcr_select.1
  locality ← or_fault (number_at w8 pcr_digest.1) (plain code.Insufficient)
  parent_name_alg ← hash_or_null_at locality.1
  parent_name ← buffer_at 34 parent_name_alg.1
  parent_qualified_name ← buffer_at 34 parent_name.1
  outside_info ← buffer_at 34 parent_qualified_name.1
  Ok (
    record {
      pcr_select = record { banks = record { items = pcr_select.0 } };
      pcr_digest = pcr_digest.0;
      locality = locality.0;
      parent_name_alg = parent_name_alg.0;
      parent_name = parent_name.0;
      parent_qualified_name = parent_qualified_name.0;
      outside_info = outside_info.0;
    },
    outside_info.1,
  )
