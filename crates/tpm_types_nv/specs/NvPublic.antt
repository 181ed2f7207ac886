-- The public areas of NV indices. TPM 2.0 Library, Part 2, sections 13.5 (TPMS_NV_PUBLIC) and 13.6
-- (TPM2B_NV_PUBLIC), and section 7.2 (TPM_HT_NV_INDEX: a handle whose most significant byte is 01).
use Rattle.std.specs.Prelude.{◌≡◌, ℕ, ◌==◌, ◌&&◌, bit_and, ◌<◌, ◌≤◌, ◌^◌, not, Bool, true, List, ◌++◌, length}
use Rattle.std.specs.Prelude.{Result, Ok}
use Rattle.std.specs.Int.{w16, w32, to_be_bytes}
use Rattle.tpm_bytes.specs.Reading.{◌>>=◌, number_at, or_fault, refused_if}
use Rattle.tpm_bytes.specs.Writing.{sized_text}
use Rattle.tpm_types_nv.specs.declared.nv_public.NvPublic.{NvPublic}
use Rattle.tpm_types_nv.specs.NvAttributes.{IsNvAttributes, nv_attributes_at, nv_attributes_text, reserved_bits}
use Rattle.tpm_types_common.specs.declared.handle.Handle.{Handle}
use Rattle.tpm_types_common.specs.declared.rc.Rc.{Rc}
use Rattle.tpm_types_common.specs.declared.rc.ResponseCode.TheVariants as code
use Rattle.tpm_types_common.specs.Algorithm.{hash_at, hash_number}
use Rattle.tpm_types_common.specs.Buffer.{buffer_at}
use Rattle.tpm_types_common.specs.Handle.{is_nv_index, numbered_handle}
use Rattle.tpm_types_common.specs.Rc.{plain}

abbrev pub nv_index_text : Handle → List ℕ
nv_index_text handle = to_be_bytes w32 handle.number

-- the handle of an index at the start of the bytes, and the remaining bytes
unfoldable pub nv_index_at : List ℕ → Result (Handle × List ℕ) Rc
nv_index_at text = do
  number ← or_fault (number_at w32 text) (plain code.Insufficient)
  named ← refused_if (not (is_nv_index (numbered_handle number.0))) (plain code.Value)
  Ok (numbered_handle number.0, number.1)

-- the encoding of a public area: the handle of the index, nameAlg, the attributes, the policy, and
-- the size of the data
unfoldable pub nv_public_text : NvPublic → List ℕ
nv_public_text p =
    nv_index_text p.nv_index ++ to_be_bytes w16 (hash_number p.name_alg)
    ++ nv_attributes_text p.attributes ++ sized_text p.auth_policy ++ to_be_bytes w16 p.data_size

-- The handle of an index fits in four bytes, and its most significant byte is 01.
pub record IsNvIndex (handle : Handle) : Type 0 where
  pub fits : handle.number < 2 ^ 32
  pub named : is_nv_index handle ≡ true

-- The public area of an index can be encoded if each of its fields is valid.
pub record IsNvPublic (p : NvPublic) : Type 0 where
  pub nv_index : IsNvIndex p.nv_index
  pub attributes : IsNvAttributes p.attributes
  pub auth_policy : length p.auth_policy ≤ 32
  pub data_size : p.data_size < 2 ^ 16

-- whether the handle is that of an index, and no reserved bit of the attributes is set. The types of
-- the other fields bound them, so that the public area can then be encoded
abbrev pub is_nv_public : NvPublic → Bool
is_nv_public p = is_nv_index p.nv_index && bit_and p.attributes.bits reserved_bits == 0

-- the public area at the start of the bytes, and the remaining bytes
unfoldable pub nv_public_at : List ℕ → Result (NvPublic × List ℕ) Rc
nv_public_at text = do
  nv_index ← nv_index_at text
  name_alg ← hash_at nv_index.1
  attributes ← nv_attributes_at name_alg.1
  auth_policy ← buffer_at 32 attributes.1
  data_size ← or_fault (number_at w16 auth_policy.1) (plain code.Insufficient)
  Ok (
    record {
      nv_index = nv_index.0;
      name_alg = name_alg.0;
      attributes = attributes.0;
      auth_policy = auth_policy.0;
      data_size = data_size.0;
    },
    data_size.1,
  )
