-- TPM2_Hash. TPM 2.0 Library, Part 3, section 15.4, and Part 2, sections 10.7.6
-- (TPMT_TK_HASHCHECK) and 6.2 (TPM_GENERATED_VALUE).
use Rattle.std.specs.Prelude.{ℕ, nat_eq, Bool, List, [], ◌∷◌, ◌++◌, if◌then◌else◌, Result, Ok, ok_or}
use Rattle.std.specs.Int.{w16, w32, to_be_bytes}
use Rattle.std.specs.List.{starts_with}
use Rattle.tpm_bytes.specs.Reading.{◌>>=◌, number_at, or_fault}
use Rattle.tpm_bytes.specs.Writing.{sized_text}
use Rattle.tpm_mac.specs.Digest.{hash_of}
use Rattle.tpm_mac.specs.Hmac.{hmac_of}
use Rattle.tpm_mac.specs.declared.algorithm.HashAlg.{HashAlg}
use Rattle.tpm_mac.specs.declared.algorithm.HashAlg.TheVariants.{Sha256}
use Rattle.tpm_types_common.specs.Algorithm.{hash_at}
use Rattle.tpm_types_common.specs.Buffer.{buffer_at}
use Rattle.tpm_types_common.specs.Handle.{hierarchy_handle, hierarchy_of, numbered_handle}
use Rattle.tpm_types_common.specs.Limits.{data_limit}
use Rattle.tpm_types_common.specs.Rc.{plain}
use Rattle.tpm_types_common.specs.declared.handle.HierarchyHandle.{HierarchyHandle}
use Rattle.tpm_types_common.specs.declared.handle.HierarchyHandle.TheVariants as kind
use Rattle.tpm_types_common.specs.declared.rc.Rc.{Rc}
use Rattle.tpm_types_common.specs.declared.rc.ResponseCode.TheVariants as code
use Rattle.tpm_types_common.specs.declared.refused.Refused.{Refused}
use Rattle.tpm_record.specs.Hierarchy.{secrets_of}
use Rattle.tpm_record.specs.declared.hierarchy.Hierarchies.{Hierarchies}
use Rattle.tpm_record.specs.rows.Rows.{all_read, parameter}

-- the hierarchy whose handle is at the beginning of the bytes, and the remaining bytes
unfoldable pub hierarchy_at : List ℕ → Result (HierarchyHandle × List ℕ) Rc
hierarchy_at text = do
  number ← or_fault (number_at w32 text) (plain code.Insufficient)
  hierarchy ← ok_or (hierarchy_of (numbered_handle number.0)) (plain code.Value)
  Ok (hierarchy, number.1)

-- ---- the ticket

-- whether the data begin with TPM_GENERATED_VALUE, like an attestation structure of a TPM
abbrev pub is_generated : (message : List ℕ) → Bool
is_generated message = starts_with nat_eq message (0xff ∷ 0x54 ∷ 0x43 ∷ 0x47 ∷ [])

-- the hierarchy of the ticket: the requested hierarchy, or TPM_RH_NULL if a restricted key may not
-- sign the digest of these data
abbrev pub ticket_hierarchy : HierarchyHandle → (message : List ℕ) → HierarchyHandle
ticket_hierarchy asked message = if is_generated message then kind.Null else asked

-- the tag of the ticket: TPM_ST_HASHCHECK
abbrev pub hash_check_tag : List ℕ
hash_check_tag = to_be_bytes w16 0x8024

-- the digest of the ticket: empty for TPM_RH_NULL. For another hierarchy, it is an HMAC of the tag
-- and the digest of the data, with the hierarchy's proof as the key. The standard does not fix the
-- HMAC's hash; this device uses SHA-256.
abbrev pub ticket_digest : HierarchyHandle → (proof digest : List ℕ) → List ℕ
ticket_digest kind.Null proof digest = []
ticket_digest _ proof digest = hmac_of Sha256 proof (hash_check_tag ++ digest)

unfoldable pub ticket_text : HierarchyHandle → (proof digest : List ℕ) → List ℕ
ticket_text hierarchy proof digest =
    hash_check_tag ++ to_be_bytes w32 (hierarchy_handle hierarchy).number
    ++ sized_text (ticket_digest hierarchy proof digest)

-- ---- the answer

-- a digest, and its ticket for this hierarchy
unfoldable pub ticketed_text : Hierarchies → HierarchyHandle → (digest : List ℕ) → List ℕ
ticketed_text hierarchies chosen digest =
    sized_text digest ++ ticket_text chosen (secrets_of hierarchies chosen).proof digest

-- the digest of the data, and its ticket
abbrev pub hash_text : Hierarchies → (message : List ℕ) → HashAlg → HierarchyHandle → List ℕ
hash_text hierarchies message hash asked =
    ticketed_text hierarchies (ticket_hierarchy asked message) (hash_of hash message)

-- TPM2_Hash, whose parameters are data, hashAlg and hierarchy
unfoldable pub hash_row : Hierarchies → List ℕ → Result (List ℕ) Refused
hash_row hierarchies parameters = do
  message ← parameter 1 (buffer_at data_limit parameters)
  hash ← parameter 2 (hash_at message.1)
  asked ← parameter 3 (hierarchy_at hash.1)
  ended ← all_read asked.1
  Ok (hash_text hierarchies message.0 hash.0 asked.0)
