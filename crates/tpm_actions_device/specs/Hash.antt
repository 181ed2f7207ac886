-- TPM2_Hash. TPM 2.0 Library, Part 3, section 15.4, and Part 2, sections 6.2 (TPM_GENERATED_VALUE),
-- 9.13 (TPMI_RH_HIERARCHY) and 10.7.6 (TPMT_TK_HASHCHECK).
use Rattle.std.specs.Prelude.{ℕ, nat_eq, Bool, List, [], ◌∷◌, ◌++◌, if◌then◌else◌, Result, Ok, ok_or}
use Rattle.std.specs.Int.{w16, w32, to_be_bytes}
use Rattle.std.specs.List.{starts_with}
use Rattle.tpm_bytes.specs.Reading.{◌>>=◌, number_at, or_fault}
use Rattle.tpm_bytes.specs.Writing.{sized_text}
use Rattle.tpm_mac.specs.Digest.{hash_of}
use Rattle.tpm_mac.specs.Hmac.{hmac_of}
use Rattle.tpm_mac.specs.declared.algorithm.HashAlg.{HashAlg}
use Rattle.tpm_mac.specs.declared.algorithm.HashAlg.TheVariants.{Sha256}
use Rattle.tpm_types_common.specs.Algorithm.{hash_at}
use Rattle.tpm_types_common.specs.Buffer.{buffer_at}
use Rattle.tpm_types_common.specs.Handle.{hierarchy_handle, hierarchy_of, numbered_handle}
use Rattle.tpm_types_common.specs.Limits.{data_limit}
use Rattle.tpm_types_common.specs.Rc.{plain}
use Rattle.tpm_types_common.specs.declared.handle.HierarchyHandle.{HierarchyHandle}
use Rattle.tpm_types_common.specs.declared.handle.HierarchyHandle.TheVariants as hierarchy
use Rattle.tpm_types_common.specs.declared.rc.Rc.{Rc}
use Rattle.tpm_types_common.specs.declared.rc.ResponseCode.TheVariants as code
use Rattle.tpm_types_common.specs.declared.refused.Refused.{Refused}
use Rattle.tpm_record.specs.Hierarchy.{secrets_of}
use Rattle.tpm_record.specs.Record.{Record}
use Rattle.tpm_record.specs.rows.Answer.{AnswerParts, SizedFirst, answer_of}
use Rattle.tpm_record.specs.rows.Request.{Request}
use Rattle.tpm_record.specs.rows.Rows.{Success, all_read, parameter, unchanged_success}

-- the hierarchy whose handle is at the start of the bytes, and the remaining bytes
unfoldable pub hierarchy_at : List ℕ → Result (HierarchyHandle × List ℕ) Rc
hierarchy_at text = do
  number ← or_fault (number_at w32 text) (plain code.Insufficient)
  named ← ok_or (hierarchy_of (numbered_handle number.0)) (plain code.Value)
  Ok (named, number.1)

-- the parameters of TPM2_Hash: data, hashAlg, hierarchy
pub record HashParameters : Type 0 where
  pub message : List ℕ
  pub hash : HashAlg
  pub asked : HierarchyHandle

unfoldable pub hash_parameters_in : List ℕ → Result HashParameters Refused
hash_parameters_in text = do
  message ← parameter 1 (buffer_at data_limit text)
  hash ← parameter 2 (hash_at message.1)
  asked ← parameter 3 (hierarchy_at hash.1)
  ended ← all_read asked.1
  Ok (record { message = message.0; hash = hash.0; asked = asked.0 })

-- ---- the ticket

-- whether the data begin with TPM_GENERATED_VALUE, like an attestation structure of a TPM
abbrev pub is_generated : (message : List ℕ) → Bool
is_generated message = starts_with nat_eq message (0xff ∷ 0x54 ∷ 0x43 ∷ 0x47 ∷ [])

-- the hierarchy of the ticket: the requested hierarchy, or TPM_RH_NULL if a restricted key may not
-- sign the digest of these data
abbrev pub ticket_hierarchy : HierarchyHandle → (message : List ℕ) → HierarchyHandle
ticket_hierarchy asked message = if is_generated message then hierarchy.Null else asked

-- the tag of the ticket: TPM_ST_HASHCHECK
abbrev pub hash_check_tag : List ℕ
hash_check_tag = to_be_bytes w16 0x8024

-- the digest of the ticket: empty for TPM_RH_NULL. For another hierarchy, it is an HMAC of the tag
-- and the digest of the data, with the hierarchy's proof as the key. The standard does not fix the
-- HMAC's hash; this device uses SHA-256.
abbrev pub ticket_digest : HierarchyHandle → (proof digest : List ℕ) → List ℕ
ticket_digest hierarchy.Null proof digest = []
ticket_digest _ proof digest = hmac_of Sha256 proof (hash_check_tag ++ digest)

unfoldable pub ticket_text : HierarchyHandle → (proof digest : List ℕ) → List ℕ
ticket_text which proof digest =
    hash_check_tag ++ to_be_bytes w32 (hierarchy_handle which).number
    ++ sized_text (ticket_digest which proof digest)

-- ---- the row

-- the answer: the digest of the data, and its ticket with this proof of the ticket's hierarchy
abbrev pub hash_answer : (proof : List ℕ) → HashParameters → AnswerParts
hash_answer proof p =
    answer_of (SizedFirst (hash_of p.hash p.message)
    (ticket_text (ticket_hierarchy p.asked p.message) proof (hash_of p.hash p.message)))

abbrev pub proof_for : Record → HashParameters → List ℕ
proof_for r p = (secrets_of r.fixed.hierarchies (ticket_hierarchy p.asked p.message)).proof

-- the row of TPM2_Hash. Parameters: data, hashAlg, hierarchy. Answer: outHash and validation
unfoldable pub hash_row : Record → Request → Result Success Refused
hash_row r q = do
  p ← hash_parameters_in q.parameters
  Ok (unchanged_success r (hash_answer (proof_for r p) p))
