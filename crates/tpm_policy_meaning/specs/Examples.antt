-- Examples of policies with their digests. TPM 2.0 Library, Part 1, section 19.7. The TCG EK
-- Credential Profile for TPM Family 2.0 prints the digest of TPM2_PolicySecret with the endorsement
-- hierarchy, as the authPolicy of its templates (PolicyA_SHA256). Many programs use the digest of
-- TPM2_PolicyAuthValue on its own. From the bytes that are hashed, Python's hashlib computes the
-- same digests.
use Rattle.std.specs.Prelude.{◌≡◌, ℕ, List, [], ◌∷◌}
use Rattle.tpm_mac.specs.declared.algorithm.HashAlg.TheVariants as alg
use Rattle.tpm_types_common.specs.declared.operation.Operation.TheVariants as operation
use Rattle.tpm_policy_meaning.specs.Expression.{PolicyExpression, Nothing, Then, PolicyOr, NoBranch}
use Rattle.tpm_policy_meaning.specs.Expression.{Branch}
use Rattle.tpm_policy_meaning.specs.Expression.{PolicyPcr, PolicyAuthValue, PolicyCommandCode}
use Rattle.tpm_policy_meaning.specs.Expression.{PolicySecret, PolicyNv}
use Rattle.tpm_policy_meaning.specs.PolicyDigest.{policy_digest}

-- the policy that consists only of TPM2_PolicyAuthValue
abbrev pub by_value : PolicyExpression
by_value = Then Nothing PolicyAuthValue

-- the SHA-256 digest of the policy `by_value`
abbrev pub by_value_digest : List ℕ
by_value_digest =
    0x8f ∷ 0xcd ∷ 0x21 ∷ 0x69 ∷ 0xab ∷ 0x92 ∷ 0x69 ∷ 0x4e
    ∷ 0x0c ∷ 0x63 ∷ 0x3f ∷ 0x1a ∷ 0xb7 ∷ 0x72 ∷ 0x84 ∷ 0x2b
    ∷ 0x82 ∷ 0x41 ∷ 0xbb ∷ 0xc2 ∷ 0x02 ∷ 0x88 ∷ 0x98 ∷ 0x1f
    ∷ 0xc7 ∷ 0xac ∷ 0x1e ∷ 0xdd ∷ 0xc1 ∷ 0xfd ∷ 0xdb ∷ 0x0e ∷ []

-- the policy that consists only of TPM2_PolicySecret for the endorsement hierarchy, 4000000B, with
-- an empty policyRef
abbrev pub by_endorsement : PolicyExpression
by_endorsement = Then Nothing (PolicySecret (0x40 ∷ 0x00 ∷ 0x00 ∷ 0x0b ∷ []) [])

-- the SHA-256 digest of the policy `by_endorsement`
abbrev pub by_endorsement_digest : List ℕ
by_endorsement_digest =
    0x83 ∷ 0x71 ∷ 0x97 ∷ 0x67 ∷ 0x44 ∷ 0x84 ∷ 0xb3 ∷ 0xf8
    ∷ 0x1a ∷ 0x90 ∷ 0xcc ∷ 0x8d ∷ 0x46 ∷ 0xa5 ∷ 0xd7 ∷ 0x24
    ∷ 0xfd ∷ 0x52 ∷ 0xd7 ∷ 0x6e ∷ 0x06 ∷ 0x52 ∷ 0x0b ∷ 0x64
    ∷ 0xf2 ∷ 0xa1 ∷ 0xda ∷ 0x1b ∷ 0x33 ∷ 0x14 ∷ 0x69 ∷ 0xaa ∷ []

-- the SHA-1 digest of the policy that allows only TPM2_Unseal, command code 15E
abbrev pub unsealing_digest : List ℕ
unsealing_digest =
    0x4e ∷ 0xbd ∷ 0x9e ∷ 0x4f ∷ 0x77 ∷ 0x9e ∷ 0x20 ∷ 0x23
    ∷ 0x80 ∷ 0x60 ∷ 0xdf ∷ 0x3d ∷ 0x7f ∷ 0xb5 ∷ 0xc5 ∷ 0x01
    ∷ 0xec ∷ 0xca ∷ 0x28 ∷ 0xc9 ∷ []

-- the hash of 64 zeros: the digest of two PCRs that are all zeros
abbrev pub two_zero_pcrs : List ℕ
two_zero_pcrs =
    0xf5 ∷ 0xa5 ∷ 0xfd ∷ 0x42 ∷ 0xd1 ∷ 0x6a ∷ 0x20 ∷ 0x30
    ∷ 0x27 ∷ 0x98 ∷ 0xef ∷ 0x6e ∷ 0xd3 ∷ 0x09 ∷ 0x97 ∷ 0x9b
    ∷ 0x43 ∷ 0x00 ∷ 0x3d ∷ 0x23 ∷ 0x20 ∷ 0xd9 ∷ 0xf0 ∷ 0xe8
    ∷ 0xea ∷ 0x98 ∷ 0x31 ∷ 0xa9 ∷ 0x27 ∷ 0x59 ∷ 0xfb ∷ 0x4b ∷ []

-- the policy that requires PCRs 7 and 11 of the SHA-256 bank to be zeros, and also requires the
-- authorization value
abbrev pub by_pcrs_and_value : PolicyExpression
by_pcrs_and_value =
    let selection = record { hash = alg.Sha256; select = 0x000880 } ∷ [] in
    Then (Then Nothing (PolicyPcr selection two_zero_pcrs)) PolicyAuthValue

-- the SHA-256 digest of the policy `by_pcrs_and_value`
abbrev pub by_pcrs_and_value_digest : List ℕ
by_pcrs_and_value_digest =
    0x9f ∷ 0xa6 ∷ 0xa4 ∷ 0x5b ∷ 0xed ∷ 0x87 ∷ 0xac ∷ 0x1a
    ∷ 0x2a ∷ 0x81 ∷ 0xf2 ∷ 0xbd ∷ 0xbc ∷ 0x75 ∷ 0x1b ∷ 0x3b
    ∷ 0x35 ∷ 0x06 ∷ 0xb1 ∷ 0x17 ∷ 0xee ∷ 0x0a ∷ 0xd5 ∷ 0x52
    ∷ 0xd9 ∷ 0x61 ∷ 0xf4 ∷ 0x69 ∷ 0xb4 ∷ 0xb7 ∷ 0x97 ∷ 0x1c ∷ []

-- the policy that a session satisfies if it satisfies `by_pcrs_and_value` or `by_endorsement`: a
-- TPM2_PolicyOR with these two branches
abbrev pub by_either : PolicyExpression
by_either = PolicyOr (Branch by_pcrs_and_value (Branch by_endorsement NoBranch))

-- the SHA-256 digest of the policy `by_either`
abbrev pub by_either_digest : List ℕ
by_either_digest =
    0xdf ∷ 0x56 ∷ 0x2f ∷ 0xc0 ∷ 0xb9 ∷ 0x79 ∷ 0xaf ∷ 0x13
    ∷ 0x7d ∷ 0xda ∷ 0x5e ∷ 0xbe ∷ 0xbe ∷ 0x44 ∷ 0x3a ∷ 0xa4
    ∷ 0x43 ∷ 0x61 ∷ 0x42 ∷ 0xe1 ∷ 0x65 ∷ 0xcf ∷ 0xdf ∷ 0x51
    ∷ 0x45 ∷ 0x82 ∷ 0xb0 ∷ 0x5f ∷ 0x8b ∷ 0xb9 ∷ 0x22 ∷ 0xd9 ∷ []

-- the Name of an NV index
abbrev pub index_name : List ℕ
index_name =
    0x00 ∷ 0x0b ∷ 0x00 ∷ 0x01 ∷ 0x02 ∷ 0x03 ∷ 0x04 ∷ 0x05
    ∷ 0x06 ∷ 0x07 ∷ 0x08 ∷ 0x09 ∷ 0x0a ∷ 0x0b ∷ 0x0c ∷ 0x0d
    ∷ 0x0e ∷ 0x0f ∷ 0x10 ∷ 0x11 ∷ 0x12 ∷ 0x13 ∷ 0x14 ∷ 0x15
    ∷ 0x16 ∷ 0x17 ∷ 0x18 ∷ 0x19 ∷ 0x1a ∷ 0x1b ∷ 0x1c ∷ 0x1d
    ∷ 0x1e ∷ 0x1f ∷ []

-- the policy that requires the first eight bytes of the index with the Name `index_name`, as an
-- unsigned number, to be at least 5
abbrev pub by_count : PolicyExpression
by_count =
    let operand = 0 ∷ 0 ∷ 0 ∷ 0 ∷ 0 ∷ 0 ∷ 0 ∷ 5 ∷ [] in
    Then Nothing (PolicyNv index_name operand 0 operation.UnsignedGreaterOrEqual)

-- the SHA-256 digest of the policy `by_count`
abbrev pub by_count_digest : List ℕ
by_count_digest =
    0x51 ∷ 0xeb ∷ 0x53 ∷ 0xde ∷ 0x30 ∷ 0x95 ∷ 0x67 ∷ 0xdc
    ∷ 0x89 ∷ 0x86 ∷ 0x1c ∷ 0xfa ∷ 0x2b ∷ 0xb2 ∷ 0x70 ∷ 0xa4
    ∷ 0xc8 ∷ 0xa4 ∷ 0x19 ∷ 0x7b ∷ 0x79 ∷ 0xc1 ∷ 0x64 ∷ 0x9e
    ∷ 0x75 ∷ 0x73 ∷ 0x9e ∷ 0xe2 ∷ 0x8c ∷ 0x3d ∷ 0x12 ∷ 0x15 ∷ []

-- The digest of each example policy is the digest that is defined above for it.
pub record ComputesDigests : Type 0 where
  pub by_value : policy_digest alg.Sha256 by_value ≡ by_value_digest
  pub by_endorsement : policy_digest alg.Sha256 by_endorsement ≡ by_endorsement_digest
  pub unsealing : policy_digest alg.Sha1 (Then Nothing (PolicyCommandCode 0x15e)) ≡ unsealing_digest
  pub by_pcrs_and_value : policy_digest alg.Sha256 by_pcrs_and_value ≡ by_pcrs_and_value_digest
  pub by_either : policy_digest alg.Sha256 by_either ≡ by_either_digest
  pub by_count : policy_digest alg.Sha256 by_count ≡ by_count_digest
