-- The digests of a sequence are the digests of all its data, no matter how the data were divided
-- into parts. A password authorizes a sequence object exactly when it is the authorization value.
use Rattle.std.specs.Prelude.{◌≡◌, ◌≤◌, ℕ, Bool, List, [], ◌∷◌, length, nat_eq}
use Rattle.std.specs.List.{flat_map, starts_with}
use Rattle.std.specs.Str.{bytes_eq}
use Rattle.tpm_mac.specs.Digest.{hash_of}
use Rattle.tpm_mac.specs.Hmac.{hmac_of}
use Rattle.tpm_mac.specs.declared.algorithm.HashAlg.{HashAlg}
use Rattle.tpm_mac.specs.declared.algorithm.HashAlg.TheVariants as alg
use Rattle.tpm_hash_state.specs.State.{empty_state, state_after_bytes}
use Rattle.tpm_types_common.specs.AuthValue.{trimmed}
use Rattle.tpm_sequence.specs.Authorization.{is_authorized}
use Rattle.tpm_sequence.specs.Beginning.{beginning_after, is_generated}
use Rattle.tpm_sequence.specs.Sequence.{event_sequence, hash_sequence, hmac_sequence, object_of, sequence_digests, sequence_updated, updates}
use Rattle.tpm_sequence.specs.declared.beginning.Beginning.TheVariants.{Empty}
use Rattle.tpm_sequence.specs.declared.sequence.Sequence as declared
use Rattle.tpm_sequence.specs.declared.sequence.Sequence.TheVariants.{Hash}

-- the parts of the data, concatenated
abbrev pub joined_parts : List (List ℕ) → List ℕ
joined_parts parts = flat_map (λ part. part) parts

-- whether a message begins with TPM_GENERATED_VALUE
abbrev pub begins_generated : List ℕ → Bool
begins_generated message = starts_with nat_eq message (0xff ∷ 0x54 ∷ 0x43 ∷ 0x47 ∷ [])

-- ---- the laws

-- A beginning is `Generated` exactly when the message begins with TPM_GENERATED_VALUE.
abbrev pub RecordsGenerated : Type 0
RecordsGenerated = (message : List ℕ)
    → is_generated (beginning_after Empty message) ≡ begins_generated message

-- Updating a sequence with several parts is the same as updating it with their concatenation.
abbrev pub UpdatesInParts : Type 0
UpdatesInParts = (sequence : declared.Sequence) (parts : List (List ℕ))
    → updates sequence parts ≡ sequence_updated sequence (joined_parts parts)

-- The digest of a hash sequence is the hash of its data.
abbrev pub HashSequenceIsHash : Type 0
HashSequenceIsHash = (hash : HashAlg) (parts : List (List ℕ))
    → sequence_digests (updates (hash_sequence hash) parts) ≡ hash_of hash (joined_parts parts) ∷ []

-- A hash sequence contains the state of its hash after all its data, and records how the data
-- begin.
abbrev pub HashSequenceRecordsBeginning : Type 0
HashSequenceRecordsBeginning = (hash : HashAlg) (parts : List (List ℕ))
    → updates (hash_sequence hash) parts
    ≡ Hash (state_after_bytes (empty_state hash) (joined_parts parts))
    (beginning_after Empty (joined_parts parts))

-- The digests of an event sequence are the SHA-1 and SHA-256 hashes of its data.
abbrev pub EventSequenceIsHashes : Type 0
EventSequenceIsHashes = (parts : List (List ℕ))
    → sequence_digests (updates event_sequence parts)
    ≡ hash_of alg.Sha1 (joined_parts parts) ∷ hash_of alg.Sha256 (joined_parts parts) ∷ []

-- The digest of an HMAC sequence is the HMAC of its data.
abbrev pub HmacSequenceIsHmac : Type 0
HmacSequenceIsHmac = (hash : HashAlg) (key : List ℕ) (parts : List (List ℕ))
    → sequence_digests (updates (hmac_sequence hash key) parts)
    ≡ hmac_of hash key (joined_parts parts) ∷ []

-- A password authorizes an object exactly when the password and the authorization value are equal,
-- ignoring trailing zeros.
abbrev pub AuthorizesByValue : Type 0
AuthorizesByValue = (auth password : List ℕ) (sequence : declared.Sequence)
    → length (trimmed auth) ≤ 32
    → is_authorized (object_of auth sequence) password ≡ bytes_eq (trimmed password) (trimmed auth)
