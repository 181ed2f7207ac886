-- When a sequence completes, the answer depends only on all its data, however the client divided
-- the data into commands. TPM 2.0 Library, Part 3, sections 17.5 (TPM2_SequenceComplete) and 17.6
-- (TPM2_EventSequenceComplete).
use Rattle.std.specs.Prelude.{◌≡◌, ℕ, List, [], ◌∷◌, Some}
use Rattle.tpm_mac.specs.Digest.{hash_of}
use Rattle.tpm_mac.specs.Hmac.{hmac_of}
use Rattle.tpm_mac.specs.declared.algorithm.HashAlg.{HashAlg}
use Rattle.tpm_mac.specs.declared.algorithm.HashAlg.TheVariants as alg
use Rattle.tpm_record.specs.declared.hierarchy.Hierarchies.{Hierarchies}
use Rattle.tpm_sequence.specs.Meaning.{joined_parts}
use Rattle.tpm_sequence.specs.Sequence.{event_sequence, hash_sequence, hmac_sequence, updates}
use Rattle.tpm_types_common.specs.DigestValues.{digest_values_text}
use Rattle.tpm_types_common.specs.declared.digest_values.DigestValue.TheVariants.{Sha1, Sha256}
use Rattle.tpm_types_common.specs.declared.handle.HierarchyHandle.{HierarchyHandle}
use Rattle.tpm_types_common.specs.declared.handle.HierarchyHandle.TheVariants as kind
use Rattle.tpm_completion.specs.Hashing.{hash_text, ticketed_text}
use Rattle.tpm_completion.specs.Sending.{digests_text}
use Rattle.tpm_completion.specs.SequenceRows.{completion_text}

-- TPM2_SequenceComplete of a hash sequence gives the same answer as TPM2_Hash of all its data.
abbrev pub CompletesAsHash : Type 0
CompletesAsHash =
    (h : Hierarchies) (asked : HierarchyHandle) (hash : HashAlg) (parts : List (List ℕ))
    → completion_text h asked (updates (hash_sequence hash) parts)
    ≡ Some (hash_text h (joined_parts parts) hash asked)

-- TPM2_SequenceComplete of an HMAC sequence answers with the HMAC of all its data.
abbrev pub CompletesAsHmac : Type 0
CompletesAsHmac =
    (h : Hierarchies) (asked : HierarchyHandle) (hash : HashAlg) (key : List ℕ)
    (parts : List (List ℕ))
    → completion_text h asked (updates (hmac_sequence hash key) parts)
    ≡ Some (ticketed_text h kind.Null (hmac_of hash key (joined_parts parts)))

-- The digests that TPM2_EventSequenceComplete sends and returns are the SHA-1 and SHA-256 digests
-- of all data of the event sequence.
abbrev pub CompletesAsEvent : Type 0
CompletesAsEvent =
    (parts : List (List ℕ))
    → digests_text (updates event_sequence parts)
    ≡ Some (digest_values_text
    (Sha1 (hash_of alg.Sha1 (joined_parts parts))
    ∷ Sha256 (hash_of alg.Sha256 (joined_parts parts)) ∷ []))
