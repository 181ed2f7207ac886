-- The digests of a sequence are the digests of all its data.
use Rattle.std.proofs.Common.{◌≡◌, ℕ, List, [], ◌∷◌, ◌++◌, refl, sym, ap, ap₂, ◌∙◌}
use Rattle.tpm_hash_state.proofs.Absorbing.{absorbs_in_parts, digest_is_hash}
use Rattle.tpm_hash_state.proofs.HmacLaws.{hmac_absorbs_in_parts, hmac_is_hmac}
use Rattle.tpm_hash_state.specs.State.{state_after_bytes}
use Rattle.tpm_mac.specs.declared.algorithm.HashAlg.TheVariants as alg
use Rattle.tpm_sequence.proofs.BeginningLaws.{beginning_in_parts}
use Rattle.tpm_sequence.specs.Beginning.{beginning_after}
use Rattle.tpm_sequence.specs.Meaning.{EventSequenceIsHashes, HashSequenceIsHash, HashSequenceRecordsBeginning, HmacSequenceIsHmac, UpdatesInParts, joined_parts}
use Rattle.tpm_sequence.specs.Sequence.{event_sequence, hash_sequence, hmac_sequence, sequence_digests, sequence_updated, updates}
use Rattle.tpm_sequence.specs.declared.sequence.Sequence as declared
use Rattle.tpm_sequence.specs.declared.sequence.Sequence.TheVariants.{Event, Hash, Hmac}

-- updating a sequence with the empty list of bytes changes nothing
updated_none : (sequence : declared.Sequence) → sequence_updated sequence [] ≡ sequence
unfolding state_after_bytes beginning_after
updated_none (Hash state beginning) = refl
updated_none (Event sha1 sha256) = refl
updated_none (Hmac state) = refl

-- updating a sequence with two parts is the same as updating it with their concatenation
pub updated_in_parts : (sequence : declared.Sequence) (first second : List ℕ)
    → sequence_updated (sequence_updated sequence first) second
    ≡ sequence_updated sequence (first ++ second)
updated_in_parts (Hash state beginning) first second =
    ap₂ Hash (absorbs_in_parts state first second) (beginning_in_parts beginning first second)
updated_in_parts (Event sha1 sha256) first second =
    ap₂ Event (absorbs_in_parts sha1 first second) (absorbs_in_parts sha256 first second)
updated_in_parts (Hmac state) first second = ap Hmac (hmac_absorbs_in_parts state first second)

pub updates_in_parts : UpdatesInParts
unfolding updates
updates_in_parts sequence [] = sym (updated_none sequence)
updates_in_parts sequence (part ∷ parts) =
    updates_in_parts (sequence_updated sequence part) parts
    ∙ updated_in_parts sequence part (joined_parts parts)

pub hash_sequence_records_beginning : HashSequenceRecordsBeginning
hash_sequence_records_beginning hash parts = updates_in_parts (hash_sequence hash) parts

pub hash_sequence_is_hash : HashSequenceIsHash
hash_sequence_is_hash hash parts =
    ap sequence_digests (updates_in_parts (hash_sequence hash) parts)
    ∙ ap (λ (d : List ℕ). d ∷ []) (digest_is_hash hash (joined_parts parts))

pub event_sequence_is_hashes : EventSequenceIsHashes
event_sequence_is_hashes parts =
    ap sequence_digests (updates_in_parts event_sequence parts)
    ∙ ap₂ (λ (d e : List ℕ). d ∷ e ∷ []) (digest_is_hash alg.Sha1 (joined_parts parts))
    (digest_is_hash alg.Sha256 (joined_parts parts))

pub hmac_sequence_is_hmac : HmacSequenceIsHmac
hmac_sequence_is_hmac hash key parts =
    ap sequence_digests (updates_in_parts (hmac_sequence hash key) parts)
    ∙ ap (λ (d : List ℕ). d ∷ []) (hmac_is_hmac hash key (joined_parts parts))
