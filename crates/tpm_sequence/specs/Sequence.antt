-- Sequences. TPM 2.0 Library, Part 1, section 32, and Part 3, section 17. The data of a sequence
-- are a list of bytes.
use Rattle.std.specs.Prelude.{ℕ, List, [], ◌∷◌}
use Rattle.tpm_mac.specs.declared.algorithm.HashAlg.{HashAlg}
use Rattle.tpm_mac.specs.declared.algorithm.HashAlg.TheVariants as alg
use Rattle.tpm_hash_state.specs.Hmac.{hmac_absorbed, hmac_digest, hmac_state}
use Rattle.tpm_hash_state.specs.State.{empty_state, state_after_bytes, state_digest}
use Rattle.tpm_sequence.specs.Authorization.{padded}
use Rattle.tpm_sequence.specs.Beginning.{beginning_after}
use Rattle.tpm_sequence.specs.declared.beginning.Beginning.TheVariants.{Empty}
use Rattle.tpm_sequence.specs.declared.object.SequenceObject.{SequenceObject}
use Rattle.tpm_sequence.specs.declared.sequence.Sequence as declared
use Rattle.tpm_sequence.specs.declared.sequence.Sequence.TheVariants.{Event, Hash, Hmac}

-- a hash sequence without data
abbrev pub hash_sequence : HashAlg → declared.Sequence
hash_sequence hash = Hash (empty_state hash) Empty

-- an event sequence without data
abbrev pub event_sequence : declared.Sequence
event_sequence = Event (empty_state alg.Sha1) (empty_state alg.Sha256)

-- an HMAC sequence without data
abbrev pub hmac_sequence : HashAlg → (key : List ℕ) → declared.Sequence
hmac_sequence hash key = Hmac (hmac_state hash key)

-- the sequence after these bytes were appended to its data
abbrev pub sequence_updated : declared.Sequence → List ℕ → declared.Sequence
sequence_updated (Hash state beginning) bytes =
    Hash (state_after_bytes state bytes) (beginning_after beginning bytes)
sequence_updated (Event sha1 sha256) bytes =
    Event (state_after_bytes sha1 bytes) (state_after_bytes sha256 bytes)
sequence_updated (Hmac state) bytes = Hmac (hmac_absorbed state bytes)

-- the sequence after these parts were appended to its data, one after another
unfoldable pub updates : declared.Sequence → List (List ℕ) → declared.Sequence
updates sequence [] = sequence
updates sequence (part ∷ parts) = updates (sequence_updated sequence part) parts

-- the digests of the data: the digest of a hash sequence, the SHA-1 and SHA-256 digests of an event
-- sequence, or the HMAC of an HMAC sequence
abbrev pub sequence_digests : declared.Sequence → List (List ℕ)
sequence_digests (Hash state beginning) = state_digest state ∷ []
sequence_digests (Event sha1 sha256) = state_digest sha1 ∷ state_digest sha256 ∷ []
sequence_digests (Hmac state) = hmac_digest state ∷ []

-- the object with this authorization value and this sequence
abbrev pub object_of : (auth : List ℕ) → declared.Sequence → SequenceObject
object_of auth sequence = record { auth = padded auth; sequence = sequence }

-- the object after these bytes were appended to the data of its sequence
abbrev pub object_updated : SequenceObject → List ℕ → SequenceObject
object_updated object bytes =
    record object { sequence = sequence_updated object.sequence bytes }
