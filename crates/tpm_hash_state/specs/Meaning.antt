-- The digest of a state is the hash of all bytes that the state absorbed, no matter how they were
-- divided into parts.
use Rattle.std.specs.Prelude.{◌≡◌, ◌++◌, ℕ, List}
use Rattle.tpm_mac.specs.Digest.{hash_of}
use Rattle.tpm_mac.specs.Hmac.{hmac_of}
use Rattle.tpm_mac.specs.declared.algorithm.HashAlg.{HashAlg}
use Rattle.tpm_hash_state.specs.Hmac.{hmac_absorbed, hmac_digest, hmac_state}
use Rattle.tpm_hash_state.specs.State.{empty_state, state_after_bytes, state_digest}
use Rattle.tpm_hash_state.specs.declared.hmac.HmacState.{HmacState}
use Rattle.tpm_hash_state.specs.declared.state.HashState.{HashState}

-- The digest after absorbing a message is the hash of the message.
abbrev pub DigestIsHash : Type 0
DigestIsHash = (alg : HashAlg) (message : List ℕ)
    → state_digest (state_after_bytes (empty_state alg) message) ≡ hash_of alg message

-- Absorbing two parts one after the other is the same as absorbing their concatenation.
abbrev pub AbsorbsInParts : Type 0
AbsorbsInParts = (state : HashState) (first second : List ℕ)
    → state_after_bytes (state_after_bytes state first) second
    ≡ state_after_bytes state (first ++ second)

-- The digest of an HMAC state after absorbing a text is the HMAC of the text.
abbrev pub HmacIsHmac : Type 0
HmacIsHmac = (alg : HashAlg) (key text : List ℕ)
    → hmac_digest (hmac_absorbed (hmac_state alg key) text) ≡ hmac_of alg key text

-- Absorbing two parts into an HMAC state is the same as absorbing their concatenation.
abbrev pub HmacAbsorbsInParts : Type 0
HmacAbsorbsInParts = (state : HmacState) (first second : List ℕ)
    → hmac_absorbed (hmac_absorbed state first) second ≡ hmac_absorbed state (first ++ second)
