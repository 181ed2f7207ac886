-- The digest of an HMAC state is the HMAC of the message that the state absorbed.
use Rattle.std.proofs.Common.{◌≡◌, List, ℕ, ◌++◌, ap, ◌∙◌}
use Rattle.tpm_mac.specs.Digest.{hash_of}
use Rattle.tpm_mac.specs.Hmac.{hmac_of, masked_key, padded_key}
use Rattle.tpm_hash_state.proofs.Absorbing.{absorbs_in_parts, digest_is_hash}
use Rattle.tpm_hash_state.specs.Hmac.{hmac_digest, hmac_state}
use Rattle.tpm_hash_state.specs.Meaning.{HmacAbsorbsInParts, HmacIsHmac}
use Rattle.tpm_hash_state.specs.State.{empty_state, state_after_bytes, state_digest}
use Rattle.tpm_hash_state.specs.declared.state.HashState.{HashState}
use Rattle.tpm_mac.specs.declared.algorithm.HashAlg.{HashAlg}

-- the digest after two parts is the hash of their concatenation
two_parts : (alg : HashAlg) (first second : List ℕ)
    → state_digest (state_after_bytes (state_after_bytes (empty_state alg) first) second)
    ≡ hash_of alg (first ++ second)
two_parts alg first second =
    ap state_digest (absorbs_in_parts (empty_state alg) first second)
    ∙ digest_is_hash alg (first ++ second)

pub hmac_is_hmac : HmacIsHmac
unfolding hmac_digest hmac_of hmac_state
hmac_is_hmac alg key text =
    let inner = masked_key 0x36 (padded_key alg key) in
    let outer = masked_key 0x5c (padded_key alg key) in
    ap (λ (d : List ℕ). state_digest
    (state_after_bytes (state_after_bytes (empty_state alg) outer) d))
    (two_parts alg inner text)
    ∙ two_parts alg outer (hash_of alg (inner ++ text))

pub hmac_absorbs_in_parts : HmacAbsorbsInParts
hmac_absorbs_in_parts state first second =
    ap (λ (inner : HashState). record state { inner = inner })
    (absorbs_in_parts state.inner first second)
