-- The state of an HMAC computation in progress (FIPS 198-1, 4).
use Rattle.std.specs.Prelude.{ℕ, List}
use Rattle.tpm_mac.specs.Hmac.{masked_key, padded_key}
use Rattle.tpm_mac.specs.declared.algorithm.HashAlg.{HashAlg}
use Rattle.tpm_hash_state.specs.State.{empty_state, state_after_bytes, state_digest}
use Rattle.tpm_hash_state.specs.declared.hmac.HmacState.{HmacState}

-- the state with this key and the empty message: each of the two hashes has absorbed its masked key
-- (steps 4 and 7)
unfoldable pub hmac_state : HashAlg → (key : List ℕ) → HmacState
hmac_state alg key = record {
  inner = state_after_bytes (empty_state alg) (masked_key 0x36 (padded_key alg key));
  outer = state_after_bytes (empty_state alg) (masked_key 0x5c (padded_key alg key));
}

-- the state after these bytes of the message (step 5)
abbrev pub hmac_absorbed : HmacState → List ℕ → HmacState
hmac_absorbed state bytes = record state { inner = state_after_bytes state.inner bytes }

-- the HMAC: the outer hash of the digest of the inner hash (steps 6 to 9)
unfoldable pub hmac_digest : HmacState → List ℕ
hmac_digest state = state_digest (state_after_bytes state.outer (state_digest state.inner))
