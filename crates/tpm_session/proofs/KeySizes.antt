-- The hash algorithm and the binding of a new session determine how long its key is.
use Rattle.std.proofs.Common.{◌≡◌, ℕ, refl, List, [], ◌++◌, length, take, Option, Some, None, append-nil, arith}
use Rattle.std.proofs.lemmas.List.{length-take}
use Rattle.tpm_mac.specs.Digest.{digest_size}
use Rattle.tpm_mac.specs.Hmac.{hmac_of}
use Rattle.tpm_mac.specs.Kdf.{kdfa_of}
use Rattle.tpm_mac.specs.declared.algorithm.HashAlg.{HashAlg}
use Rattle.tpm_mac.specs.declared.algorithm.HashAlg.TheVariants.{Sha1, Sha256}
use Rattle.tpm_mac.proofs.DigestSize.{length-hmac_of}
use Rattle.tpm_session.specs.Key.{key_size, session_key}
use Rattle.tpm_session.specs.declared.session.Binding.{Binding}

front : (n : ℕ) (block : List ℕ) → length block ≡ n → length (take n (block ++ [])) ≡ n
front n block is = rw append-nil (omega (arith, is, length-take n block))

-- a session key that KDFa derives is as long as a digest, since KDFa derives it from a single block
derived : (hash : HashAlg) (key label context_u context_v : List ℕ)
    → length (kdfa_of hash key label context_u context_v (digest_size hash)) ≡ digest_size hash
unfolding kdfa_of
derived Sha1 key label context_u context_v =
    front 20 (hmac_of Sha1 key _) (length-hmac_of Sha1 key _)
derived Sha256 key label context_u context_v =
    front 32 (hmac_of Sha256 key _) (length-hmac_of Sha256 key _)

pub key_sized : (hash : HashAlg) (binding : Option Binding) (nonce_tpm nonce_caller : List ℕ)
    → length (session_key hash binding nonce_tpm nonce_caller) ≡ key_size hash binding
unfolding session_key
key_sized hash None nonce_tpm nonce_caller = refl
key_sized hash (Some binding) nonce_tpm nonce_caller =
    derived hash binding.auth_value _ nonce_tpm nonce_caller
