-- Nonces and session keys. TPM 2.0 Library, Part 1, sections 19.6.8 (sessionKey creation) and
-- 19.6.10 (bound sessions), and Part 3, section 11.1 (TPM2_StartAuthSession).
use Rattle.std.specs.Prelude.{ℕ, ◌&&◌, nat_le, Bool, List, [], ◌∷◌, Option, Some, None}
use Rattle.tpm_mac.specs.Digest.{digest_size}
use Rattle.tpm_mac.specs.Kdf.{kdfa_of}
use Rattle.tpm_mac.specs.declared.algorithm.HashAlg.{HashAlg}
use Rattle.tpm_session.specs.declared.session.Binding.{Binding}

-- whether a caller's first nonce has an allowed size: at least 16 bytes, and at most as long as a
-- digest
abbrev pub is_nonce_size : HashAlg → ℕ → Bool
is_nonce_size hash size = nat_le 16 size && nat_le size (digest_size hash)

-- the size of a session's key: the size of a digest if the session is bound, otherwise 0
abbrev pub key_size : HashAlg → Option Binding → ℕ
key_size hash None = 0
key_size hash (Some binding) = digest_size hash

-- KDFa's label for session keys: "ATH"
abbrev pub key_label : List ℕ
key_label = 0x41 ∷ 0x54 ∷ 0x48 ∷ []

-- the session key: KDFa(authHash, bind.authValue, "ATH", nonceTPM, nonceCaller, the size of a
-- digest in bits), or empty if the session is not bound
unfoldable pub session_key : HashAlg → Option Binding → (nonce_tpm nonce_caller : List ℕ) → List ℕ
session_key hash None nonce_tpm nonce_caller = []
session_key hash (Some binding) nonce_tpm nonce_caller =
    kdfa_of hash binding.auth_value key_label nonce_tpm nonce_caller (digest_size hash)
