-- Sessions. TPM 2.0 Library, Part 1, sections 19.6 and 19.7.
use Rattle.std.specs.Prelude.{◌≡◌, ℕ, ◌≤◌, ◌==◌, ◌&&◌, if◌then◌else◌, Bool, true, IfSome, List, length, Option, Some, None}
use Rattle.tpm_mac.specs.Digest.{digest_size}
use Rattle.tpm_mac.specs.declared.algorithm.HashAlg.{HashAlg}
use Rattle.tpm_policy.specs.State.{IsPolicy, Policy}
use Rattle.tpm_types_common.specs.AuthValue.{IsAuthValue}
use Rattle.tpm_types_common.specs.declared.session_type.SessionType.{SessionType}
use Rattle.tpm_types_common.specs.declared.symmetric.SymmetricDefinition.{SymmetricDefinition}
use Rattle.tpm_session.specs.Key.{is_nonce_size, key_size}
use Rattle.tpm_session.specs.declared.session.Binding.{Binding}

-- an authorization session
pub record Session : Type 0 where
  -- the session's type
  pub kind : SessionType
  pub hash : HashAlg
  pub symmetric : SymmetricDefinition
  -- the last nonce that the device sent: nonceTPM
  pub nonce_tpm : List ℕ
  pub key : List ℕ
  -- the entity to which the session is bound, or None for an unbound session
  pub binding : Option Binding
  -- the policy state after the assertions so far. In an HMAC session it never changes
  pub policy : Policy

-- a session with nonceTPM replaced
abbrev pub with_nonce : Session → List ℕ → Session
with_nonce session nonce = record session { nonce_tpm = nonce }

-- a session with its policy replaced
abbrev pub with_policy : Session → Policy → Session
with_policy session policy = record session { policy = policy }

-- whether nonceTPM, the key and the policy digest have sizes that a session with this hash
-- algorithm and binding allows. nonceTPM is as long as the caller's first nonce (section 19.6.3).
-- The key is as long as a digest, or empty if the session is not bound (section 19.6.8). The policy
-- digest is as long as a digest (section 19.7)
abbrev pub are_hash_sizes : HashAlg → Option Binding → (nonce_tpm key digest : List ℕ) → Bool
are_hash_sizes hash binding nonce_tpm key digest =
    is_nonce_size hash (length nonce_tpm)
    && length key == key_size hash binding
    && length digest == digest_size hash

-- whether the session's hash algorithm allows the sizes of its nonceTPM, key and policy digest
abbrev pub has_hash_sizes : Session → Bool
has_hash_sizes s = are_hash_sizes s.hash s.binding s.nonce_tpm s.key s.policy.digest

-- the session if its hash algorithm allows the sizes of its parts, otherwise None
abbrev pub if_hash_sized : Session → Option Session
if_hash_sized session = if has_hash_sizes session then Some session else None

-- The conditions that every binding satisfies: the Name is at most 34 bytes long, and the
-- authorization value fits its type (section 19.6.10).
pub record IsBinding (binding : Binding) : Type 0 where
  pub name : length binding.name ≤ 34
  pub auth_value : IsAuthValue binding.auth_value

-- The conditions that every session satisfies: its hash algorithm allows the sizes of nonceTPM, the
-- key and the policy digest; nonceTPM and the key are at most 32 bytes long; its binding satisfies
-- `IsBinding`, and its policy satisfies `IsPolicy`.
pub record IsSession (session : Session) : Type 0 where
  pub sizes : has_hash_sizes session ≡ true
  pub nonce_tpm : length session.nonce_tpm ≤ 32
  pub key : length session.key ≤ 32
  pub binding : IfSome session.binding IsBinding
  pub policy : IsPolicy session.policy
