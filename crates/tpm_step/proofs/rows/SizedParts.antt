-- Lemmas about the sizes of a session's fields.
use Rattle.std.proofs.Common.{arith, ◌≡◌, ◌⊎◌, ℕ, Bool, List, [], length, take, Option, Some, None, refl, inl, inr, ◌≤◌, true, false, subst, sym}
use Rattle.std.proofs.lemmas.List.{length-take-le}
use Rattle.std.specs.Prelude.{◌&&◌, nat_le}
use Rattle.std.proofs.lemmas.Bool.{leb-true}
use Rattle.tpm_mac.specs.Digest.{digest_size}
use Rattle.tpm_mac.specs.declared.algorithm.HashAlg.{HashAlg}
use Rattle.tpm_mac.specs.declared.algorithm.HashAlg.TheVariants.{Sha1, Sha256}
use Rattle.tpm_session.specs.Key.{is_nonce_size, session_key}
use Rattle.tpm_session.specs.declared.session.Binding.{Binding}
use Rattle.tpm_session.proofs.KeySizes as keys

-- ---- session keys

pub key_sized : (hash : HashAlg) (binding : Option Binding) (nonce_tpm nonce_caller : List ℕ)
    → (session_key hash binding nonce_tpm nonce_caller ≡ [])
    ⊎ (length (session_key hash binding nonce_tpm nonce_caller) ≡ digest_size hash)
unfolding session_key
key_sized hash None nonce_tpm nonce_caller = inl refl
key_sized hash (Some binding) nonce_tpm nonce_caller =
    inr (keys.key_sized hash (Some binding) nonce_tpm nonce_caller)

-- ---- nonces

both : (a b : Bool) → (a && b) ≡ true → (a ≡ true) × (b ≡ true)
both true b is = (refl, is)
both false b is = absurd cc

pub digest_few : (hash : HashAlg) → digest_size hash ≤ 32
digest_few Sha1 = omega arith
digest_few Sha256 = omega arith

pub nonce_few : (hash : HashAlg) (size : ℕ) → is_nonce_size hash size ≡ true → size ≤ 32
nonce_few hash size is =
    let most = leb-true size (digest_size hash)
    (both (nat_le 16 size) (nat_le size (digest_size hash)) is).1 in
    omega (arith, most, digest_few hash)

-- the first `size` bytes of a list of at least 32 bytes are a nonce, if a nonce may have this size
pub nonce_taken : (hash : HashAlg) (size : ℕ) (bytes : List ℕ) → is_nonce_size hash size ≡ true
    → 32 ≤ length bytes → is_nonce_size hash (length (take size bytes)) ≡ true
nonce_taken hash size bytes is enough =
    subst (λ (n : ℕ). is_nonce_size hash n ≡ true)
    (sym (length-take-le size bytes (omega (arith, nonce_few hash size is, enough)))) is
