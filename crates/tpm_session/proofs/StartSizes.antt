-- The hash algorithm of a new session allows the sizes of its nonceTPM, key and policy digest.
use Rattle.std.proofs.Common.{◌≡◌, true, List, ℕ, length, Option, refl}
use Rattle.std.proofs.lemmas.Bool.{eq-eqb}
use Rattle.tpm_mac.specs.declared.algorithm.HashAlg.{HashAlg}
use Rattle.tpm_policy.proofs.Sizes.{starting_sized}
use Rattle.tpm_types_common.specs.declared.session_type.SessionType.{SessionType}
use Rattle.tpm_types_common.specs.declared.symmetric.SymmetricDefinition.{SymmetricDefinition}
use Rattle.tpm_session.specs.Key.{is_nonce_size}
use Rattle.tpm_session.specs.Session.{has_hash_sizes}
use Rattle.tpm_session.specs.Sessions.{new_session}
use Rattle.tpm_session.specs.declared.session.Binding.{Binding}
use Rattle.tpm_session.proofs.KeySizes.{key_sized}

pub started_sizes : (kind : SessionType) (hash : HashAlg) (symmetric : SymmetricDefinition)
    (binding : Option Binding) (nonce_tpm nonce_caller : List ℕ)
    → is_nonce_size hash (length nonce_tpm) ≡ true
    → has_hash_sizes (new_session kind hash symmetric binding nonce_tpm nonce_caller) ≡ true
started_sizes kind hash symmetric binding nonce_tpm nonce_caller is =
    rw (
      is,
      eq-eqb _ _ (key_sized hash binding nonce_tpm nonce_caller),
      eq-eqb _ _ (starting_sized hash),
    ) refl
