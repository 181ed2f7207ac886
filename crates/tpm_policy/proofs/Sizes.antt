-- A policy digest is as long as a digest of the session's hash algorithm, at the start and after
-- every assertion.
use Rattle.std.proofs.Common.{rules, ◌≡◌, Bool, length, Ok, IfOk, subst}
use Rattle.std.proofs.lemmas.List.{length-replicate}
use Rattle.tpm_mac.specs.Digest.{digest_size}
use Rattle.tpm_mac.specs.declared.algorithm.HashAlg.{HashAlg}
use Rattle.tpm_mac.proofs.DigestSize.{length-hash_of}
use Rattle.tpm_policy.specs.Assertion.{Assertion, asserted_policy}
use Rattle.tpm_policy.specs.Assertion.{AuthValue, Password}
use Rattle.tpm_policy.specs.Assertion.{auth_value_asserted, command_code_asserted, cp_hash_asserted, locality_asserted, nv_asserted}
use Rattle.tpm_policy.specs.Assertion.{nv_written_asserted, or_asserted, or_digest, password_asserted, pcr_asserted, secret_asserted}
use Rattle.tpm_policy.specs.State.{Policy, starting}
use Rattle.tpm_policy.proofs.Made.{ok_bind}

pub starting_sized : (hash : HashAlg) → length (starting hash).digest ≡ digest_size hash
starting_sized hash = length-replicate (digest_size hash) 0

pub asserted_sized : (hash : HashAlg) (trial : Bool) (assertion : Assertion) (policy : Policy)
    → IfOk (asserted_policy hash trial assertion policy)
    (λ new. length new.digest ≡ digest_size hash)
unfolding pcr_asserted or_asserted or_digest auth_value_asserted password_asserted
    command_code_asserted cp_hash_asserted nv_written_asserted locality_asserted secret_asserted
    nv_asserted
asserted_sized hash trial AuthValue policy = length-hash_of hash _
asserted_sized hash trial Password policy = length-hash_of hash _
asserted_sized hash trial _ policy = search (rules, ok_bind, length-hash_of)

-- After an assertion, the policy digest is as long as a digest of the session's hash algorithm.
pub made_sized : (hash : HashAlg) (trial : Bool) (assertion : Assertion) (old new : Policy)
    → asserted_policy hash trial assertion old ≡ Ok new → length new.digest ≡ digest_size hash
made_sized hash trial assertion old new is =
    subst (λ x. IfOk x (λ made. length made.digest ≡ digest_size hash)) is
    (asserted_sized hash trial assertion old)
