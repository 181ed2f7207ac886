-- If an assertion passes its checks, the new policy is the result of `policy_with`, which is
-- defined without checks.
use Rattle.std.proofs.Common.{rules, ◌≡◌, Bool, Result, Ok, Err, IfOk, refl, subst}
use Rattle.tpm_bytes.specs.Reading.{◌>>=◌}
use Rattle.tpm_mac.specs.declared.algorithm.HashAlg.{HashAlg}
use Rattle.tpm_policy.specs.Assertion.{Assertion, AuthValue, Password, asserted_policy, command_code_asserted, cp_hash_asserted, locality_asserted, nv_asserted, nv_written_asserted, or_asserted, pcr_asserted, secret_asserted}
use Rattle.tpm_policy.specs.Made.{policy_with}
use Rattle.tpm_policy.specs.State.{Policy}

pub ok_bind : {A B E : Type 0} (Q : B → Type 0) (x : Result A E) (f : A → Result B E)
    → ((a : A) → IfOk (f a) Q) → IfOk (x >>= f) Q
ok_bind Q (Ok a) f h = h a
ok_bind Q (Err e) f h = tt

makes : (hash : HashAlg) (trial : Bool) (a : Assertion) (old : Policy)
    → IfOk (asserted_policy hash trial a old) (λ new. new ≡ policy_with hash trial a old)
unfolding pcr_asserted or_asserted command_code_asserted cp_hash_asserted nv_written_asserted
    locality_asserted secret_asserted nv_asserted
makes hash trial AuthValue old = refl
makes hash trial Password old = refl
makes hash trial _ old = search (rules, ok_bind)

pub policy_made : (hash : HashAlg) (trial : Bool) (a : Assertion) (old new : Policy)
    → asserted_policy hash trial a old ≡ Ok new → new ≡ policy_with hash trial a old
policy_made hash trial a old new is =
    subst (λ x. IfOk x (λ new. new ≡ policy_with hash trial a old)) is (makes hash trial a old)
