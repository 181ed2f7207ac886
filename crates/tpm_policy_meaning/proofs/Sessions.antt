-- A session accepts a TPM2_PolicyOR only if its list of digests contains the session's digest. The
-- assertions of a session determine what it requires in an authorization entry.
use Rattle.std.proofs.Common.{◌≡◌, ◌⊎◌, ℕ, Bool, true, false, not, List, [], ◌∷◌, Ok, refl, sym, subst, inl, inr}
use Rattle.std.proofs.lemmas.Bool.{false≢true}
use Rattle.std.proofs.lemmas.Slice.Eq.{bytes_eq-Decides}
use Rattle.std.specs.List.{list_any}
use Rattle.std.specs.Str.{bytes_eq}
use Rattle.tpm_bytes.specs.Reading.{◌>>=◌, refused_if}
use Rattle.tpm_mac.specs.declared.algorithm.HashAlg.{HashAlg}
use Rattle.tpm_policy.specs.Assertion as assertion
use Rattle.tpm_policy.specs.Assertion.{Assertion, auth_value_asserted, or_asserted, or_digest, password_asserted}
use Rattle.tpm_policy.specs.State.{Policy}
use Rattle.tpm_policy.specs.declared.state.Demand.TheVariants as demand
use Rattle.tpm_types_common.specs.ActionFault.{parameter_fault}
use Rattle.tpm_types_common.specs.declared.action_check.ActionCheck.TheVariants as action
use Rattle.tpm_types_common.specs.declared.action_fault.ActionFault.{ActionFault}
use Rattle.tpm_types_common.specs.declared.rc.ResponseCode.TheVariants as code
use Rattle.tpm_policy_meaning.specs.Asserted.{AcceptedFindDigest, Says, DemandsValue, IsAmong, evaluated_policy}
use Rattle.tpm_policy_meaning.specs.Expression.{PolicyAuthValue, PolicyPassword}

-- ---- TPM2_PolicyOR

pub any_among : (digest : List ℕ) (digests : List (List ℕ))
    → list_any (λ (one : List ℕ). bytes_eq one digest) digests ≡ true → IsAmong digest digests
any_among digest [] is = absurd (false≢true is)
any_among digest (one ∷ digests) is = by (bytes_eq one digest) refl is (any_among digest digests)
  where
    by : (same : Bool) → bytes_eq one digest ≡ same
        → list_any (λ (one : List ℕ). bytes_eq one digest) (one ∷ digests) ≡ true
        → (list_any (λ (one : List ℕ). bytes_eq one digest) digests ≡ true → IsAmong digest digests)
        → IsAmong digest (one ∷ digests)
    by true same any next = inl (sym ((bytes_eq-Decides one digest).0 same))
    by false other any next = inr (next cc)

passes : (fault : ActionFault) (policy made : Policy) (holds : Bool)
    → (refused_if (not holds) fault >>= λ (u : Unit {0}). Ok policy) ≡ Ok made → holds ≡ true
passes fault policy made true is = refl
passes fault policy made false is = absurd cc

pub accepted_find : AcceptedFindDigest
unfolding or_asserted
accepted_find hash (assertion.Or digests) earlier made is =
    let policy : Policy = evaluated_policy hash false earlier in
    any_among policy.digest digests
    (passes (parameter_fault action.First 1 code.Value)
    (record policy { digest = or_digest hash digests }) made
    (list_any (λ (one : List ℕ). bytes_eq one policy.digest) digests) is)
accepted_find hash _ earlier made is = tt

-- ---- the demand of a session

abbrev Demanded : HashAlg → Bool → List Assertion → Type 0
Demanded hash trial assertions =
    ((evaluated_policy hash trial assertions).demand ≡ demand.AuthValue)
    ⊎ ((evaluated_policy hash trial assertions).demand ≡ demand.Password)

demanded : (hash : HashAlg) (trial : Bool) (assertions : List Assertion) (one : Assertion)
    → IsAmong one assertions → Says one PolicyAuthValue → Demanded hash trial assertions
unfolding auth_value_asserted password_asserted
demanded hash trial [] one among asserts = absurd among
demanded hash trial (assertion.AuthValue ∷ earlier) one among asserts = inl refl
demanded hash trial (assertion.Password ∷ earlier) one among asserts = inr refl
demanded hash trial (latest ∷ earlier) one (inl is) asserts =
    absurd (subst (λ (a : Assertion). Says a PolicyAuthValue) is asserts)
demanded hash trial (latest ∷ earlier) one (inr among) asserts =
    demanded hash trial earlier one among asserts

either_asserts : (one : Assertion) → Says one PolicyPassword → Says one PolicyAuthValue
either_asserts assertion.AuthValue asserts = tt
either_asserts assertion.Password asserts = tt
either_asserts _ asserts = absurd asserts

pub demands_value : DemandsValue
demands_value hash trial assertions (inl (one, among, asserts)) =
    demanded hash trial assertions one among asserts
demands_value hash trial assertions (inr (one, among, asserts)) =
    demanded hash trial assertions one among (either_asserts one asserts)
