-- A trial session computes the digest of a policy. TPM 2.0 Library, Part 1, section 19.7.
use Rattle.std.specs.Prelude.{◌≡◌, ℕ, List, [], ◌∷◌, true, Ok}
use Rattle.tpm_mac.specs.declared.algorithm.HashAlg.{HashAlg}
use Rattle.tpm_policy.specs.Assertion as assertion
use Rattle.tpm_policy.specs.Assertion.{Assertion}
use Rattle.tpm_commands.specs.declared.profile.Profile.TheVariants.{Complete}
use Rattle.tpm_types_common.specs.PcrSelection.{selection_text}
use Rattle.tpm_policy_meaning.specs.Asserted.{evaluated_policy}
use Rattle.tpm_policy_meaning.specs.Expression.{PolicyAssertion, PolicyPcr, PolicyAuthValue}
use Rattle.tpm_policy_meaning.specs.Expression.{PolicyPassword, PolicyCommandCode, PolicyLocality}
use Rattle.tpm_policy_meaning.specs.Expression.{PolicyCpHash, PolicyNvWritten, PolicySecret}
use Rattle.tpm_policy_meaning.specs.Expression.{PolicyNv}
use Rattle.tpm_policy_meaning.specs.Expression.{PolicyExpression, Nothing, Then, PolicyOr}
use Rattle.tpm_policy_meaning.specs.Meaning.{IsPolicyExpression}
use Rattle.tpm_policy_meaning.specs.PolicyDigest.{branch_digests, policy_digest}

-- the assertion that a trial session makes for an assertion of a policy expression; `pcrs_now` is
-- the current digest of the device's PCRs. The device serves the command of TPM2_PolicyCommandCode, as
-- one of the complete profile does
abbrev pub assertion_of : (pcrs_now : List ℕ) → PolicyAssertion → Assertion
assertion_of pcrs_now (PolicyPcr selection digest) = assertion.Pcr (record {
  given = digest;
  selection = selection_text selection;
  digest = pcrs_now;
  update_count = 0;
})
assertion_of pcrs_now PolicyAuthValue = assertion.AuthValue
assertion_of pcrs_now PolicyPassword = assertion.Password
assertion_of pcrs_now (PolicyCommandCode number) = assertion.CommandCode Complete number
assertion_of pcrs_now (PolicyLocality localities) = assertion.Locality localities
assertion_of pcrs_now (PolicyCpHash cp_hash) = assertion.CpHash cp_hash
assertion_of pcrs_now (PolicyNvWritten is_written) = assertion.NvWritten is_written
assertion_of pcrs_now (PolicySecret name reference) = assertion.Secret (record {
  name = name;
  nonce = [];
  nonce_tpm = [];
  cp_hash = [];
  reference = reference;
  expiration = 0;
})
assertion_of pcrs_now (PolicyNv name operand offset operation) = assertion.Nv (record {
  name = name;
  operand = operand;
  offset = offset;
  operation = operation;
  compared = Ok [];
})

-- the assertions that a trial session makes for a policy (latest first); a trial session accepts a
-- TPM2_PolicyOR even though no branch has been asserted
abbrev pub assertions_of : HashAlg → (pcrs_now : List ℕ) → PolicyExpression → List Assertion
assertions_of hash pcrs_now Nothing = []
assertions_of hash pcrs_now (Then before written) =
    assertion_of pcrs_now written ∷ assertions_of hash pcrs_now before
assertions_of hash pcrs_now (PolicyOr branches) =
    assertion.Or (branch_digests hash branches) ∷ []

-- Asserting a policy in a trial session yields the policy's digest, whatever the current values of
-- the PCRs are.
abbrev pub TrialComputes : Type 0
TrialComputes =
    (hash : HashAlg) (pcrs_now : List ℕ) (policy : PolicyExpression)
    → IsPolicyExpression hash policy
    → (evaluated_policy hash true (assertions_of hash pcrs_now policy)).digest
    ≡ policy_digest hash policy
