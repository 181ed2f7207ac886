-- A written policy can contain every kind of assertion. TPM 2.0 Library, Part 1, section 19.7.
use Rattle.std.specs.Prelude.{◌≡◌, ℕ, ◌<◌, ◌^◌, Bool, List, length}
use Rattle.tpm_mac.specs.Digest.{digest_size}
use Rattle.tpm_mac.specs.declared.algorithm.HashAlg.{HashAlg}
use Rattle.tpm_types_common.specs.declared.operation.Operation.{Operation}
use Rattle.tpm_types_common.specs.declared.pcr_selection.BankSelection.{BankSelection}
use Rattle.tpm_policy_meaning.specs.Expression.{PolicyExpression, PolicyAssertion, Then}
use Rattle.tpm_policy_meaning.specs.Expression.{PolicyOr, Branch, NoBranch}
use Rattle.tpm_policy_meaning.specs.Expression.{PolicyPcr, PolicyAuthValue, PolicyPassword}
use Rattle.tpm_policy_meaning.specs.Expression.{PolicyCommandCode, PolicyLocality, PolicyCpHash}
use Rattle.tpm_policy_meaning.specs.Expression.{PolicyNvWritten, PolicySecret, PolicyNv}
use Rattle.tpm_policy_meaning.specs.Meaning.{IsPolicyExpression}

-- This assertion can be added to the written policy `before`.
abbrev pub IsWrittenAfter : HashAlg → PolicyExpression → PolicyAssertion → Type 0
IsWrittenAfter hash before assertion = IsPolicyExpression hash (Then before assertion)

-- Each assertion can be added to a policy, if its arguments have the right sizes: a PCR digest is
-- as long as a digest of the policy's hash, a command code fits in 32 bits, and an offset fits in
-- 16 bits.
pub record WritesEach (hash : HashAlg) (before : PolicyExpression) : Type 0 where
  pub pcr : (selection : List BankSelection) (digest : List ℕ) → length digest ≡ digest_size hash
      → IsWrittenAfter hash before (PolicyPcr selection digest)
  pub auth_value : IsWrittenAfter hash before PolicyAuthValue
  pub password : IsWrittenAfter hash before PolicyPassword
  pub command_code : (number : ℕ) → number < 2 ^ 32
      → IsWrittenAfter hash before (PolicyCommandCode number)
  pub locality : (localities : ℕ) → IsWrittenAfter hash before (PolicyLocality localities)
  pub cp_hash : (cp_hash : List ℕ) → IsWrittenAfter hash before (PolicyCpHash cp_hash)
  pub nv_written : (is_written : Bool) → IsWrittenAfter hash before (PolicyNvWritten is_written)
  pub secret : (name reference : List ℕ)
      → IsWrittenAfter hash before (PolicySecret name reference)
  pub nv : (name operand : List ℕ) (offset : ℕ) (operation : Operation) → offset < 2 ^ 16
      → IsWrittenAfter hash before (PolicyNv name operand offset operation)
  pub either : (other : PolicyExpression) → IsPolicyExpression hash other
      → IsPolicyExpression hash (PolicyOr (Branch before (Branch other NoBranch)))

abbrev pub EachIsWritten : Type 0
EachIsWritten = (hash : HashAlg) (before : PolicyExpression) → IsPolicyExpression hash before
    → WritesEach hash before
