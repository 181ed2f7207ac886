-- Policy expressions. TPM 2.0 Library, Part 1, section 19.7 (enhanced authorization), and Part 3,
-- section 23. A policy consists of assertions. Each assertion is made by the command with the same
-- name. TPM2_PolicyOR offers a choice between several policies.
use Rattle.std.specs.Prelude.{ℕ, Bool, List}
use Rattle.tpm_types_common.specs.declared.operation.Operation.{Operation}
use Rattle.tpm_types_common.specs.declared.pcr_selection.BankSelection.{BankSelection}

-- An assertion of a policy, and what it requires when the entity is used.
pub data PolicyAssertion : Type 0 where
  -- the values of the selected PCRs have this digest
  PolicyPcr : (selection : List BankSelection) → (digest : List ℕ) → PolicyAssertion
  -- the HMAC key includes the entity's authorization value
  PolicyAuthValue : PolicyAssertion
  -- the entity's authorization value is sent as a password
  PolicyPassword : PolicyAssertion
  -- the command has this code
  PolicyCommandCode : (number : ℕ) → PolicyAssertion
  -- the command comes from one of these localities; bit n stands for locality n
  PolicyLocality : (localities : ℕ) → PolicyAssertion
  -- the command has this cpHash
  PolicyCpHash : (cp_hash : List ℕ) → PolicyAssertion
  -- the entity is an NV index, and is written or unwritten, as required
  PolicyNvWritten : (is_written : Bool) → PolicyAssertion
  -- the entity with this Name authorized a TPM2_PolicySecret with this policyRef
  PolicySecret : (name reference : List ℕ) → PolicyAssertion
  -- the data of the NV index with this Name, from this offset on, was compared with this operand,
  -- and the comparison held
  PolicyNv : (name operand : List ℕ) → (offset : ℕ) → (operation : Operation) → PolicyAssertion

-- A policy: the empty policy, which requires nothing; a policy followed by an assertion; or a
-- choice between several policies.
mutual
  pub data PolicyExpression : Type 0 where
    Nothing : PolicyExpression
    Then : (before : PolicyExpression) → PolicyAssertion → PolicyExpression
    PolicyOr : PolicyBranches → PolicyExpression

  pub data PolicyBranches : Type 0 where
    NoBranch : PolicyBranches
    Branch : PolicyExpression → PolicyBranches → PolicyBranches
