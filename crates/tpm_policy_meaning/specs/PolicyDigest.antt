-- The digest of a policy, as it is used for an authPolicy. TPM 2.0 Library, Part 3, section 23.2.3
-- (policy digest update function), and the section of each assertion. The digest is the last hash
-- in a chain of inputs, each of which starts with the hash of the input before it.
use Rattle.std.specs.Prelude.{ℕ, List, [], ◌∷◌, ◌++◌, replicate, Option, Some, None}
use Rattle.std.specs.Int.{w16, w32, to_be_bytes}
use Rattle.std.specs.List.{flat_map}
use Rattle.tpm_mac.specs.Digest.{digest_size, hash_of}
use Rattle.tpm_mac.specs.declared.algorithm.HashAlg.{HashAlg}
use Rattle.tpm_policy.specs.Assertion.{yes_no_text}
use Rattle.tpm_types_common.specs.Operation.{operation_number}
use Rattle.tpm_types_common.specs.PcrSelection.{selection_text}
use Rattle.tpm_types_common.specs.declared.operation.Operation.{Operation}
use Rattle.tpm_commands.specs.CommandCode.{code_number}
use Rattle.tpm_commands.specs.declared.command_code.CommandCode.{CommandCode}
use Rattle.tpm_commands.specs.declared.command_code.CommandCode.TheVariants as command
use Rattle.tpm_policy_meaning.specs.Expression.{PolicyAssertion, PolicyPcr, PolicyAuthValue}
use Rattle.tpm_policy_meaning.specs.Expression.{PolicyPassword, PolicyCommandCode, PolicyLocality}
use Rattle.tpm_policy_meaning.specs.Expression.{PolicyCpHash, PolicyNvWritten, PolicySecret}
use Rattle.tpm_policy_meaning.specs.Expression.{PolicyNv}
use Rattle.tpm_policy_meaning.specs.Expression.{PolicyExpression, Nothing, Then, PolicyOr}
use Rattle.tpm_policy_meaning.specs.Expression.{PolicyBranches, NoBranch, Branch}

-- what an assertion contributes to the digest
pub record PolicyUpdate : Type 0 where
  -- the assertion's command code
  pub code : CommandCode
  -- the assertion's data
  pub about : List ℕ
  -- the assertion's policyRef, if it has one
  pub reference : Option (List ℕ)
  -- the inputs whose hashes are part of the assertion's data
  pub apart : List (List ℕ)

abbrev pub plain_update : CommandCode → (about : List ℕ) → PolicyUpdate
plain_update code about = record { code = code; about = about; reference = None; apart = [] }

-- the update of TPM2_PolicyOR: the concatenated digests of its branches, without their sizes
abbrev pub or_update : (digests : List (List ℕ)) → PolicyUpdate
or_update digests = plain_update command.PolicyOr (flat_map (λ digest. digest) digests)

-- the update of TPM2_PolicySecret. It always has a policyRef, which may be empty
abbrev pub secret_update : (name reference : List ℕ) → PolicyUpdate
secret_update name reference =
    record (plain_update command.PolicySecret name) { reference = Some reference }

-- the arguments of TPM2_PolicyNV, whose hash is part of its update: operandB || offset ||
-- operation
abbrev pub nv_arguments_text : (operand : List ℕ) → (offset : ℕ) → Operation → List ℕ
nv_arguments_text operand offset operation =
    operand ++ to_be_bytes w16 offset ++ to_be_bytes w16 (operation_number operation)

abbrev pub nv_update : HashAlg → (name arguments : List ℕ) → PolicyUpdate
nv_update hash name arguments =
    record (plain_update command.PolicyNv (hash_of hash arguments ++ name)) {
      apart = arguments ∷ [];
    }

-- the update of an assertion; TPM2_PolicyPassword uses the command code of TPM2_PolicyAuthValue
abbrev pub update_of : HashAlg → PolicyAssertion → PolicyUpdate
update_of hash (PolicyPcr selection digest) =
    plain_update command.PolicyPcr (selection_text selection ++ digest)
update_of hash PolicyAuthValue = plain_update command.PolicyAuthValue []
update_of hash PolicyPassword = plain_update command.PolicyAuthValue []
update_of hash (PolicyCommandCode number) =
    plain_update command.PolicyCommandCode (to_be_bytes w32 number)
update_of hash (PolicyLocality localities) =
    plain_update command.PolicyLocality (localities ∷ [])
update_of hash (PolicyCpHash cp_hash) = plain_update command.PolicyCpHash cp_hash
update_of hash (PolicyNvWritten is_written) =
    plain_update command.PolicyNvWritten (yes_no_text is_written)
update_of hash (PolicySecret name reference) = secret_update name reference
update_of hash (PolicyNv name operand offset operation) =
    nv_update hash name (nv_arguments_text operand offset operation)

-- ---- the inputs that are hashed for a policy

-- the encoding of an update: the command code and the assertion's data
abbrev pub update_text : PolicyUpdate → List ℕ
update_text update = to_be_bytes w32 (code_number update.code) ++ update.about

-- the hash input of an assertion. If the assertion has a policyRef, there is also a second input:
-- the hash of the first input, then policyRef
abbrev pub with_reference : HashAlg → Option (List ℕ) → (text : List ℕ) → List (List ℕ)
with_reference hash None text = text ∷ []
with_reference hash (Some reference) text = (hash_of hash text ++ reference) ∷ text ∷ []

-- the inputs that are hashed when an assertion extends this digest (latest first)
abbrev pub texts_after : HashAlg → (digest : List ℕ) → PolicyUpdate → List (List ℕ)
texts_after hash digest update =
    with_reference hash update.reference (digest ++ update_text update) ++ update.apart

-- the initial policy digest, all zeros
abbrev pub zeros : HashAlg → List ℕ
zeros hash = replicate (digest_size hash) 0

-- the digest after these inputs were hashed (latest first): the hash of the latest input, or zeros
-- if no input was hashed
abbrev pub digest_after : HashAlg → (texts : List (List ℕ)) → List ℕ
digest_after hash [] = zeros hash
digest_after hash (text ∷ earlier) = hash_of hash text

-- the inputs that are hashed for a policy and for its branches (latest first). The input of a
-- TPM2_PolicyOR starts with zeros
abbrev mutual
  pub policy_texts : HashAlg → PolicyExpression → List (List ℕ)
  policy_texts hash Nothing = []
  policy_texts hash (Then before assertion) =
      texts_after hash (digest_after hash (policy_texts hash before)) (update_of hash assertion)
      ++ policy_texts hash before
  policy_texts hash (PolicyOr branches) =
      texts_after hash (zeros hash) (or_update (branch_digests hash branches))
      ++ branch_texts hash branches

  pub branch_texts : HashAlg → PolicyBranches → List (List ℕ)
  branch_texts hash NoBranch = []
  branch_texts hash (Branch policy branches) =
      policy_texts hash policy ++ branch_texts hash branches

  pub branch_digests : HashAlg → PolicyBranches → List (List ℕ)
  branch_digests hash NoBranch = []
  branch_digests hash (Branch policy branches) =
      digest_after hash (policy_texts hash policy) ∷ branch_digests hash branches

-- the digest of a policy
abbrev pub policy_digest : HashAlg → PolicyExpression → List ℕ
policy_digest hash policy = digest_after hash (policy_texts hash policy)
