-- A trial session computes the digest of a policy.
use Rattle.std.proofs.Common.{◌≡◌, ℕ, Bool, true, false, List, [], ◌∷◌, ◌++◌, length, append_assoc, refl, ap, ◌∙◌}
use Rattle.std.specs.Int.{w32, to_be_bytes}
use Rattle.std.specs.Prelude.{if◌then◌else◌}
use Rattle.std.specs.List.{flat_map}
use Rattle.tpm_mac.specs.Digest.{digest_size, hash_of}
use Rattle.tpm_mac.specs.declared.algorithm.HashAlg.{HashAlg}
use Rattle.tpm_mac.specs.declared.algorithm.HashAlg.TheVariants as alg
use Rattle.tpm_policy.specs.Assertion.{auth_value_asserted, or_digest, password_asserted, yes_no_text}
use Rattle.tpm_types_common.specs.Buffer.{is_given}
use Rattle.tpm_types_common.specs.PcrSelection.{selection_text}
use Rattle.tpm_commands.specs.CommandCode.{code_number}
use Rattle.tpm_commands.specs.declared.command_code.CommandCode.{CommandCode}
use Rattle.tpm_commands.specs.declared.command_code.CommandCode.TheVariants as command
use Rattle.tpm_policy_meaning.specs.Asserted.{evaluated_policy}
use Rattle.tpm_policy_meaning.specs.Expression.{PolicyPcr, PolicyAuthValue, PolicyPassword, PolicyCommandCode, PolicyLocality, PolicyCpHash, PolicyNvWritten, PolicySecret, PolicyNv}
use Rattle.tpm_policy_meaning.specs.Expression.{Nothing, Then, PolicyOr}
use Rattle.tpm_policy_meaning.specs.PolicyDigest.{branch_digests, nv_arguments_text}
use Rattle.tpm_policy_meaning.specs.Trial.{TrialComputes, assertions_of}

-- A digest of the right size is not empty, and therefore counts as present in the command.
sized_given : (hash : HashAlg) (digest : List ℕ) → length digest ≡ digest_size hash
    → is_given digest ≡ true
sized_given alg.Sha1 digest size = rw size refl
sized_given alg.Sha256 digest size = rw size refl

given_taken : (given : Bool) (digest other : List ℕ) → given ≡ true
    → (if given then digest else other) ≡ digest
given_taken true digest other is = refl
given_taken false digest other is = absurd cc

module _ (hash : HashAlg) where
  -- The digest after an assertion is the hash of the digest before it, the command code and the
  -- assertion's data.
  extends : (digest made : List ℕ) (code : CommandCode) (about : List ℕ) → digest ≡ made
      → hash_of hash (digest ++ to_be_bytes w32 (code_number code) ++ about)
      ≡ hash_of hash (made ++ (to_be_bytes w32 (code_number code) ++ about))
  extends digest made code about is =
      ap (λ (d : List ℕ). hash_of hash (d ++ to_be_bytes w32 (code_number code) ++ about)) is
      ∙ ap (hash_of hash) (append_assoc made (to_be_bytes w32 (code_number code)) about)

pub trial_computes : TrialComputes
unfolding or_digest auth_value_asserted password_asserted
trial_computes hash now Nothing written = refl
trial_computes hash now (PolicyOr branches) written =
    extends hash _ _ command.PolicyOr
    (flat_map (λ (digest : List ℕ). digest) (branch_digests hash branches)) refl
trial_computes hash now (Then before (PolicyPcr selection digest)) written =
    ap (λ (d : List ℕ). hash_of hash
    ((evaluated_policy hash true (assertions_of hash now before)).digest
    ++ to_be_bytes w32 (code_number command.PolicyPcr) ++ (selection_text selection ++ d)))
    (given_taken (is_given digest) digest now (sized_given hash digest written.1))
    ∙ extends hash _ _ command.PolicyPcr (selection_text selection ++ digest)
    (trial_computes hash now before written.0)
trial_computes hash now (Then before PolicyAuthValue) written =
    extends hash _ _ command.PolicyAuthValue [] (trial_computes hash now before written.0)
trial_computes hash now (Then before PolicyPassword) written =
    extends hash _ _ command.PolicyAuthValue [] (trial_computes hash now before written.0)
trial_computes hash now (Then before (PolicyCommandCode number)) written =
    extends hash _ _ command.PolicyCommandCode (to_be_bytes w32 number)
    (trial_computes hash now before written.0)
trial_computes hash now (Then before (PolicyLocality localities)) written =
    extends hash _ _ command.PolicyLocality (localities ∷ [])
    (trial_computes hash now before written.0)
trial_computes hash now (Then before (PolicyCpHash cp_hash)) written =
    extends hash _ _ command.PolicyCpHash cp_hash (trial_computes hash now before written.0)
trial_computes hash now (Then before (PolicyNvWritten is_written)) written =
    extends hash _ _ command.PolicyNvWritten (yes_no_text is_written)
    (trial_computes hash now before written.0)
trial_computes hash now (Then before (PolicySecret name reference)) written =
    ap (λ (d : List ℕ). hash_of hash (d ++ reference))
    (extends hash _ _ command.PolicySecret name (trial_computes hash now before written.0))
trial_computes hash now (Then before (PolicyNv name operand offset operation)) written =
    extends hash _ _ command.PolicyNv
    (hash_of hash (nv_arguments_text operand offset operation) ++ name)
    (trial_computes hash now before written.0)
