-- What a policy that consists only of TPM2_PolicyCpHash requires. TPM 2.0 Library, Part 3, section
-- 23.13 (TPM2_PolicyCpHash).
use Rattle.std.specs.Prelude.{◌≡◌, ℕ, List}
use Rattle.tpm_types_object.specs.declared.public.Public.{Public}
use Rattle.tpm_policy_meaning.specs.Expression.{PolicyExpression, Nothing, Then, PolicyCpHash}
use Rattle.tpm_policy_meaning.specs.Meaning.{IsPolicyExpression}
use Rattle.tpm_step.specs.uses.EntryHmacs.{cp_hash_in}
use Rattle.tpm_step.specs.history.History.{AcceptedCommand, History}
use Rattle.tpm_step.specs.uses.PolicyReviews.{IsUsedBySession, UsesObject}

-- Suppose that an object has no userWithAuth, and that its policy is a single TPM2_PolicyCpHash.
-- Unless the hash is broken, only commands with that cpHash use the object.
abbrev pub NeedsCpHash : History → AcceptedCommand → Type 0
NeedsCpHash history c =
    (place : ℕ) (public : Public) (cp_hash : List ℕ)
    → let policy : PolicyExpression = Then Nothing (PolicyCpHash cp_hash) in
    UsesObject c place public policy → IsPolicyExpression public.name_alg policy
    → IsUsedBySession history c place public.name_alg policy
    (λ u. cp_hash_in c public.name_alg ≡ cp_hash)
