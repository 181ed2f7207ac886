-- The meaning of a policy session's digest. TPM 2.0 Library, Part 1, section 19.7. If a session's
-- digest equals the digest of a policy, either the session made the assertions that the policy
-- requires, on one branch at each TPM2_PolicyOR; or the policy and the session determine inputs
-- that break the hash.
use Rattle.std.specs.Prelude.{◌≡◌, ◌≢◌, ◌⊎◌, ◌<◌, ◌^◌, ℕ, List, [], ◌∷◌, ◌++◌, length}
use Rattle.tpm_mac.specs.Digest.{digest_size, hash_of}
use Rattle.tpm_mac.specs.declared.algorithm.HashAlg.{HashAlg}
use Rattle.tpm_policy.specs.Assertion.{Assertion}
use Rattle.tpm_policy_meaning.specs.Asserted.{AreAccepted, IsAmong, IsAsserted, session_digest}
use Rattle.tpm_policy_meaning.specs.Asserted.{session_digests, session_texts}
use Rattle.tpm_policy_meaning.specs.Expression.{PolicyAssertion, PolicyPcr, PolicyCommandCode}
use Rattle.tpm_policy_meaning.specs.Expression.{PolicyNv}
use Rattle.tpm_policy_meaning.specs.Expression.{PolicyExpression, Nothing, Then, PolicyOr}
use Rattle.tpm_policy_meaning.specs.Expression.{PolicyBranches, NoBranch, Branch}
use Rattle.tpm_policy_meaning.specs.PolicyDigest.{branch_digests, policy_digest, policy_texts}
use Rattle.tpm_policy_meaning.specs.PolicyDigest.{zeros}

-- A policy is satisfied: each of its assertions has the property P. For a TPM2_PolicyOR, it
-- suffices that one branch is satisfied.
abbrev mutual
  pub IsMet : (P : PolicyAssertion → Type 0) → PolicyExpression → Type 0
  IsMet P Nothing = Unit {0}
  IsMet P (Then before assertion) = IsMet P before × P assertion
  IsMet P (PolicyOr branches) = IsOneMet P branches

  pub IsOneMet : (P : PolicyAssertion → Type 0) → PolicyBranches → Type 0
  IsOneMet P NoBranch = ⊥
  IsOneMet P (Branch policy branches) = IsMet P policy ⊎ IsOneMet P branches

-- An assertion of a policy expression can be encoded: a PCR digest is as long as a digest of the
-- policy's hash algorithm, a command code fits in 32 bits, and an offset fits in 16 bits.
abbrev pub IsPolicyAssertion : HashAlg → PolicyAssertion → Type 0
IsPolicyAssertion hash (PolicyPcr selection digest) = length digest ≡ digest_size hash
IsPolicyAssertion hash (PolicyCommandCode number) = number < 2 ^ 32
IsPolicyAssertion hash (PolicyNv name operand offset operation) = offset < 2 ^ 16
IsPolicyAssertion hash _ = Unit {0}

abbrev mutual
  pub IsPolicyExpression : HashAlg → PolicyExpression → Type 0
  IsPolicyExpression hash Nothing = Unit {0}
  IsPolicyExpression hash (Then before assertion) =
      IsPolicyExpression hash before × IsPolicyAssertion hash assertion
  IsPolicyExpression hash (PolicyOr branches) = ArePolicyBranches hash branches

  pub ArePolicyBranches : HashAlg → PolicyBranches → Type 0
  ArePolicyBranches hash NoBranch = Unit {0}
  ArePolicyBranches hash (Branch policy branches) =
      IsPolicyExpression hash policy × ArePolicyBranches hash branches

-- for each TPM2_PolicyOR in a policy, the digests of its branches
abbrev mutual
  pub branch_lists : HashAlg → PolicyExpression → List (List (List ℕ))
  branch_lists hash Nothing = []
  branch_lists hash (Then before assertion) = branch_lists hash before
  branch_lists hash (PolicyOr branches) =
      branch_digests hash branches ∷ lists_within hash branches

  pub lists_within : HashAlg → PolicyBranches → List (List (List ℕ))
  lists_within hash NoBranch = []
  lists_within hash (Branch policy branches) =
      branch_lists hash policy ++ lists_within hash branches

-- `text` is not in this list, but occurs across the boundary between two neighbours in the list:
-- `text` is a nonempty end of one byte string, followed by a nonempty start of the next one.
pub record IsAstride (text : List ℕ) (texts : List (List ℕ)) : Type 0 where
  pub before : List (List ℕ)
  pub front : List ℕ
  pub end : List ℕ
  pub beginning : List ℕ
  pub back : List ℕ
  pub after : List (List ℕ)
  pub neighbours : texts ≡ before ++ (front ++ end) ∷ (beginning ++ back) ∷ after
  pub spelled : text ≡ end ++ beginning
  pub has_end : end ≢ []
  pub has_beginning : beginning ≢ []
  pub is_none : IsAmong text texts → ⊥

-- The policy and the session's assertions determine inputs that break the hash.
pub data BreaksHash (hash : HashAlg) (policy : PolicyExpression) (assertions : List Assertion)
    : Type 0
  where
    -- an input that was hashed for the policy and a different input that was hashed by the session
    -- have the same hash
    Collision : (text other : List ℕ) → IsAmong text (policy_texts hash policy)
        → IsAmong other (session_texts hash assertions) → text ≢ other
        → hash_of hash text ≡ hash_of hash other → BreaksHash hash policy assertions
    -- the hash of an input is all zeros, the initial digest of a session
    HashOfZeros : (text : List ℕ)
        → IsAmong text (policy_texts hash policy) ⊎ IsAmong text (session_texts hash assertions)
        → hash_of hash text ≡ zeros hash → BreaksHash hash policy assertions
    -- in the concatenated digests of a TPM2_PolicyOR's branches in the policy, a digest of the
    -- session occurs across the boundary between two neighbouring digests. TPM2_PolicyOR hashes the
    -- concatenation without the sizes of the digests, so a session may pass the same bytes split at
    -- other offsets
    AstrideBranches : (digest : List ℕ) (digests : List (List ℕ))
        → IsAmong digest (session_digests hash assertions)
        → IsAmong digests (branch_lists hash policy) → IsAstride digest digests
        → BreaksHash hash policy assertions

-- If a policy session's digest equals the digest of a policy, either the session made the
-- assertions that the policy requires, or the hash is broken.
abbrev pub DigestMeans : Type 0
DigestMeans =
    (hash : HashAlg) (policy : PolicyExpression) (assertions : List Assertion)
    → IsPolicyExpression hash policy → AreAccepted hash assertions
    → session_digest hash assertions ≡ policy_digest hash policy
    → IsMet (IsAsserted assertions) policy ⊎ BreaksHash hash policy assertions
