-- The assertions of a session, and the hash inputs from which its digest is computed. TPM 2.0
-- Library, Part 1, section 19.7, and Part 3, section 23.
use Rattle.std.specs.Prelude.{◌≡◌, ◌⊎◌, ◌<◌, ◌^◌, ℕ, Bool, false, List, [], ◌∷◌, ◌++◌, length, Ok}
use Rattle.tpm_mac.specs.Digest.{digest_size}
use Rattle.tpm_mac.specs.declared.algorithm.HashAlg.{HashAlg}
use Rattle.tpm_policy.specs.Assertion as assertion
use Rattle.tpm_policy.specs.Assertion.{Assertion, asserted_policy, yes_no_text}
use Rattle.tpm_policy.specs.Made.{policy_with}
use Rattle.tpm_policy.specs.State.{Policy, starting}
use Rattle.tpm_policy.specs.declared.state.Demand.TheVariants as demand
use Rattle.tpm_types_common.specs.PcrSelection.{selection_text}
use Rattle.std.specs.Int.{w32, to_be_bytes}
use Rattle.tpm_commands.specs.declared.command_code.CommandCode.TheVariants as command
use Rattle.tpm_policy_meaning.specs.Expression.{PolicyAssertion, PolicyPcr, PolicyAuthValue}
use Rattle.tpm_policy_meaning.specs.Expression.{PolicyPassword, PolicyCommandCode, PolicyLocality}
use Rattle.tpm_policy_meaning.specs.Expression.{PolicyCpHash, PolicyNvWritten, PolicySecret}
use Rattle.tpm_policy_meaning.specs.Expression.{PolicyNv}
use Rattle.tpm_policy_meaning.specs.PolicyDigest.{PolicyUpdate, digest_after, plain_update}
use Rattle.tpm_policy_meaning.specs.PolicyDigest.{or_update}
use Rattle.tpm_policy_meaning.specs.PolicyDigest.{secret_update, nv_update, nv_arguments_text}
use Rattle.tpm_policy_meaning.specs.PolicyDigest.{texts_after, zeros}

-- x is an element of this list.
abbrev pub IsAmong : {X : Type 0} → X → List X → Type 0
IsAmong x [] = ⊥
IsAmong x (y ∷ ys) = (x ≡ y) ⊎ IsAmong x ys

-- the policy of a session after these assertions (latest first)
abbrev pub evaluated_policy : HashAlg → (trial : Bool) → List Assertion → Policy
evaluated_policy hash trial [] = starting hash
evaluated_policy hash trial (latest ∷ earlier) =
    policy_with hash trial latest (evaluated_policy hash trial earlier)

-- the digest of a policy session after these assertions (latest first)
abbrev pub session_digest : HashAlg → List Assertion → List ℕ
session_digest hash assertions = (evaluated_policy hash false assertions).digest

-- ---- assertions of a session and of a policy expression

-- An assertion of a session asserts the same as an assertion of a policy expression.
-- TPM2_PolicyAuthValue and TPM2_PolicyPassword count as the same assertion, since both extend the
-- digest in the same way. After either, a caller must prove that it knows the authorization value
-- (`DemandsValue`); the session's demand decides how.
abbrev pub Says : Assertion → PolicyAssertion → Type 0
Says (assertion.Pcr parts) (PolicyPcr selection digest) =
    (parts.selection ≡ selection_text selection) × (parts.digest ≡ digest)
Says assertion.AuthValue PolicyAuthValue = Unit {0}
Says assertion.AuthValue PolicyPassword = Unit {0}
Says assertion.Password PolicyAuthValue = Unit {0}
Says assertion.Password PolicyPassword = Unit {0}
Says (assertion.CommandCode profile asserted) (PolicyCommandCode number) = asserted ≡ number
Says (assertion.Locality asserted) (PolicyLocality localities) = asserted ≡ localities
Says (assertion.CpHash asserted) (PolicyCpHash cp_hash) = asserted ≡ cp_hash
Says (assertion.NvWritten asserted) (PolicyNvWritten is_written) = asserted ≡ is_written
Says (assertion.Secret parts) (PolicySecret name reference) =
    (parts.name ≡ name) × (parts.reference ≡ reference)
Says (assertion.Nv parts) (PolicyNv name operand offset operation) =
    (parts.name ≡ name) × (parts.operand ≡ operand) × (parts.offset ≡ offset)
    × (parts.operation ≡ operation)
Says _ _ = ⊥

-- One of these assertions asserts the same as this assertion of a policy expression.
abbrev pub IsAsserted : List Assertion → PolicyAssertion → Type 0
IsAsserted assertions written =
    (one : Assertion) × IsAmong one assertions × Says one written

-- ---- properties of assertions that a session accepted

-- The values of an assertion have the right sizes: a PCR digest is as long as a digest of the
-- session's hash algorithm, a command code fits in 32 bits, and an offset fits in 16 bits.
abbrev pub HasWidths : HashAlg → Assertion → Type 0
HasWidths hash (assertion.Pcr parts) = length parts.digest ≡ digest_size hash
HasWidths hash (assertion.CommandCode profile number) = number < 2 ^ 32
HasWidths hash (assertion.Nv parts) = parts.offset < 2 ^ 16
HasWidths hash _ = Unit {0}

-- If the assertion is a TPM2_PolicyOR, its list contains the session's digest after the earlier
-- assertions.
abbrev pub FindsDigest : HashAlg → Assertion → (earlier : List Assertion) → Type 0
FindsDigest hash (assertion.Or digests) earlier =
    IsAmong (session_digest hash earlier) digests
FindsDigest hash _ earlier = Unit {0}

-- The values of each of these assertions (latest first) have the right sizes. The list of each
-- TPM2_PolicyOR contains the session's digest after the earlier assertions.
abbrev pub AreAccepted : HashAlg → List Assertion → Type 0
AreAccepted hash [] = Unit {0}
AreAccepted hash (latest ∷ earlier) =
    HasWidths hash latest × FindsDigest hash latest earlier × AreAccepted hash earlier

-- ---- the inputs that a session hashes

-- what an assertion contributes to the digest
abbrev pub update_by : HashAlg → Assertion → PolicyUpdate
update_by hash (assertion.Pcr parts) =
    plain_update command.PolicyPcr (parts.selection ++ parts.digest)
update_by hash (assertion.Or digests) = or_update digests
update_by hash assertion.AuthValue = plain_update command.PolicyAuthValue []
update_by hash assertion.Password = plain_update command.PolicyAuthValue []
update_by hash (assertion.CommandCode profile number) =
    plain_update command.PolicyCommandCode (to_be_bytes w32 number)
update_by hash (assertion.Locality localities) =
    plain_update command.PolicyLocality (localities ∷ [])
update_by hash (assertion.CpHash cp_hash) = plain_update command.PolicyCpHash cp_hash
update_by hash (assertion.NvWritten is_written) =
    plain_update command.PolicyNvWritten (yes_no_text is_written)
update_by hash (assertion.Secret parts) = secret_update parts.name parts.reference
update_by hash (assertion.Nv parts) =
    nv_update hash parts.name (nv_arguments_text parts.operand parts.offset parts.operation)

-- the digest that an assertion extends: zeros for TPM2_PolicyOR, otherwise the session's digest
abbrev pub digest_before : HashAlg → Assertion → (earlier : List Assertion) → List ℕ
digest_before hash (assertion.Or digests) earlier = zeros hash
digest_before hash _ earlier = session_digest hash earlier

-- the inputs that a session hashed, latest first
abbrev pub session_texts : HashAlg → List Assertion → List (List ℕ)
session_texts hash [] = []
session_texts hash (latest ∷ earlier) =
    texts_after hash (digest_before hash latest earlier) (update_by hash latest)
    ++ session_texts hash earlier

-- the digests that a session had, latest first. The last element is the session's digest before any
-- assertion
abbrev pub session_digests : HashAlg → List Assertion → List (List ℕ)
session_digests hash [] = session_digest hash [] ∷ []
session_digests hash (latest ∷ earlier) =
    session_digest hash (latest ∷ earlier) ∷ session_digests hash earlier

-- ---- laws about the digest of a session

-- A policy session's digest is the hash of the latest input that it hashed, or zeros if it has
-- hashed no input.
abbrev pub SessionHashesTexts : Type 0
SessionHashesTexts =
    (hash : HashAlg) (assertions : List Assertion)
    → session_digest hash assertions ≡ digest_after hash (session_texts hash assertions)

-- If a policy session accepts a TPM2_PolicyOR, the session's digest at that time is in the list.
abbrev pub AcceptedFindDigest : Type 0
AcceptedFindDigest =
    (hash : HashAlg) (latest : Assertion) (earlier : List Assertion) (made : Policy)
    → asserted_policy hash false latest (evaluated_policy hash false earlier) ≡ Ok made
    → FindsDigest hash latest earlier

-- If TPM2_PolicyAuthValue or TPM2_PolicyPassword was asserted, the session requires the
-- authorization value, in an HMAC key or as a password.
abbrev pub DemandsValue : Type 0
DemandsValue =
    (hash : HashAlg) (trial : Bool) (assertions : List Assertion)
    → IsAsserted assertions PolicyAuthValue ⊎ IsAsserted assertions PolicyPassword
    → ((evaluated_policy hash trial assertions).demand ≡ demand.AuthValue)
    ⊎ ((evaluated_policy hash trial assertions).demand ≡ demand.Password)
