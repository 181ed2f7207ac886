-- What an authPolicy of a common kind requires when its entity is used. TPM 2.0 Library, Part 1,
-- section 19.7 (enhanced authorization), and Part 3, sections 23.4 (TPM2_PolicySecret), 23.6
-- (TPM2_PolicyOR), 23.7 (TPM2_PolicyPCR), 23.9 (TPM2_PolicyNV), 23.17 (TPM2_PolicyAuthValue) and
-- 23.20 (TPM2_PolicyNvWritten).
use Rattle.std.specs.Prelude.{◌≡◌, ◌≢◌, ◌⊎◌, ℕ, Bool, false, List, [], ◌∷◌, ◌++◌, Some, slice_get}
use Rattle.std.specs.List.{concat, flat_map}
use Rattle.tpm_mac.specs.Digest.{hash_of}
use Rattle.tpm_mac.specs.declared.algorithm.HashAlg.{HashAlg}
use Rattle.tpm_types_common.specs.declared.handle.Handle.{Handle}
use Rattle.tpm_types_common.specs.declared.nv_use.NvUse.TheVariants as does
use Rattle.tpm_types_common.specs.declared.operation.Operation.TheVariants as operation
use Rattle.tpm_types_common.specs.declared.pcr_selection.BankSelection.{BankSelection}
use Rattle.tpm_types_common.specs.declared.session_type.SessionType.TheVariants as type
use Rattle.tpm_types_command.specs.AuthEntry.{Entry}
use Rattle.tpm_commands.specs.CommandCode.{nv_use_at}
use Rattle.tpm_types_nv.specs.NvAttributes.{has as index_has}
use Rattle.tpm_types_nv.specs.declared.nv_attributes.NvAttribute.TheVariants as mark
use Rattle.tpm_types_nv.specs.declared.nv_public.NvPublic.{NvPublic}
use Rattle.tpm_types_object.specs.ObjectAttributes.{has}
use Rattle.tpm_types_object.specs.declared.object_attributes.ObjectAttribute.TheVariants as attribute
use Rattle.tpm_types_object.specs.declared.public.Public.{Public}
use Rattle.tpm_record.specs.Record.{Record, manufactured}
use Rattle.tpm_policy_meaning.specs.Expression.{PolicyExpression, Nothing, Then, PolicyOr, Branch}
use Rattle.tpm_policy_meaning.specs.Expression.{NoBranch, PolicyPcr, PolicyAuthValue}
use Rattle.tpm_policy_meaning.specs.Expression.{PolicyNvWritten, PolicySecret, PolicyNv}
use Rattle.tpm_policy_meaning.specs.Meaning.{BreaksHash, IsMet, IsPolicyExpression}
use Rattle.tpm_policy_meaning.specs.PolicyDigest.{policy_digest}
use Rattle.tpm_step.specs.uses.AssertedBy.{ComparesIndex, ShowsSecret}
use Rattle.tpm_step.specs.uses.EntryHmacs.{used_in}
use Rattle.tpm_step.specs.history.Executions.{Execution, Leads, history_after}
use Rattle.tpm_step.specs.history.History.{AcceptedCommand, Done, History}
use Rattle.tpm_step.specs.history.Pcrs.{values_in}
use Rattle.tpm_step.specs.uses.PolicyUses.{IsMetBy, PolicyUse, ShowsAuthValue}
use Rattle.tpm_step.specs.history.Sessions.{LiveSession, sessions_of}
use Rattle.tpm_step.specs.history.View.{OfIndex, OfObject}

-- ---- the commands that a device accepted

-- The property holds for each command that a device has accepted since it was manufactured, given
-- the history before the command.
abbrev pub OfEachAccepted : (History → AcceptedCommand → Type 0) → Type 0
OfEachAccepted Holds =
    (can : Bool) (random : List ℕ) (executions : List Execution) (new : Record)
    → Leads can (manufactured random) executions new
    → (after : History) (c : AcceptedCommand) (before : History)
    → history_after [] executions ≡ after ++ Done c ∷ before → Holds before c

-- A command uses the object that its handle at this position names. The object has no userWithAuth,
-- and its authPolicy is the digest of this policy.
pub record UsesObject (c : AcceptedCommand) (place : ℕ) (public : Public)
    (policy : PolicyExpression) : Type 0
  where
    pub handle : Handle
    pub used : used_in c.command place ≡ Some handle
    pub viewed : slice_get c.views place ≡ Some (OfObject public)
    pub no_user_with_auth : has public.attributes attribute.UserWithAuth ≡ false
    pub auth_policy : public.auth_policy ≡ policy_digest public.name_alg policy

-- A command writes the NV index that its handle at this position names. The index has no AUTHWRITE,
-- and its authPolicy is the digest of this policy.
pub record WritesIndex (c : AcceptedCommand) (place : ℕ) (public : NvPublic)
    (policy : PolicyExpression) : Type 0
  where
    pub handle : Handle
    pub used : used_in c.command place ≡ Some handle
    pub viewed : slice_get c.views place ≡ Some (OfIndex public)
    pub writes : nv_use_at c.command.code place ≡ does.Write
    pub no_auth_write : index_has public.attributes mark.AuthWrite ≡ false
    pub auth_policy : public.auth_policy ≡ policy_digest public.name_alg policy

-- The entry at this position of a command names a policy session with this hash. Unless the hash is
-- broken (`BreaksHash`), the property holds for the use of the handle at this position.
pub record IsUsedBySession (history : History) (accepted : AcceptedCommand) (place : ℕ)
    (hash : HashAlg) (policy : PolicyExpression) (Holds : PolicyUse → Type 0) : Type 0
  where
    pub handle : Handle
    pub used : used_in accepted.command place ≡ Some handle
    pub entry : Entry
    pub given : slice_get accepted.command.entries place ≡ Some entry
    pub session : LiveSession
    pub lives : sessions_of history entry.session ≡ Some session
    pub kind : session.kind ≡ type.Policy
    pub session_hash : session.hash ≡ hash
    pub holds : Holds (record {
      history = history;
      command = accepted;
      place = place;
      handle = handle;
      entry = entry;
      session = session;
    }) ⊎ BreaksHash hash policy session.assertions

-- ---- policies of any kind

-- If an object has no userWithAuth, only policy sessions authorize a command to use it. Each use
-- meets the object's policy, unless the hash is broken.
abbrev pub NeedsItsPolicy : History → AcceptedCommand → Type 0
NeedsItsPolicy history c =
    (place : ℕ) (public : Public) (policy : PolicyExpression) → UsesObject c place public policy
    → IsPolicyExpression public.name_alg policy
    → IsUsedBySession history c place public.name_alg policy (λ u. IsMet (IsMetBy u) policy)

-- ---- policies about PCRs

-- the policy expression that requires these concatenated values of the selected PCRs
abbrev pub by_pcrs : HashAlg → List BankSelection → (values : List ℕ) → PolicyExpression
by_pcrs hash selection values = Then Nothing (PolicyPcr selection (hash_of hash values))

-- After a history, the selected PCRs have these concatenated values, or different values with the
-- same hash.
abbrev pub HavePcrValues : History → HashAlg → List BankSelection → (values : List ℕ) → Type 0
HavePcrValues history hash selection values =
    let found : List ℕ = concat (flat_map (values_in history) selection) in
    (found ≡ values) ⊎ (found ≢ values) × (hash_of hash found ≡ hash_of hash values)

-- Suppose that an object has no userWithAuth, and its policy requires these values of PCRs. Then,
-- unless the hash is broken, the object is used only while the PCRs have these values.
abbrev pub NeedsPcrs : History → AcceptedCommand → Type 0
NeedsPcrs history c =
    (place : ℕ) (public : Public) (selection : List BankSelection) (values : List ℕ)
    → let policy : PolicyExpression = by_pcrs public.name_alg selection values in
    UsesObject c place public policy
    → IsUsedBySession history c place public.name_alg policy
    (λ u. HavePcrValues history public.name_alg selection values)

-- Suppose that an object has no userWithAuth, and its policy requires these values of PCRs and the
-- authorization value (a PIN). Then, unless the hash is broken, the object is used only while the
-- PCRs have these values, and only with the PIN.
abbrev pub NeedsPcrsAndPin : History → AcceptedCommand → Type 0
NeedsPcrsAndPin history c =
    (place : ℕ) (public : Public) (selection : List BankSelection) (values : List ℕ)
    → let policy : PolicyExpression =
    Then (by_pcrs public.name_alg selection values) PolicyAuthValue in
    UsesObject c place public policy
    → IsUsedBySession history c place public.name_alg policy
    (λ u. HavePcrValues history public.name_alg selection values × ShowsAuthValue u)

-- ---- policies that require a PIN or a recovery secret

-- the policy expression that requires either the authorization value of the used entity, or the
-- authorization value of the entity with this Name
abbrev pub by_pin_or_secret : (name reference : List ℕ) → PolicyExpression
by_pin_or_secret name reference =
    PolicyOr (Branch (Then Nothing PolicyAuthValue)
    (Branch (Then Nothing (PolicySecret name reference)) NoBranch))

-- Suppose that an object has this policy and no userWithAuth. Then, unless the hash is broken, the
-- object is used only with its authorization value, or after an accepted TPM2_PolicySecret that the
-- entity with this Name authorized.
abbrev pub NeedsPinOrSecret : History → AcceptedCommand → Type 0
NeedsPinOrSecret history c =
    (place : ℕ) (public : Public) (name reference : List ℕ)
    → let policy : PolicyExpression = by_pin_or_secret name reference in
    UsesObject c place public policy
    → IsUsedBySession history c place public.name_alg policy
    (λ u. ShowsAuthValue u ⊎ ShowsSecret history u.entry.session name reference)

-- ---- the policy of an index that is written once

-- Suppose that an NV index has no AUTHWRITE, and its policy requires that WRITTEN is clear. Then,
-- unless the hash is broken, commands write the index only while WRITTEN is clear.
abbrev pub IsWrittenOnce : History → AcceptedCommand → Type 0
IsWrittenOnce history c =
    (place : ℕ) (public : NvPublic)
    → let policy : PolicyExpression = Then Nothing (PolicyNvWritten false) in
    WritesIndex c place public policy
    → IsUsedBySession history c place public.name_alg policy
    (λ u. index_has public.attributes mark.Written ≡ false)

-- ---- policies that require a counter to have reached a number

-- Suppose that an object has no userWithAuth, and its policy requires that a counter (the NV index
-- with this Name) has reached a number. Then, unless the hash is broken, the object is used only
-- after an accepted TPM2_PolicyNV that compared the counter with the number.
abbrev pub NeedsCount : History → AcceptedCommand → Type 0
NeedsCount history c =
    (place : ℕ) (public : Public) (name number : List ℕ)
    → let policy : PolicyExpression =
    Then Nothing (PolicyNv name number 0 operation.UnsignedGreaterOrEqual) in
    UsesObject c place public policy
    → IsUsedBySession history c place public.name_alg policy (λ u.
    ComparesIndex history u.entry.session name number 0 operation.UnsignedGreaterOrEqual)
