-- What an authPolicy requires when a policy session authorizes a command to use the entity. TPM 2.0
-- Library, Part 1, section 19.7 (enhanced authorization), and Part 3, section 23: the section of
-- each assertion says what a use must meet.
use Rattle.std.specs.Prelude.{◌≡◌, ◌⊎◌, ℕ, List, [], ◌∷◌, Some, slice_get}
use Rattle.std.specs.Int.{bit_at}
use Rattle.tpm_mac.specs.declared.algorithm.HashAlg.{HashAlg}
use Rattle.tpm_types_common.specs.declared.handle.Handle.{Handle}
use Rattle.tpm_types_common.specs.declared.pcr_selection.BankSelection.{BankSelection}
use Rattle.tpm_types_command.specs.AuthEntry.{Entry}
use Rattle.tpm_commands.specs.CommandCode.{code_number}
use Rattle.tpm_policy_meaning.specs.Expression.{PolicyAssertion, PolicyPcr, PolicyAuthValue}
use Rattle.tpm_policy_meaning.specs.Expression.{PolicyPassword, PolicyCommandCode, PolicyLocality}
use Rattle.tpm_policy_meaning.specs.Expression.{PolicyCpHash, PolicyNvWritten, PolicySecret}
use Rattle.tpm_policy_meaning.specs.Expression.{PolicyNv, PolicyExpression}
use Rattle.tpm_policy_meaning.specs.Meaning.{BreaksHash, IsMet, IsPolicyExpression}
use Rattle.tpm_policy_meaning.specs.PolicyDigest.{policy_digest}
use Rattle.tpm_step.specs.uses.AssertedBy.{ComparesIndex, ShowsSecret}
use Rattle.tpm_step.specs.history.AuthValues.{auth_of}
use Rattle.tpm_step.specs.uses.EntryHmacs.{HasHmac, HasPassword, cp_hash_in, used_in, value_in_key}
use Rattle.tpm_step.specs.uses.Grounds.{ByHmac, ByPassword, ByPolicy, Ground, policy_at, written_at}
use Rattle.tpm_step.specs.history.History.{AcceptedCommand, Done, History, ObjectPlaced, PowerCycled}
use Rattle.tpm_step.specs.history.Pcrs.{digest_in}
use Rattle.tpm_step.specs.uses.QuietPcrs.{AreQuietSince}
use Rattle.tpm_step.specs.history.Sessions.{LiveSession}

-- a command's use of an entity, authorized by a policy session: the history before it; the command;
-- the used handle, and its position among the command's handles, counted from 0; the entry at the
-- same position; and the entry's session
pub record PolicyUse : Type 0 where
  pub history : History
  pub command : AcceptedCommand
  pub place : ℕ
  pub handle : Handle
  pub entry : Entry
  pub session : LiveSession

-- ---- the conditions that a use meets

-- The selected PCRs have this digest now, and no PCR has been written since the session's first
-- TPM2_PolicyPCR (Part 3, section 23.7).
pub record HasPcrsNow (u : PolicyUse) (selection : List BankSelection) (digest : List ℕ) : Type 0
  where
    pub quiet : AreQuietSince u.entry.session u.history
    pub now : digest_in u.history u.session.hash selection ≡ digest

-- The entry contains the authorization value of the used entity, as its password or in the key of
-- its HMAC (Part 3, sections 23.17 and 23.18).
abbrev pub ShowsAuthValue : PolicyUse → Type 0
ShowsAuthValue u =
    HasPassword u.history u.command u.place u.entry
    ⊎ HasHmac u.history u.command u.place u.entry u.session
    × (value_in_key u.history u.command u.place u.session (Some u.handle)
    ≡ auth_of u.history u.handle)

-- A use of an entity meets this assertion of the entity's policy. For TPM2_PolicyPCR, the PCRs have
-- the required digest now. For TPM2_PolicyAuthValue and TPM2_PolicyPassword, the entry contains the
-- authorization value. The command code, the cpHash, the locality and the written state that the
-- assertion requires are those of the use (Part 3, sections 23.11, 23.13, 23.8 and 23.20).
-- TPM2_PolicySecret and TPM2_PolicyNV were accepted for the session before the use.
abbrev pub IsMetBy : PolicyUse → PolicyAssertion → Type 0
IsMetBy u (PolicyPcr selection digest) = HasPcrsNow u selection digest
IsMetBy u PolicyAuthValue = ShowsAuthValue u
IsMetBy u PolicyPassword = ShowsAuthValue u
IsMetBy u (PolicyCommandCode number) = code_number u.command.command.code ≡ number
IsMetBy u (PolicyLocality localities) = bit_at localities u.command.request.locality ≡ 1
IsMetBy u (PolicyCpHash cp_hash) = cp_hash_in u.command u.session.hash ≡ cp_hash
IsMetBy u (PolicyNvWritten is_written) = written_at u.command u.place ≡ Some is_written
IsMetBy u (PolicySecret name reference) =
    ShowsSecret u.history u.entry.session name reference
IsMetBy u (PolicyNv name operand offset operation) =
    ComparesIndex u.history u.entry.session name operand offset operation

-- ---- the policies that each use meets

-- The entity that a command's handle at this position names has this policy: its nameAlg is the
-- hash, and its authPolicy is the policy's digest.
pub record HasAuthPolicy (c : AcceptedCommand) (place : ℕ) (hash : HashAlg)
    (policy : PolicyExpression) : Type 0
  where
    pub is_policy : IsPolicyExpression hash policy
    pub auth_policy : policy_at c place
        ≡ Some (record { hash = hash; digest = policy_digest hash policy })

-- Suppose that a policy session authorizes a command to use an entity. Then, unless the hash is
-- broken (`BreaksHash`), the use meets every policy whose digest is the entity's authPolicy, along
-- one branch at each TPM2_PolicyOR.
abbrev pub MeetsPolicies : (history : History) (c : AcceptedCommand) (place : ℕ) → Handle
    → (e : Entry) → Ground history c place e → Type 0
MeetsPolicies history c place handle e (ByPassword names takes has) = Unit {0}
MeetsPolicies history c place handle e (ByHmac s lives kind takes has) = Unit {0}
MeetsPolicies history c place handle e (ByPolicy s lives kind meets has) =
    let u : PolicyUse = record {
      history = history;
      command = c;
      place = place;
      handle = handle;
      entry = e;
      session = s;
    } in
    (hash : HashAlg) (policy : PolicyExpression) → HasAuthPolicy c place hash policy
    → IsMet (IsMetBy u) policy ⊎ BreaksHash hash policy s.assertions

-- For each handle that needs authorization, the entry at the same position authorizes it by a
-- password, an HMAC or a policy. If a policy session authorizes it, the use meets every policy of
-- the entity that the handle names (`MeetsPolicies`).
abbrev pub UsesMeetPolicies : History → AcceptedCommand → Type 0
UsesMeetPolicies history c =
    (place : ℕ) (handle : Handle) → used_in c.command place ≡ Some handle
    → (e : Entry) × (slice_get c.command.entries place ≡ Some e)
    × (ground : Ground history c place e) × MeetsPolicies history c place handle e ground

-- In each command of a history, each handle that needs authorization was authorized, given the
-- history before the command. Each use by a policy session met the policies of the used entity.
abbrev pub AllMeetPolicies : History → Type 0
AllMeetPolicies [] = Unit {0}
AllMeetPolicies (Done c ∷ history) = UsesMeetPolicies history c × AllMeetPolicies history
AllMeetPolicies (PowerCycled ∷ history) = AllMeetPolicies history
AllMeetPolicies (ObjectPlaced at object ∷ history) = AllMeetPolicies history
