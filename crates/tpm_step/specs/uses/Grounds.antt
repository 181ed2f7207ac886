-- How each handle that a command uses is authorized, given the history before the command. TPM 2.0
-- Library, Part 1, section 19 (authorizations and policies), and Part 3, section 5.6 (authorization
-- checks).
use Rattle.std.specs.Prelude.{◌≡◌, ◌≢◌, ℕ, ◌&&◌, Bool, true, false, IfSome, [], ◌∷◌, is_some, Option, Some, None, option_and_then, slice_get}
use Rattle.std.specs.Int.{bit_at}
use Rattle.std.specs.Option.{option_map_or}
use Rattle.tpm_policy.specs.Use.{EntityParts}
use Rattle.tpm_types_common.specs.Handle.{session_kind}
use Rattle.tpm_types_common.specs.declared.handle.Handle.{Handle}
use Rattle.tpm_types_common.specs.declared.handle.SessionKind.TheVariants as kind
use Rattle.tpm_types_common.specs.declared.nv_use.NvUse.{NvUse}
use Rattle.tpm_types_common.specs.declared.role.Role.{Role}
use Rattle.tpm_types_common.specs.declared.role.Role.TheVariants as role
use Rattle.tpm_types_common.specs.declared.session_type.SessionType.TheVariants as type
use Rattle.tpm_types_command.specs.AuthEntry.{Entry}
use Rattle.tpm_commands.specs.CommandCode.{code_number, nv_use_at, role_at}
use Rattle.tpm_record.specs.declared.entity.Means.{Means}
use Rattle.tpm_record.specs.declared.entity.Means.TheVariants as means
use Rattle.tpm_auth.specs.SessionGrant.{is_password_demand}
use Rattle.tpm_step.specs.uses.EntryHmacs.{HasHmac, HasPassword, cp_hash_in, used_in}
use Rattle.tpm_step.specs.history.History.{AcceptedCommand, Done, History, ObjectPlaced, PowerCycled}
use Rattle.tpm_step.specs.uses.QuietPcrs.{HoldsPcrs, asserts_pcrs}
use Rattle.tpm_step.specs.history.Sessions.{LiveSession, policy_in, sessions_of}
use Rattle.tpm_step.specs.history.View.{View}
use Rattle.tpm_step.specs.history.Views.{is_there, view_policy, view_takes, view_written}

-- whether the viewed entity exists, and accepts this means of authorization for a command that uses
-- it in this way
abbrev pub allows : Means → NvUse → View → Bool
allows means nv_use view = is_there view && view_takes means nv_use view

-- whether the entity that the handle at this position names exists, and accepts this means of
-- authorization. Positions count from 0; no supported command has a second handle that needs
-- authorization
abbrev pub allows_in : Means → AcceptedCommand → ℕ → Bool
allows_in means c place =
    option_map_or (allows means (nv_use_at c.command.code place)) (slice_get c.views place) false

-- ---- the policy of an entity that a command uses

-- the nameAlg and the authPolicy of the entity whose handle is at this position, if this entity has
-- a policy
abbrev pub policy_at : AcceptedCommand → ℕ → Option EntityParts
policy_at c place = option_and_then view_policy (slice_get c.views place)

-- A session meets the authPolicy of this entity: the session's hash is the entity's nameAlg, and
-- its policy digest is the authPolicy, which is not empty.
abbrev pub IsPolicyOf : LiveSession → Option EntityParts → Type 0
IsPolicyOf s None = ⊥
IsPolicyOf s (Some entity) =
    (entity.hash ≡ s.hash) × ((policy_in s).digest ≡ entity.digest) × (entity.digest ≢ [])

-- whether the NV index whose handle is at this position has WRITTEN set; None for every other
-- entity
abbrev pub written_at : AcceptedCommand → ℕ → Option Bool
written_at c place = option_and_then view_written (slice_get c.views place)

-- If the role of a handle is ADMIN, the policy contains a command code.
abbrev pub NamesCommand : Role → Option ℕ → Type 0
NamesCommand role.User number = Unit {0}
NamesCommand role.Admin number = is_some number ≡ true

-- A policy session may authorize the use of the entity that the command's handle at this position
-- names. The entity accepts policies, and the session meets its authPolicy. Since the first
-- TPM2_PolicyPCR, no PCR has been written and no TPM2_Clear has been accepted; therefore every
-- assertion about PCRs still holds. If the policy recorded a command code, it is this command's
-- code; the role ADMIN requires a recorded code. A recorded cpHash is the cpHash of this command,
-- and a recorded written state is the written state of this NV index. The command's locality is
-- allowed.
pub record MeetsPolicy (history : History) (accepted : AcceptedCommand) (place : ℕ) (entry : Entry)
    (session : LiveSession) : Type 0 where
  pub allowed : allows_in means.Policy accepted place ≡ true
  pub policy : IsPolicyOf session (policy_at accepted place)
  pub pcrs : asserts_pcrs session ≡ true → HoldsPcrs entry.session history session
  pub command : IfSome (policy_in session).command
      (λ number. number ≡ code_number accepted.command.code)
  pub named : NamesCommand (role_at accepted.command.code place) (policy_in session).command
  pub cp_hash : IfSome (policy_in session).cp_hash (λ hash. hash ≡ cp_hash_in accepted session.hash)
  pub written : IfSome (policy_in session).nv_written
      (λ is_written. written_at accepted place ≡ Some is_written)
  pub locality : bit_at (policy_in session).localities accepted.request.locality ≡ 1

-- If the policy requires a password (true), the entry contains the password, and otherwise the
-- right HMAC.
abbrev pub HasDemanded : Bool → History → AcceptedCommand → ℕ → Entry → LiveSession → Type 0
HasDemanded true history c place e s = HasPassword history c place e
HasDemanded false history c place e s = HasHmac history c place e s

-- ---- the three ways to authorize a handle

-- The entry authorizes the handle at the same position: by a password; by its HMAC in an HMAC
-- session; or by a policy session, which is not a trial session.
pub data Ground (history : History) (c : AcceptedCommand) (place : ℕ) (e : Entry) : Type 0 where
  ByPassword : session_kind e.session ≡ kind.Password → allows_in means.AuthValue c place ≡ true
      → HasPassword history c place e → Ground history c place e
  ByHmac : (s : LiveSession) → sessions_of history e.session ≡ Some s → s.kind ≡ type.Hmac
      → allows_in means.AuthValue c place ≡ true → HasHmac history c place e s
      → Ground history c place e
  ByPolicy : (s : LiveSession) → sessions_of history e.session ≡ Some s → s.kind ≡ type.Policy
      → MeetsPolicy history c place e s
      → HasDemanded (is_password_demand (policy_in s).demand) history c place e s
      → Ground history c place e

-- For each handle that needs authorization, the entry at the same position authorizes it by a
-- password, an HMAC or a policy.
abbrev pub UsesHaveGrounds : History → AcceptedCommand → Type 0
UsesHaveGrounds history c =
    (place : ℕ) (handle : Handle) → used_in c.command place ≡ Some handle
    → (e : Entry) × (slice_get c.command.entries place ≡ Some e) × Ground history c place e

-- In each command of a history, each handle that needs authorization was authorized, given the
-- history before the command.
abbrev pub AllHaveGrounds : History → Type 0
AllHaveGrounds [] = Unit {0}
AllHaveGrounds (Done c ∷ history) = UsesHaveGrounds history c × AllHaveGrounds history
AllHaveGrounds (PowerCycled ∷ history) = AllHaveGrounds history
AllHaveGrounds (ObjectPlaced at object ∷ history) = AllHaveGrounds history
