-- The accepted command that made an assertion on a policy session, and how that command was
-- authorized. TPM 2.0 Library, Part 1, section 19.7 (enhanced authorization), and Part 3, sections
-- 23.4 (TPM2_PolicySecret) and 23.9 (TPM2_PolicyNV).
use Rattle.std.specs.Prelude.{◌≡◌, ℕ, List, [], ◌∷◌, ◌++◌, Some, Ok, slice_get}
use Rattle.tpm_policy.specs.Assertion as assertion
use Rattle.tpm_policy.specs.Assertion.{Assertion, NvParts, SecretParts}
use Rattle.tpm_types_common.specs.declared.handle.Handle.{Handle}
use Rattle.tpm_types_common.specs.declared.operation.Operation.{Operation}
use Rattle.tpm_types_command.specs.AuthEntry.{Entry}
use Rattle.tpm_commands.specs.declared.command_code.CommandCode.TheVariants as command
use Rattle.tpm_policy_meaning.specs.Asserted.{IsAmong}
use Rattle.tpm_actions_policy.specs.Assertions.{session_handle}
use Rattle.tpm_step.specs.uses.EntryHmacs.{used_in}
use Rattle.tpm_step.specs.uses.Grounds.{Ground}
use Rattle.tpm_step.specs.history.History.{AcceptedCommand, Done, History}
use Rattle.tpm_step.specs.history.Policies.{assertion_by}
use Rattle.tpm_step.specs.history.Sessions.{LiveSession, sessions_of}
use Rattle.tpm_step.specs.history.View.{name_in}

-- ---- the assertions of a session

-- After this history, the session at this handle has this assertion.
abbrev pub Stands : Assertion → Handle → History → Type 0
Stands one handle history =
    (s : LiveSession) × (sessions_of history handle ≡ Some s) × IsAmong one s.assertions

-- After each of these events, the latest first, the session still has this assertion. Therefore
-- none of the events starts, restarts, ends or uses the session, since that would clear its
-- assertions.
abbrev pub StandsThrough : Assertion → Handle → (events before : History) → Type 0
StandsThrough one handle [] before = Unit {0}
StandsThrough one handle (event ∷ events) before =
    Stands one handle (event ∷ events ++ before) × StandsThrough one handle events before

-- An accepted command made this assertion on the session at this handle, and the session has had
-- it since then.
pub record IsAssertedBy (history : History) (handle : Handle) (one : Assertion) : Type 0 where
  pub command : AcceptedCommand
  pub before : History
  pub since : History
  pub past : history ≡ since ++ Done command ∷ before
  pub session : LiveSession
  pub lives : sessions_of before handle ≡ Some session
  pub names : session_handle command.command.code command.request.handles ≡ Ok handle
  pub asserts : assertion_by command.command.code command before session.hash session.nonce_tpm
      ≡ Ok one
  pub stands : StandsThrough one handle (since ++ Done command ∷ []) before

-- The first entry of a command authorized the command's first handle, by a password, an HMAC or a
-- policy.
pub record IsFirstAuthorized (history : History) (c : AcceptedCommand) : Type 0 where
  pub handle : Handle
  pub used : used_in c.command 0 ≡ Some handle
  pub entry : Entry
  pub given : slice_get c.command.entries 0 ≡ Some entry
  pub ground : Ground history c 0 entry

-- ---- TPM2_PolicySecret and TPM2_PolicyNV

-- TPM2_PolicySecret was accepted with this policyRef, and the entity with this Name authorized it.
-- The session at this handle has had the assertion since then.
pub record ShowsSecret (history : History) (handle : Handle) (name reference : List ℕ) : Type 0
  where
    pub parts : SecretParts
    pub asserted : IsAssertedBy history handle (assertion.Secret parts)
    pub is_secret : asserted.command.command.code ≡ command.PolicySecret
    pub entity : name_in asserted.command.views 0 ≡ name
    pub authorized : IsFirstAuthorized asserted.before asserted.command
    pub for_reference : parts.reference ≡ reference

-- TPM2_PolicyNV was accepted for the NV index with this Name, with this operand, offset and
-- operation. The command is refused unless the index's bytes, from the offset on, compare with the
-- operand as the operation requires. The entity that authHandle names authorized the read. The
-- session at this handle has had the assertion since then.
pub record ComparesIndex (history : History) (handle : Handle) (name operand : List ℕ) (offset : ℕ)
    (operation : Operation) : Type 0
  where
    pub parts : NvParts
    pub asserted : IsAssertedBy history handle (assertion.Nv parts)
    pub is_nv : asserted.command.command.code ≡ command.PolicyNv
    pub index : name_in asserted.command.views 1 ≡ name
    pub authorized : IsFirstAuthorized asserted.before asserted.command
    pub with_operand : parts.operand ≡ operand
    pub from_offset : parts.offset ≡ offset
    pub by_operation : parts.operation ≡ operation
