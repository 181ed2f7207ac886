-- The commands that make an assertion on a session's policy share one row. This file defines that
-- row, and the session and the assertion that each of these commands uses. TPM 2.0 Library, Part 3,
-- section 23.
use Rattle.std.specs.Prelude.{◌≡◌, Bool, true, false, List, [], Option, Result, Ok, Err, ok_or}
use Rattle.tpm_bytes.specs.Reading.{◌>>=◌}
use Rattle.tpm_policy.specs.Assertion.{Assertion, asserted_policy}
use Rattle.tpm_policy.specs.State.{Policy}
use Rattle.tpm_types_common.specs.SessionType.{is_trial}
use Rattle.tpm_session.specs.declared.session.Session.{Session}
use Rattle.tpm_session.specs.Sessions.{session_at, with_session_policy}
use Rattle.tpm_commands.specs.declared.command_code.CommandCode.{CommandCode}
use Rattle.tpm_commands.specs.declared.command_code.CommandCode.TheVariants as command
use Rattle.tpm_types_common.specs.declared.handle.Handle.{Handle}
use Rattle.tpm_record.specs.Record.{Record}
use Rattle.tpm_types_common.specs.declared.refused.Refused.{Refused}
use Rattle.tpm_record.specs.rows.Answer.{Body, Plain, answer_of}
use Rattle.tpm_record.specs.rows.Refusals.{fault_refusal, handle_refusal, or_refusal}
use Rattle.tpm_record.specs.rows.Request.{Request, first_handle, second_handle, third_handle}
use Rattle.tpm_record.specs.rows.Rows.{Success}
use Rattle.tpm_actions_policy.specs.PolicyAuthValue.{auth_value_assertion}
use Rattle.tpm_actions_policy.specs.PolicyCommandCode.{command_code_assertion}
use Rattle.tpm_actions_policy.specs.PolicyCpHash.{cp_hash_assertion}
use Rattle.tpm_actions_policy.specs.PolicyNvWritten.{nv_written_assertion}
use Rattle.tpm_actions_policy.specs.PolicyLocality.{locality_assertion}
use Rattle.tpm_actions_policy.specs.PolicyNv.{nv_assertion}
use Rattle.tpm_actions_policy.specs.PolicyOr.{or_assertion}
use Rattle.tpm_actions_policy.specs.PolicyPassword.{password_assertion}
use Rattle.tpm_actions_policy.specs.PolicyPcr.{pcr_assertion}
use Rattle.tpm_actions_policy.specs.PolicySecret.{no_ticket, secret_assertion}

-- whether a command makes an assertion
abbrev pub asserts : CommandCode → Bool
asserts command.PolicyPcr = true
asserts command.PolicyOr = true
asserts command.PolicyAuthValue = true
asserts command.PolicyPassword = true
asserts command.PolicyCommandCode = true
asserts command.PolicyCpHash = true
asserts command.PolicyNvWritten = true
asserts command.PolicyLocality = true
asserts command.PolicySecret = true
asserts command.PolicyNv = true
asserts _ = false

-- the handle of the session on which a command makes its assertion. It follows the handles of the
-- authorizing entity and of the compared index, if the command has such handles
abbrev pub session_handle : CommandCode → List Handle → Result Handle Refused
session_handle command.PolicySecret handles = second_handle handles
session_handle command.PolicyNv handles = third_handle handles
session_handle _ handles = first_handle handles

-- the assertion that a command makes on a session; a command that makes no assertion has a
-- different row
abbrev pub assertion_in : CommandCode
    → Record → Request → Result (Session → Assertion) Refused
assertion_in command.PolicyPcr r q = pcr_assertion r q
assertion_in command.PolicyOr r q = or_assertion q.parameters
assertion_in command.PolicyAuthValue r q = auth_value_assertion q.parameters
assertion_in command.PolicyPassword r q = password_assertion q.parameters
assertion_in command.PolicyCommandCode r q = command_code_assertion r q.parameters
assertion_in command.PolicyCpHash r q = cp_hash_assertion q.parameters
assertion_in command.PolicyNvWritten r q = nv_written_assertion q.parameters
assertion_in command.PolicyLocality r q = locality_assertion q.parameters
assertion_in command.PolicySecret r q = secret_assertion r q
assertion_in command.PolicyNv r q = nv_assertion r q
assertion_in _ r q = Err handle_refusal

-- the response parameters of a command that makes an assertion
abbrev pub body_of : CommandCode → Body
body_of command.PolicySecret = no_ticket
body_of _ = Plain []

-- the session with this handle; the general checks accept only a policy or trial session here
abbrev pub policy_session : List (Option Session) → Handle → Result Session Refused
policy_session sessions handle = ok_or (session_at sessions handle) handle_refusal

-- a session's policy after an assertion. If the assertion is refused, the command is refused by the
-- same check
abbrev pub policy_after : (Session → Assertion) → Session → Result Policy Refused
policy_after assertion s =
    or_refusal fault_refusal (asserted_policy s.hash (is_trial s.kind) (assertion s) s.policy)

-- the sessions after an assertion on the session with this handle; only this session's policy
-- changes
abbrev pub with_assertion : List (Option Session) → Handle → (Session → Assertion)
    → Result (List (Option Session)) Refused
with_assertion sessions handle assertion = do
  s ← policy_session sessions handle
  policy ← policy_after assertion s
  Ok (with_session_policy sessions handle policy)

-- the row of a command that makes an assertion
unfoldable pub assertion_row : CommandCode → Record → Request → Result Success Refused
assertion_row code r q = do
  handle ← session_handle code q.handles
  assertion ← assertion_in code r q
  sessions ← with_assertion r.sessions handle assertion
  Ok (record { answer = answer_of (body_of code); after = record r { sessions = sessions } })

-- The assertion was made, and changed only the sessions; or it was refused, and changed nothing.
abbrev pub IsMade : Result (List (Option Session)) Refused
    → Record → Result (Unit {0}) Refused → Record → Type 0
IsMade change old (Ok made) new =
    (change ≡ Ok new.sessions) × (new ≡ record old { sessions = new.sessions })
IsMade change old (Err e) new = (change ≡ Err e) × (new ≡ old)
