-- What a device has accepted. An event of the history shows only these parts of the device's state:
-- the answer to the command, what everybody could read about its handles, the sensitive area that a
-- TPM2_Load loaded, and the object that a saved context contained.
use Rattle.std.specs.Prelude.{ℕ, zero, suc, List, ◌∷◌, map, Option, Some, None, Result, Ok, Err}
use Rattle.tpm_bytes.specs.Reading.{◌>>=◌}
use Rattle.tpm_types_common.specs.declared.handle.Handle.{Handle}
use Rattle.tpm_types_common.specs.declared.refused.Refused.{Refused}
use Rattle.tpm_types_command.specs.Command.{Whole}
use Rattle.tpm_commands.specs.declared.command_code.CommandCode.{CommandCode}
use Rattle.tpm_commands.specs.declared.command_code.CommandCode.TheVariants as command
use Rattle.tpm_types_object.specs.declared.sensitive.Sensitive.{Sensitive}
use Rattle.tpm_object.specs.declared.object.Object.{Object}
use Rattle.tpm_record.specs.Objects.{next_handle}
use Rattle.tpm_record.specs.Record.{Record}
use Rattle.tpm_record.specs.Tick.{after_tick}
use Rattle.tpm_auth.specs.declared.session_grant.Grant.{Grant}
use Rattle.tpm_record.specs.rows.Answer.{AnswerParts}
use Rattle.tpm_record.specs.rows.Request.{Request, first_handle}
use Rattle.tpm_actions_object.specs.Load.{parameters_in, sensitive_of}
use Rattle.tpm_actions_object.specs.Loaded.{loaded_at}
use Rattle.tpm_step.specs.step.Events.{PlainEvent, Given, Cycled, Placed}
use Rattle.tpm_step.specs.step.Step.{Accepted, acceptance_in}
use Rattle.tpm_step.specs.declared.refused_command.RefusedCommand.{RefusedCommand}
use Rattle.tpm_step.specs.history.View.{View, view_of}

-- the sensitive area that TPM2_Load finds in the private area, which the parent protects
unfoldable pub loaded_sensitive : Record → Request → Result Sensitive Refused
loaded_sensitive r q = do
  handle ← first_handle q.handles
  parent ← loaded_at r handle
  p ← parameters_in q.parameters
  sensitive_of parent p.public p.private

abbrev pub if_ok : {X E : Type 0} → Result X E → Option X
if_ok (Ok x) = Some x
if_ok (Err e) = None

abbrev pub sensitive_in : CommandCode → Record → Request → Option Sensitive
sensitive_in command.Load r q = if_ok (loaded_sensitive r q)
sensitive_in _ r q = None

-- an accepted command. The history records the command as it was sent, what each entry authorizes,
-- and the request: the decrypted parameters, the locality and the event's random bytes. It also
-- records the answer, the number of random bytes that the row drew, what everybody could read about
-- the handles before the command, and the sensitive area of a TPM2_Load
pub record AcceptedCommand : Type 0 where
  pub command : Whole
  pub grants : List (Option Grant)
  pub request : Request
  pub answer : AnswerParts
  pub views : List View
  pub sensitive : Option Sensitive

-- the history's event for a command that was accepted on this record, with these grants, this
-- request and this answer
abbrev pub command_on : Record → Whole → List (Option Grant) → Request → AnswerParts
    → AcceptedCommand
command_on device command grants request answer = record {
  command = command;
  grants = grants;
  request = request;
  answer = answer;
  views = map (view_of device) command.handles;
  sensitive = sensitive_in command.code device request;
}

-- the history's event for a command that was accepted on this record
abbrev pub command_of : Record → Accepted → AcceptedCommand
command_of r a = command_on r a.command a.grants a.request a.success.answer

-- an accepted event: a command, a power cycle, or an object that came from a saved context and got
-- this handle
pub data PastEvent : Type 0 where
  Done : (command : AcceptedCommand) → PastEvent
  PowerCycled : PastEvent
  ObjectPlaced : (handle : Handle) → (object : Object) → PastEvent

-- what a device has accepted since it was manufactured, the latest event first
abbrev pub History : Type 0
History = List PastEvent

-- the history, with this command added if it was accepted, that is, if its row reports check 0. The
-- history records neither a refused command, nor a command that returned MEMORY instead of
-- succeeding
abbrev pub with_command : Record → Result Accepted RefusedCommand → (check : ℕ)
    → History → History
with_command r (Ok a) zero history = Done (command_of r a) ∷ history
with_command r (Ok a) (suc check) history = history
with_command r (Err e) check history = history

-- the history with one more placed object, which got this handle. If all slots were taken, the
-- handle is None, and nothing is recorded
abbrev pub with_placed : Option Handle → Object → History → History
with_placed (Some handle) object history = ObjectPlaced handle object ∷ history
with_placed None object history = history

-- the history extended by one event, which was executed on this record; `check` is the check in the
-- event's row
abbrev pub extended_history : Record → PlainEvent → (check : ℕ) → History → History
extended_history r (Given buffer locality elapsed random) check history =
    let t = after_tick r elapsed in
    with_command t (acceptance_in t buffer locality random) check history
extended_history r Cycled check history = PowerCycled ∷ history
extended_history r (Placed object) check history =
    with_placed (next_handle r.objects) object history
