-- TPM2_FlushContext. TPM 2.0 Library, Part 3, section 28.4.
use Rattle.tpm_types_common.specs.declared.action_check.ActionCheck.TheVariants as action
use Rattle.std.specs.Prelude.{◌||◌, not, Bool, true, false, ℕ, List, is_some, Result, Ok}
use Rattle.std.specs.Int.{w32}
use Rattle.tpm_bytes.specs.Reading.{◌>>=◌, number_at, or_fault, refused_if}
use Rattle.tpm_session.specs.Sessions.{session_at, slots_without_session}
use Rattle.tpm_types_common.specs.declared.handle.Handle.{Handle}
use Rattle.tpm_types_common.specs.declared.rc.ResponseCode.TheVariants as code
use Rattle.tpm_types_common.specs.Handle.{is_session, is_transient, numbered_handle}
use Rattle.tpm_types_common.specs.Rc.{plain}
use Rattle.tpm_record.specs.Objects.{object_at, without_object}
use Rattle.tpm_record.specs.Record.{Record}
use Rattle.tpm_types_common.specs.declared.refused.Refused.{Refused}
use Rattle.tpm_record.specs.rows.Request.{Request}
use Rattle.tpm_record.specs.rows.Answer.{nothing}
use Rattle.tpm_record.specs.rows.Refusals.{parameter_refusal}
use Rattle.tpm_record.specs.rows.Rows.{Success, only}

-- whether a handle has one of the types that can be flushed: a session (02, 03) or a transient
-- object (80)
abbrev pub can_be_flushed : Handle → Bool
can_be_flushed handle = is_session handle || is_transient handle

-- whether there is a session or a transient object with this handle
abbrev pub is_loaded : Record → Handle → Bool
is_loaded r handle = is_some (session_at r.sessions handle) || is_some (object_at r.objects handle)

-- the record without the session (if `of_session`) or transient object with this handle
abbrev pub flushed_from : Record → Handle → (of_session : Bool) → Record
flushed_from r handle true = record r { sessions = slots_without_session r.sessions handle }
flushed_from r handle false = record r { objects = without_object r.objects handle }

-- the parameter flushHandle
abbrev pub flushed_handle : List ℕ → Result Handle Refused
flushed_handle text = do
  number ← only (or_fault (number_at w32 text) (plain code.Insufficient))
  Ok (numbered_handle number)

-- the row of TPM2_FlushContext. Parameter: flushHandle. Refused by check A1 if flushHandle is not
-- the handle of a session or a transient object; by A2 if no session or object with this handle is
-- loaded
unfoldable pub flush_context_row : Record → Request → Result Success Refused
flush_context_row r q = do
  handle ← flushed_handle q.parameters
  a1 ← refused_if (not (can_be_flushed handle))
      (parameter_refusal action.First 1 code.Value)
  a2 ← refused_if (not (is_loaded r handle))
      (parameter_refusal action.Second 1 code.Handle)
  Ok (record { answer = nothing; after = flushed_from r handle (is_session handle) })
