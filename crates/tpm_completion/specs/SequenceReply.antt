-- The completing layer's answers to commands on sequence objects, except those for which it sends a
-- command to the device (Sending). TPM 2.0 Library, Part 3, sections 17 (hash, HMAC and event
-- sequences) and 28.4 (TPM2_FlushContext).
use Rattle.std.specs.Prelude.{◌≡◌, ℕ, ◌==◌, ◌||◌, not, Bool, true, false, List, length, if◌then◌else◌, Option, Some, None, Result, Ok, Err}
use Rattle.std.specs.Int.{w32}
use Rattle.tpm_bytes.specs.Reading.{number_at}
use Rattle.tpm_bytes.specs.declared.cursor.Short.{Short}
use Rattle.tpm_types_common.specs.Handle.{numbered_handle}
use Rattle.tpm_types_common.specs.Rc.{rc_number}
use Rattle.tpm_types_common.specs.declared.refused.Refused.{Refused}
use Rattle.tpm_record.specs.Record.{Record}
use Rattle.tpm_completion.specs.Answer.{is_refusal}
use Rattle.tpm_completion.specs.Command.{Command, authorized_command, plain_command}
use Rattle.tpm_completion.specs.Saving.{Reply, refusal_reply}
use Rattle.tpm_completion.specs.Sending.{sent_by}
use Rattle.tpm_completion.specs.SequenceRows.{complete_row, hash_start_row, removal_reply, update_row}
use Rattle.tpm_completion.specs.Sequences.{slot_of}
use Rattle.tpm_completion.specs.declared.completion.Completion.{Completion}
use Rattle.tpm_completion.specs.declared.sending.Sent.{Sent}

-- Either the code answered with the reply and returned true; or there is no reply, and the code
-- returned false and changed nothing.
abbrev pub RepliesIf : Option Reply → (old : Completion) → (response : List ℕ) → (answered : Bool)
    → (new : Completion) → (text : List ℕ) → Type 0
RepliesIf (Some reply) old response true new text = record { response = text; after = new } ≡ reply
RepliesIf (Some reply) old response false new text = ⊥
RepliesIf None old response true new text = ⊥
RepliesIf None old response false new text = (new ≡ old) × (text ≡ response)

-- the reply with the result of a command's row, which is a reply or a refusal
abbrev pub row_reply : Completion → Result Reply Refused → Reply
row_reply c (Ok reply) = reply
row_reply c (Err e) = refusal_reply c (rc_number e.rc)

-- the refusal of a command for which the layer would otherwise send a command to the device; the
-- other answer if the layer sends no command for it
abbrev pub unsent_reply : Completion → (other : Option Reply) → Option (Result Sent Refused)
    → Option Reply
unsent_reply c other (Some (Ok sent)) = None
unsent_reply c other (Some (Err e)) = Some (refusal_reply c (rc_number e.rc))
unsent_reply c other None = other

-- the answer to SequenceUpdate (15C) or SequenceComplete (13E) with a password
abbrev pub password_reply : Record → Completion → Command → Option Reply
password_reply r c command =
    if command.code == 0x15c then Some (row_reply c (update_row c command.parameters))
    else (if command.code == 0x13e then
    Some (row_reply c (complete_row r.fixed.hierarchies c command.parameters))
    else None)

-- the answer to a command with sessions: the refusal of a command for which the layer would
-- otherwise send a command to the device, or the answer to a command with a password
abbrev pub authorized_reply : Record → Completion → Command → Option Reply
authorized_reply r c command =
    unsent_reply c (password_reply r c command) (sent_by r c command.code command.parameters)

-- whether a command with this code needs an authorization area
abbrev pub needs_entry : (code : ℕ) → Bool
needs_entry code =
    (code == 0x15b) || ((code == 0x15c) || ((code == 0x13e) || (code == 0x185)))

-- the answer to a command without sessions: HashSequenceStart (186), or AUTH_MISSING (125) for a
-- command that needs an authorization area
abbrev pub bare_reply : Completion → Command → Option Reply
bare_reply c command =
    if command.code == 0x186 then Some (row_reply c (hash_start_row c command.parameters))
    else (if needs_entry command.code then Some (refusal_reply c 0x125)
    else None)

-- the answer to a buffer that the device refused with COMMAND_CODE; `plain` is the buffer parsed as
-- a command without sessions, `authorized` as a command with sessions
abbrev pub asked_reply : Record → Completion → (plain authorized : Result Command Short)
    → Option Reply
asked_reply r c (Ok command) authorized = bare_reply c command
asked_reply r c (Err e) (Ok command) = authorized_reply r c command
asked_reply r c (Err e) (Err f) = None

-- the answer to TPM2_FlushContext, whose only parameter is a handle. If the handle names a sequence
-- object, the command removes the object and succeeds
abbrev pub flush_handle : Completion → Result (ℕ × List ℕ) Short → Option Reply
flush_handle c (Ok handle) =
    if length handle.1 == 0 then removal_reply c (slot_of c (numbered_handle handle.0)) else None
flush_handle c (Err e) = None

abbrev pub flush_reply : Completion → Result Command Short → Option Reply
flush_reply c (Ok command) =
    if command.code == 0x165 then flush_handle c (number_at w32 command.parameters) else None
flush_reply c (Err e) = None

-- the layer's answer to a command on sequence objects, if it has one. The device refused the
-- command with COMMAND_CODE (143) or, if it is TPM2_FlushContext, with HANDLE for parameter 1 (1CB)
unfoldable pub sequence_reply : Record → Completion → (buffer response : List ℕ) → Option Reply
sequence_reply r c buffer response =
    if not r.fixed.started then None
    else (if is_refusal 0x143 response then
    asked_reply r c (plain_command buffer) (authorized_command buffer)
    else (if is_refusal 0x1cb response then flush_reply c (plain_command buffer)
    else None))
