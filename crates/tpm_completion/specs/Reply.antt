-- The completing layer's answers after the device has responded. The file Loading defines the
-- answer to TPM2_ContextLoad of an object's context, and the files SequenceReply and Sending define
-- the answers to commands on sequence objects. TPM 2.0 Library, Part 3, sections 10.3
-- (TPM2_IncrementalSelfTest), 10.4 (TPM2_GetTestResult), 15.4 (TPM2_Hash), 16.2 (TPM2_StirRandom),
-- 28.2 (TPM2_ContextSave), 28.3 (TPM2_ContextLoad), 30.2 (TPM2_GetCapability) and 30.3
-- (TPM2_TestParms).
use Rattle.std.specs.Prelude.{ℕ, ◌==◌, ◌&&◌, not, Bool, false, List, [], length, if◌then◌else◌, Option, Some, None, Result, Ok, Err}
use Rattle.std.specs.Int.{w32}
use Rattle.std.specs.Str.{bytes_eq}
use Rattle.tpm_bytes.specs.Reading.{number_at, sized_at}
use Rattle.tpm_bytes.specs.declared.cursor.Short.{Short}
use Rattle.tpm_bytes.specs.declared.cursor.SizedFault.{SizedFault}
use Rattle.tpm_types_common.specs.Handle.{numbered_handle}
use Rattle.tpm_types_common.specs.Rc.{rc_number}
use Rattle.tpm_types_common.specs.declared.refused.Refused.{Refused}
use Rattle.tpm_record.specs.Record.{Record}
use Rattle.tpm_step.specs.step.Answer.{framed_message}
use Rattle.tpm_completion.specs.Answer.{is_refusal, refusal, success}
use Rattle.tpm_completion.specs.Capability.{asked_at, capability_told}
use Rattle.tpm_completion.specs.Command.{Command, plain_command, tag_of}
use Rattle.tpm_completion.specs.Context.{names_sequence, names_session}
use Rattle.tpm_completion.specs.Hashing.{hash_row}
use Rattle.tpm_completion.specs.Saving.{Reply, refusal_reply, save_reply, session_load_reply}
use Rattle.tpm_completion.specs.SequenceLoading.{sequence_loaded}
use Rattle.tpm_completion.specs.SequenceReply.{sequence_reply}
use Rattle.tpm_completion.specs.Testing.{incremental_row, test_parms_row, test_result_row}
use Rattle.tpm_completion.specs.declared.capability.Asked.{Asked}
use Rattle.tpm_completion.specs.declared.completion.Completion.{Completion}

-- the reply that leaves the device's response unchanged
abbrev pub stands : Completion → List ℕ → Reply
stands c response = record { response = response; after = c }

-- whether the parameters of TPM2_StirRandom are valid: a buffer of at most 128 bytes, which are
-- ignored, with no bytes after it
abbrev pub is_stirred : Result (List ℕ × List ℕ) SizedFault → Bool
is_stirred (Ok bytes) = length bytes.1 == 0
is_stirred (Err e) = false

abbrev pub stir_reply : Completion → List ℕ → (response : List ℕ) → Reply
stir_reply c parameters response =
    if is_stirred (sized_at 128 parameters) then record { response = success []; after = c }
    else stands c response

-- the answer to TPM2_ContextSave, whose only parameter is a handle
abbrev pub save_asked : Record → Completion → (response : List ℕ) → Result (ℕ × List ℕ) Short
    → Reply
save_asked r c response (Ok handle) =
    if length handle.1 == 0 then save_reply r c (numbered_handle handle.0) else stands c response
save_asked r c response (Err e) = stands c response

-- the reply with the result of a command's row, which is a success or a refusal
abbrev pub result_reply : Completion → Result (List ℕ) Refused → Reply
result_reply c (Ok body) = record { response = success body; after = c }
result_reply c (Err e) = refusal_reply c (rc_number e.rc)

-- the answer to TPM2_IncrementalSelfTest, TPM2_GetTestResult, TPM2_Hash or TPM2_TestParms
abbrev pub row_served : Record → Completion → Command → (response : List ℕ) → Reply
row_served r c command response =
    if command.code == 0x142 then result_reply c (incremental_row command.parameters)
    else (if command.code == 0x17c then result_reply c (test_result_row command.parameters)
    else (if command.code == 0x17d then
    result_reply c (hash_row r.fixed.hierarchies command.parameters)
    else (if command.code == 0x18a then result_reply c (test_parms_row command.parameters)
    else stands c response)))

-- the answer to TPM2_ContextLoad of the context of a session or of a sequence object; the file Loading
-- defines the loading of an object's context
abbrev pub load_asked : Record → Completion → (context response : List ℕ) → Reply
load_asked r c context response =
    if names_session context then session_load_reply r c context
    else (if names_sequence context then sequence_loaded r c context
    else stands c response)

-- the layer's answer to a command that the device does not support
abbrev pub served_reply : Record → Completion → Command → (response : List ℕ) → Reply
served_reply r c command response =
    if command.code == 0x146 then stir_reply c command.parameters response
    else (if command.code == 0x161 then load_asked r c command.parameters response
    else (if command.code == 0x162 then
    save_asked r c response (number_at w32 command.parameters)
    else row_served r c command response))

-- the answer to TPM2_GetCapability: the layer's list, or the device's response
abbrev pub capability_reply : Completion → (response : List ℕ) → Option (List ℕ) → Reply
capability_reply c response (Some text) = record { response = success text; after = c }
capability_reply c response None = stands c response

abbrev pub capability_asked : Record → Completion → (response : List ℕ) → (was_told : Bool)
    → Result Asked Short → Reply
capability_asked r c response was_told (Ok asked) =
    capability_reply c response (capability_told r c asked was_told response)
capability_asked r c response was_told (Err e) = stands c response

-- the answer to a command without sessions. Before TPM2_Startup, it is always the device's
-- response. Afterwards, the layer also answers its own commands, which the device refuses with
-- COMMAND_CODE (143), and TPM2_GetCapability.
unfoldable pub command_reply : Record → Completion → Command → (response : List ℕ)
    → (was_told : Bool) → Reply
command_reply r c command response was_told =
    if not r.fixed.started then stands c response
    else (if is_refusal 0x143 response then served_reply r c command response
    else (if command.code == 0x17a then
    capability_asked r c response was_told (asked_at command.parameters)
    else stands c response))

-- the answer to a TPM 1.2 command (tag 00C1). If the device refused it with BAD_TAG (1E) and tag
-- 00C4, the layer answers VALUE (84) with tag 8001, which shows firmware that there is no TPM 1.2
unfoldable pub probe_reply : Completion → (buffer response : List ℕ) → Reply
probe_reply c buffer response =
    if (tag_of buffer == 0xc1) && bytes_eq response (framed_message 0xc4 0x1e []) then
    record { response = refusal 0x84; after = c }
    else stands c response

-- the answer to a buffer that is not a command on sequence objects
abbrev pub reply_by : Record → Completion → (buffer response : List ℕ) → (was_told : Bool)
    → Result Command Short → Reply
reply_by r c buffer response was_told (Ok command) = command_reply r c command response was_told
reply_by r c buffer response was_told (Err e) = probe_reply c buffer response

unfoldable pub plain_reply : Record → Completion → (buffer response : List ℕ) → (was_told : Bool)
    → Reply
plain_reply r c buffer response was_told =
    reply_by r c buffer response was_told (plain_command buffer)

-- the layer's answer to a command on sequence objects, if there is one; otherwise the other answer
abbrev pub or_reply : Option Reply → Reply → Reply
or_reply (Some reply) other = reply
or_reply None other = other

-- the answer to a buffer for which the device returned this response; `was_told` says whether this
-- response is a success
unfoldable pub reply : Record → Completion → (buffer response : List ℕ) → (was_told : Bool) → Reply
reply r c buffer response was_told =
    or_reply (sequence_reply r c buffer response) (plain_reply r c buffer response was_told)
