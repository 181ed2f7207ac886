-- The commands on sequence objects for which the completing layer sends a command to the device.
-- TPM 2.0 Library, Part 3, sections 17.2 (TPM2_HMAC_Start), 17.4 (TPM2_SequenceUpdate), 17.5
-- (TPM2_SequenceComplete) and 17.6 (TPM2_EventSequenceComplete).
--
-- For TPM2_HMAC_Start, the layer sends TPM2_HMAC with an empty message, the same handle and the
-- same password or session, so that the device itself decides whether the key may be used. For
-- TPM2_EventSequenceComplete, the layer sends TPM2_PCR_Extend. For TPM2_SequenceUpdate and
-- TPM2_SequenceComplete with a session, the layer uses the session to send TPM2_GetRandom for zero
-- bytes.
use Rattle.std.specs.Prelude.{ℕ, ◌==◌, ◌&&◌, not, Bool, true, false, List, [], ◌∷◌, ◌++◌, length, if◌then◌else◌, Option, Some, None, Result, Ok, Err, ok_or, option_map, option_and_then}
use Rattle.std.specs.Int.{w16, w32, to_be_bytes}
use Rattle.tpm_bytes.specs.Reading.{◌>>=◌, refused_if}
use Rattle.tpm_bytes.specs.Writing.{sized_text}
use Rattle.tpm_hash_state.specs.State.{state_digest}
use Rattle.tpm_mac.specs.declared.algorithm.HashAlg.{HashAlg}
use Rattle.tpm_object.specs.declared.object.Object.{Object}
use Rattle.tpm_auth.specs.Entries.{is_password}
use Rattle.tpm_record.specs.Entity.{name_of, object_of}
use Rattle.tpm_record.specs.Record.{Record}
use Rattle.tpm_record.specs.rows.Rows.{all_read, parameter}
use Rattle.tpm_sequence.specs.Authorization.{is_authorized}
use Rattle.tpm_sequence.specs.Sequence.{hmac_sequence, sequence_updated}
use Rattle.tpm_sequence.specs.Sequence.{object_of as sequence_object}
use Rattle.tpm_sequence.specs.declared.sequence.Sequence.{Sequence}
use Rattle.tpm_sequence.specs.declared.sequence.Sequence.TheVariants.{Event, Hash, Hmac}
use Rattle.tpm_step.specs.step.Answer.{framed_message}
use Rattle.tpm_step.specs.step.Entries.{password_answer}
use Rattle.tpm_types_common.specs.Algorithm.{hash_or_null_at, hash_or_null_number}
use Rattle.tpm_types_common.specs.AuthValue.{trimmed}
use Rattle.tpm_types_common.specs.Buffer.{buffer_at}
use Rattle.tpm_types_common.specs.DigestValues.{digest_values_text}
use Rattle.tpm_types_common.specs.Limits.{data_limit}
use Rattle.tpm_types_common.specs.declared.digest_values.DigestValue.TheVariants.{Sha1, Sha256}
use Rattle.tpm_types_common.specs.declared.handle.Handle.{Handle}
use Rattle.tpm_types_common.specs.declared.rc.ResponseCode.TheVariants as code
use Rattle.tpm_types_common.specs.declared.refused.Refused.{Refused}
use Rattle.tpm_types_command.specs.AuthEntry.{Entry, auth_entry_text, entry_of}
use Rattle.tpm_types_object.specs.declared.public.KeyedHashScheme.TheVariants as scheme
use Rattle.tpm_types_object.specs.declared.public.PublicParameters.{PublicParameters}
use Rattle.tpm_types_object.specs.declared.public.PublicParameters.TheVariants.{KeyedHash, SymCipher}
use Rattle.tpm_bytes.specs.declared.cursor.Short.{Short}
use Rattle.tpm_completion.specs.Answer.{is_refusal}
use Rattle.tpm_completion.specs.Command.{Command, authorized_command}
use Rattle.tpm_completion.specs.Saving.{Reply}
use Rattle.tpm_completion.specs.Authorizing.{absent_refused, entries_at, handle_at, only_entry, password_refused, sequence_named, two_entries}
use Rattle.tpm_completion.specs.SequenceRows.{Named, authorized_success, completed_in, full_refused, mode_refused, named_in, slot_text, updated_in}
use Rattle.tpm_completion.specs.SessionEntry.{Covered, entry_answered, entry_sent, first_answer, value_in_key}
use Rattle.tpm_completion.specs.Sequences.{free_slot, in_slot, with_sequence, without_sequence}
use Rattle.tpm_completion.specs.declared.completion.Completion.{Completion}
use Rattle.tpm_completion.specs.declared.hmac_starting.HmacStart as declared
use Rattle.tpm_completion.specs.declared.event_completing.EventComplete as declared_event
use Rattle.tpm_completion.specs.declared.sending.Sent.{Sent}
use Rattle.tpm_completion.specs.declared.sending.Work.{Work}
use Rattle.tpm_completion.specs.declared.sending.Work.TheVariants.{Completes, Ends, Starts, Updates}

-- ---- TPM2_HMAC_Start

-- the hash of an HMAC sequence: the hash of the key's scheme or, if the scheme is NULL, the
-- requested hash. None if there is no hash, or if the object is not a KEYEDHASH object; the device
-- then refuses TPM2_HMAC
abbrev pub key_hash : PublicParameters → Option HashAlg → Option HashAlg
key_hash (KeyedHash scheme.Null) asked = asked
key_hash (KeyedHash (scheme.Hmac own)) asked = Some own
key_hash SymCipher asked = None

-- the HMAC sequence that starts with the key of an object
abbrev pub keyed_sequence : Option HashAlg → Object → Option Sequence
keyed_sequence asked o =
    option_map (λ hash. hmac_sequence hash o.sensitive) (key_hash o.public.parameters asked)

-- an authorization area with only this entry
abbrev pub area_of : Entry → List ℕ
area_of e = to_be_bytes w32 (length (auth_entry_text e)) ++ auth_entry_text e

-- the parameters of TPM2_HMAC with an empty message and this hashAlg
abbrev pub hmac_parameters : Option HashAlg → List ℕ
hmac_parameters asked = sized_text [] ++ to_be_bytes w16 (hash_or_null_number asked)

-- the command TPM2_HMAC (155) with an empty message, and with this handle, entry and hashAlg
unfoldable pub hmac_command : Handle → Entry → Option HashAlg → List ℕ
hmac_command handle e asked =
    framed_message 0x8002 0x155
    (to_be_bytes w32 handle.number ++ area_of e ++ hmac_parameters asked)

-- what TPM2_HMAC_Start asks for: the handle of a key, the entry that authorizes it, the command's
-- parameters, hashAlg, the authorization value of the new sequence object, and a free slot
pub record HmacStart : Type 0 where
  pub handle : Handle
  pub entry : Entry
  pub parameters : List ℕ
  pub hash : Option HashAlg
  pub auth : List ℕ
  pub slot : ℕ

-- the value of an `HmacStart`, regardless of where its bytes are in memory
abbrev pub start_of : declared.HmacStart → HmacStart
start_of start = record {
  handle = start.handle;
  entry = entry_of start.entry;
  parameters = start.parameters.now;
  hash = start.hash;
  auth = start.auth.now;
  slot = start.slot;
}

-- what TPM2_HMAC_Start asks for. The command has one handle, one entry, and the parameters auth and
-- hashAlg. If no slot is free, check A1 refuses it with OBJECT_MEMORY before the device is asked
unfoldable pub hmac_start_in : Completion → List ℕ → Result HmacStart Refused
hmac_start_in c text = do
  handle ← handle_at 1 text
  entries ← entries_at handle.1
  entry ← only_entry entries.0
  auth ← parameter 1 (buffer_at 32 entries.1)
  hash ← parameter 2 (hash_or_null_at auth.1)
  ended ← all_read hash.1
  slot ← ok_or (free_slot c) full_refused
  Ok (record {
    handle = handle.0;
    entry = entry;
    parameters = entries.1;
    hash = hash.0;
    auth = auth.0;
    slot = slot;
  })

-- the work after the device accepted TPM2_HMAC: putting a sequence object into a slot
abbrev pub start_work : (slot : ℕ) → (auth : List ℕ) → Sequence → Work
start_work slot auth sequence = Starts slot (sequence_object auth sequence)

-- what the HMAC of the client's command covers, and what the HMAC of the layer's command covers
abbrev pub start_asked : Record → HmacStart → Covered
start_asked r start = record {
  code = 0x15b;
  names = name_of r start.handle;
  parameters = start.parameters;
  value = value_in_key r start.entry start.handle;
}

abbrev pub start_covered : Record → HmacStart → Covered
start_covered r start = record {
  code = 0x155;
  names = name_of r start.handle;
  parameters = hmac_parameters start.hash;
  value = value_in_key r start.entry start.handle;
}

-- the entry of the command that the layer sends for TPM2_HMAC_Start
abbrev pub start_entry : Record → HmacStart → Entry
start_entry r start = entry_sent r (start_asked r start) (start_covered r start) start.entry

-- the command that the layer sends for TPM2_HMAC_Start. There is no work if the handle names no
-- object, or if the object has no hash; the device then refuses TPM2_HMAC
abbrev pub start_sent : Record → HmacStart → Sent
start_sent r start = record {
  command = hmac_command start.handle (start_entry r start) start.hash;
  code = 0x15b;
  work = option_map (start_work start.slot start.auth)
      (option_and_then (keyed_sequence start.hash) (object_of r start.handle));
  answer = entry_answered r (start_asked r start) start.entry;
}

unfoldable pub hmac_start_sent : Record → Completion → List ℕ → Result Sent Refused
hmac_start_sent r c text = do
  start ← hmac_start_in c text
  Ok (start_sent r start)

-- ---- TPM2_EventSequenceComplete

-- the encoding of the digests of an event sequence's data; None for any other sequence
abbrev pub digests_text : Sequence → Option (List ℕ)
digests_text (Event sha1 sha256) =
    Some (digest_values_text (Sha1 (state_digest sha1) ∷ Sha256 (state_digest sha256) ∷ []))
digests_text (Hash state beginning) = None
digests_text (Hmac state) = None

-- the command TPM2_PCR_Extend (182), with this handle, entry and encoded digests
unfoldable pub extend_command : Handle → Entry → (digests : List ℕ) → List ℕ
extend_command handle e digests =
    framed_message 0x8002 0x182 (to_be_bytes w32 handle.number ++ area_of e ++ digests)

-- what TPM2_EventSequenceComplete asks for: a PCR or TPM_RH_NULL, the entry that authorizes it, the
-- command's parameters, the slot of the event sequence, and its encoded digests
pub record EventComplete : Type 0 where
  pub pcr : Handle
  pub entry : Entry
  pub parameters : List ℕ
  pub slot : ℕ
  pub digests : List ℕ

-- the value of an `EventComplete`, regardless of where its bytes are in memory
abbrev pub event_of : declared_event.EventComplete → EventComplete
event_of event = record {
  pcr = event.pcr;
  entry = entry_of event.entry;
  parameters = event.parameters.now;
  slot = event.slot;
  digests = event.digests;
}

-- what TPM2_EventSequenceComplete asks for. The command has two handles: a PCR or TPM_RH_NULL, and
-- an event sequence. Each has an entry; the device checks the first, and the second contains the
-- password of the sequence. The only parameter is buffer. If the sequence is not an event sequence,
-- check A1 refuses it with MODE for handle 2 before the device is asked
unfoldable pub event_complete_in : Completion → List ℕ → Result EventComplete Refused
event_complete_in c text = do
  pcr ← handle_at 1 text
  handle ← handle_at 2 pcr.1
  slot ← sequence_named c 2 code.ReferenceH1 handle.0
  object ← ok_or (in_slot c slot) (absent_refused code.ReferenceH1)
  entries ← entries_at handle.1
  both ← two_entries entries.0
  wrong ← refused_if (not (is_authorized object both.1.hmac)) (password_refused 2)
  bytes ← parameter 1 (buffer_at data_limit entries.1)
  ended ← all_read bytes.1
  digests ← ok_or (digests_text (sequence_updated object.sequence bytes.0)) (mode_refused 2)
  Ok (record {
    pcr = pcr.0;
    entry = both.0;
    parameters = entries.1;
    slot = slot;
    digests = digests;
  })

-- what the HMAC of the client's command covers, and what the HMAC of the layer's command covers. A
-- sequence object's Name is empty
abbrev pub event_asked : Record → EventComplete → Covered
event_asked r event = record {
  code = 0x185;
  names = name_of r event.pcr;
  parameters = event.parameters;
  value = value_in_key r event.entry event.pcr;
}

abbrev pub event_covered : Record → EventComplete → Covered
event_covered r event = record {
  code = 0x182;
  names = name_of r event.pcr;
  parameters = event.digests;
  value = value_in_key r event.entry event.pcr;
}

-- the entry of the command that the layer sends for TPM2_EventSequenceComplete
abbrev pub event_entry : Record → EventComplete → Entry
event_entry r event = entry_sent r (event_asked r event) (event_covered r event) event.entry

-- the command that the layer sends for TPM2_EventSequenceComplete
abbrev pub event_sent : Record → EventComplete → Sent
event_sent r event = record {
  command = extend_command event.pcr (event_entry r event) event.digests;
  code = 0x185;
  work = Some (Ends event.slot event.digests);
  answer = entry_answered r (event_asked r event) event.entry;
}

unfoldable pub event_complete_sent : Record → Completion → List ℕ → Result Sent Refused
event_complete_sent r c text = do
  event ← event_complete_in c text
  Ok (event_sent r event)

-- ---- TPM2_SequenceUpdate and TPM2_SequenceComplete with a session

-- the parameters of TPM2_GetRandom for zero bytes
abbrev pub random_parameters : List ℕ
random_parameters = to_be_bytes w16 0

-- the command TPM2_GetRandom (17B) for zero bytes, with this entry, which authorizes nothing
unfoldable pub random_command : Entry → List ℕ
random_command e = framed_message 0x8002 0x17b (area_of e ++ random_parameters)

-- what the HMAC of the client's command with this code covers, and what the HMAC of the layer's
-- command covers. A sequence object's Name is empty
abbrev pub sequence_asked : (code : ℕ) → Named → Covered
sequence_asked code named = record {
  code = code;
  names = [];
  parameters = named.parameters;
  value = trimmed named.object.auth;
}

abbrev pub random_covered : Covered
random_covered = record {
  code = 0x17b;
  names = [];
  parameters = random_parameters;
  value = [];
}

-- the command that the layer sends for a client's command with this code on a sequence object
abbrev pub random_sent : Record → (code : ℕ) → Named → Work → Sent
random_sent r code named work = record {
  command = random_command (entry_sent r (sequence_asked code named) random_covered named.entry);
  code = code;
  work = Some work;
  answer = entry_answered r (sequence_asked code named) named.entry;
}

-- the command that the layer sends for TPM2_SequenceUpdate (15C) with a session
unfoldable pub update_sent : Record → Named → Result Sent Refused
update_sent r named = do
  object ← updated_in named
  Ok (random_sent r 0x15c named (Updates named.slot object))

-- the command that the layer sends for TPM2_SequenceComplete (13E) with a session
unfoldable pub complete_sent : Record → Named → Result Sent Refused
complete_sent r named = do
  answer ← completed_in r.fixed.hierarchies named
  Ok (random_sent r 0x13e named (Completes named.slot answer))

-- The layer sends a command only if the client's entry is not a password's. It answers a command
-- with a password by itself.
abbrev pub unless_password : (Named → Result Sent Refused) → Result Named Refused
    → Option (Result Sent Refused)
unless_password sends (Ok named) =
    if is_password named.entry then None else Some (sends named)
unless_password sends (Err e) = Some (Err e)

-- ---- the command that is sent, and the answer after it

-- the command that the layer sends for HMAC_Start (15B), EventSequenceComplete (185),
-- SequenceUpdate (15C) or SequenceComplete (13E), or the refusal of the client's command. None for
-- any other command, and for SequenceUpdate and SequenceComplete with a password
abbrev pub sent_by : Record → Completion → (code : ℕ) → List ℕ → Option (Result Sent Refused)
sent_by r c code text =
    if code == 0x15b then Some (hmac_start_sent r c text)
    else (if code == 0x185 then Some (event_complete_sent r c text)
    else (if code == 0x15c then unless_password (update_sent r) (named_in c text)
    else (if code == 0x13e then unless_password (complete_sent r) (named_in c text)
    else None)))

abbrev pub accepted_only : Option (Result Sent Refused) → Option Sent
accepted_only (Some (Ok sent)) = Some sent
accepted_only (Some (Err e)) = None
accepted_only None = None

abbrev pub sent_in : Record → Completion → Result Command Short → Option Sent
sent_in r c (Ok command) = accepted_only (sent_by r c command.code command.parameters)
sent_in r c (Err e) = None

-- the command that the layer sends to the device for a client's command, if the device is started
-- and refused the client's command with COMMAND_CODE (143)
unfoldable pub sent_for : Record → Completion → (buffer response : List ℕ) → Option Sent
sent_for r c buffer response =
    if r.fixed.started && is_refusal 0x143 response then
    sent_in r c (authorized_command buffer)
    else None

-- the answer to the first entry of the client's command, if the answer to the command has these
-- parameters; `response` is the device's response to the layer's command
abbrev pub sent_answer : Sent → (parameters response : List ℕ) → List ℕ
sent_answer sent parameters response = first_answer sent.answer sent.code parameters response

-- the answer after the device accepted the layer's command: the handle of the new sequence object,
-- nothing, the digest or HMAC with its ticket, or the digests of an event sequence
abbrev pub work_done : Completion → Sent → Work → (response : List ℕ) → Reply
work_done c sent (Starts slot object) response = record {
  response = authorized_success (slot_text slot) [] (sent_answer sent [] response);
  after = with_sequence c slot object;
}
work_done c sent (Updates slot object) response = record {
  response = authorized_success [] [] (sent_answer sent [] response);
  after = with_sequence c slot object;
}
work_done c sent (Completes slot answer) response = record {
  response = authorized_success [] answer (sent_answer sent answer response);
  after = without_sequence c slot;
}
work_done c sent (Ends slot digests) response = record {
  response = authorized_success [] digests (sent_answer sent digests response ++ password_answer);
  after = without_sequence c slot;
}

-- the answer if there is work; otherwise the device's response
abbrev pub work_reply : Completion → Sent → Option Work → (response : List ℕ) → Reply
work_reply c sent (Some work) response = work_done c sent work response
work_reply c sent None response = record { response = response; after = c }

-- the answer after the device executed the command that was sent; `accepted` says whether the
-- device accepted it. If not, the client gets the device's refusal
abbrev pub sent_reply : Completion → (accepted : Bool) → Sent → (response : List ℕ) → Reply
sent_reply c true sent response = work_reply c sent sent.work response
sent_reply c false sent response = record { response = response; after = c }
