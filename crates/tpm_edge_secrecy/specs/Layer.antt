-- What a device with the completing layer reveals about its secrets: no more than the device alone,
-- except which of three authorization values are empty, the contexts of objects that have secrets,
-- and HMACs that the layer checks and returns for a session, if the key of the HMAC contains a
-- secret. TPM 2.0 Library, Part 1, section 30 (context management), and Part 2, section 8.6
-- (TPMA_PERMANENT).
use Rattle.std.specs.Int.{w32}
use Rattle.std.specs.Option.{option_map_or}
use Rattle.std.specs.Prelude.{Bool, Err, List, None, Ok, Option, Result, Some, [], false, if◌then◌else◌, is_some, length, true, ℕ, ◌&&◌, ◌==◌, ◌||◌, ◌∷◌, ◌≡◌}
use Rattle.tpm_bytes.specs.Reading.{number_at}
use Rattle.tpm_bytes.specs.declared.cursor.Short.{Short}
use Rattle.tpm_completion.specs.Answer.{is_refusal}
use Rattle.tpm_completion.specs.Command.{Command, authorized_command, plain_command}
use Rattle.tpm_completion.specs.Completed.{completed_effect, device_effect}
use Rattle.tpm_completion.specs.Completion.{forgotten}
use Rattle.tpm_completion.specs.Execution.{Seen, sent_after, sent_event}
use Rattle.tpm_completion.specs.Hiding.{heard}
use Rattle.tpm_completion.specs.Loading.{context_asked, object_opened}
use Rattle.tpm_completion.specs.Properties.{values_set}
use Rattle.tpm_completion.specs.Reply.{reply}
use Rattle.tpm_completion.specs.Saving.{Reply, next_number}
use Rattle.tpm_auth.specs.Entries.{session_of}
use Rattle.tpm_completion.specs.Sending.{EventComplete, HmacStart, event_complete_in, hmac_start_in, sent_for}
use Rattle.tpm_completion.specs.SequenceRows.{Named, named_in}
use Rattle.tpm_completion.specs.declared.completion.Completion.{Completion}
use Rattle.tpm_completion.specs.declared.sending.Sent.{Sent}
use Rattle.tpm_object.specs.declared.object.Object.{Object}
use Rattle.tpm_record.specs.Objects.{object_at}
use Rattle.tpm_record.specs.Record.{Record}
use Rattle.tpm_row_secrecy.specs.Secrecy.{DifferInSecrets, Secrecy, has_secret_data, has_secret_key, has_secret_value, of_data, unless, without_secrets}
use Rattle.tpm_session.specs.declared.session.Session.{Session}
use Rattle.tpm_types_command.specs.AuthEntry.{Entry}
use Rattle.tpm_secrecy.specs.Tells.{EventsAlike, is_reading}
use Rattle.tpm_step.specs.step.Events.{Cycled, Given, Placed, PlainEvent}
use Rattle.tpm_step.specs.declared.event.Row.{Row}
use Rattle.tpm_row_secrecy.specs.Reads.{names_secret_object}
use Rattle.tpm_types_common.specs.Handle.{is_transient, numbered_handle}
use Rattle.tpm_types_common.specs.declared.handle.Handle.{Handle}
use Rattle.tpm_types_common.specs.declared.refused.Refused.{Refused}
use Rattle.tpm_types_object.specs.declared.public.Public.{Public}

-- ---- which contexts hold secrets

-- whether an object has a secret authorization value, secret sealed data or a secret HMAC key
abbrev pub has_secret : Secrecy → Object → Bool
has_secret s o = s.object_values o.public || has_secret_data s o

-- whether saving the object with this handle writes a secret into a context: the object is
-- transient and has a secret, and a sequence number is left for the context
abbrev pub saves_object : Secrecy → Record → Completion → Handle → Bool
saves_object s r c handle =
    is_transient handle
    && (is_some (next_number c) && option_map_or (has_secret s) (object_at r.objects handle) false)

-- whether TPM2_ContextSave of the handle in these parameters writes a secret into a context
abbrev pub handle_saves : Secrecy → Record → Completion → Result (ℕ × List ℕ) Short → Bool
handle_saves s r c (Ok handle) =
    (length handle.1 == 0) && saves_object s r c (numbered_handle handle.0)
handle_saves s r c (Err e) = false

-- whether a command is TPM2_ContextSave (162), and writes a secret into a context
abbrev pub command_saves : Secrecy → Record → Completion → Result Command Short → Bool
command_saves s r c (Ok command) =
    (command.code == 0x162) && handle_saves s r c (number_at w32 command.parameters)
command_saves s r c (Err e) = false

-- whether the layer's answer to a buffer is the context of an object that has a secret; `response`
-- is the device's response, which is COMMAND_CODE (143) for each of the layer's own commands
abbrev pub saves_secret : Secrecy → Record → Completion → (buffer response : List ℕ) → Bool
saves_secret s r c buffer response =
    r.fixed.started
    && (is_refusal 0x143 response && command_saves s r c (plain_command buffer))

-- ---- what the layer reads of a device's secrets

-- whether TPM2_HMAC_Start starts a sequence with a secret key, even if the device refuses the key
abbrev pub start_reads : Secrecy → Record → Result HmacStart Refused → Bool
start_reads s r (Ok start) = names_secret_object s r start.handle
start_reads s r (Err e) = false

-- whether a command with sessions is TPM2_HMAC_Start (15B) with a secret key
abbrev pub command_starts : Secrecy → Record → Completion → Result Command Short → Bool
command_starts s r c (Ok command) =
    (command.code == 0x15b) && start_reads s r (hmac_start_in c command.parameters)
command_starts s r c (Err e) = false

-- whether a buffer that the device refused with COMMAND_CODE (143) starts a sequence with a secret
-- key
abbrev pub starts_secret : Secrecy → Record → Completion → (buffer response : List ℕ) → Bool
starts_secret s r c buffer response =
    r.fixed.started
    && (is_refusal 0x143 response && command_starts s r c (authorized_command buffer))

-- whether the command that the layer sends to the device reads secret data
abbrev pub sent_reads : Secrecy → (first : Seen) → (locality : ℕ) → (random : List ℕ) → Option Sent
    → Bool
sent_reads s first locality random (Some sent) =
    is_reading s first.step.after (sent_event sent locality random)
sent_reads s first locality random None = false

-- whether the layer reads secret data after the device executed a command
abbrev pub reads_after : Secrecy → (first : Seen) → (buffer : List ℕ) → (locality : ℕ)
    → (random : List ℕ) → Bool
reads_after s first buffer locality random =
    starts_secret s first.step.after first.layer buffer first.step.response
    || sent_reads s first locality random (sent_after first buffer)

abbrev pub layer_reads : Secrecy → Completion → Record → PlainEvent → Bool
layer_reads s c r (Given buffer locality elapsed random) =
    reads_after s (device_effect c r (Given buffer locality elapsed random)) buffer locality random
layer_reads s c r Cycled = false
layer_reads s c r (Placed object) = false

-- whether the device or, if it completes the event, the layer reads secret data. With the layer, the
-- device gets the event in which saved sessions are hidden
abbrev pub is_reading_with : Secrecy → (completes : Bool) → Completion → Record → PlainEvent → Bool
is_reading_with s false c r event = is_reading s r event
is_reading_with s true c r event =
    is_reading s r (heard c event) || layer_reads s c r (heard c event)

-- ---- HMACs that the layer checks

-- whether the HMAC key of an entry that names this session contains a secret: the session's key, or
-- the authorization value of the entity that the entry authorizes on the device, if there is one
abbrev pub key_is_secret : Secrecy → Record → Option Handle → Session → Bool
key_is_secret s r (Some handle) x = has_secret_key s x.binding || has_secret_value s r handle
key_is_secret s r None x = has_secret_key s x.binding

abbrev pub entry_is_secret : Secrecy → Record → Option Handle → Entry → Bool
entry_is_secret s r handle e =
    option_map_or (key_is_secret s r handle) (session_of r e) false

-- whether the layer checks the HMAC of a TPM2_HMAC_Start, of a TPM2_EventSequenceComplete, or of a
-- command on a sequence object, with a key that contains a secret
abbrev pub start_is_secret : Secrecy → Record → Result HmacStart Refused → Bool
start_is_secret s r (Ok start) = entry_is_secret s r (Some start.handle) start.entry
start_is_secret s r (Err e) = false

abbrev pub event_is_secret : Secrecy → Record → Result EventComplete Refused → Bool
event_is_secret s r (Ok event) = entry_is_secret s r (Some event.pcr) event.entry
event_is_secret s r (Err e) = false

abbrev pub named_is_secret : Secrecy → Record → Result Named Refused → Bool
named_is_secret s r (Ok named) = entry_is_secret s r None named.entry
named_is_secret s r (Err e) = false

-- whether the layer checks the HMAC of a command with a key that contains a secret. The command is
-- HMAC_Start (15B), EventSequenceComplete (185), SequenceUpdate (15C) or SequenceComplete (13E)
abbrev pub command_is_secret : Secrecy → Record → Completion → Result Command Short → Bool
command_is_secret s r c (Ok command) =
    if command.code == 0x15b then start_is_secret s r (hmac_start_in c command.parameters)
    else (if command.code == 0x185 then
    event_is_secret s r (event_complete_in c command.parameters)
    else (if command.code == 0x15c then named_is_secret s r (named_in c command.parameters)
    else (if command.code == 0x13e then named_is_secret s r (named_in c command.parameters)
    else false)))
command_is_secret s r c (Err e) = false

-- whether the layer checks the HMAC of a buffer, which the device refused with COMMAND_CODE (143),
-- with a key that contains a secret
abbrev pub hmac_is_secret : Secrecy → Record → Completion → (buffer response : List ℕ) → Bool
hmac_is_secret s r c buffer response =
    r.fixed.started
    && (is_refusal 0x143 response && command_is_secret s r c (authorized_command buffer))

-- ---- what the layer reads of a device

-- Two devices agree on which of ownerAuth, endorsementAuth and lockoutAuth are empty.
-- TPM2_GetCapability reports this for every TPM (TPMA_PERMANENT).
abbrev pub SetAlike : Record → Record → Type 0
SetAlike one other =
    values_set one.fixed.hierarchies ≡ values_set other.fixed.hierarchies

-- Two replies leave the layer in the same state. Their responses are also the same, unless they are
-- contexts of an object that has a secret (`saved`).
pub record RepliesAlike (saved : Bool) (a b : Reply) : Type 0 where
  pub response : saved ≡ false → a.response ≡ b.response
  pub after : a.after ≡ b.after

-- If two devices differ only in secrets, and agree on which of the three authorization values are
-- empty, the layer has the same answer and the same new state on both. Only the context of an
-- object that has a secret may differ.
abbrev pub LayerAnswersAlike : Type 0
LayerAnswersAlike =
    (s : Secrecy) (one other : Record) (c : Completion) (buffer response : List ℕ)
    (was_told : Bool)
    → DifferInSecrets s one other → SetAlike one other
    → RepliesAlike (saves_secret s one c buffer response)
    (reply one c buffer response was_told) (reply other c buffer response was_told)

-- If two devices differ only in secrets, the layer answers on both with the context of an object
-- that has a secret, or on neither.
abbrev pub LayerSavesAlike : Type 0
LayerSavesAlike =
    (s : Secrecy) (one other : Record) (c : Completion) (buffer response : List ℕ)
    → DifferInSecrets s one other
    → saves_secret s one c buffer response ≡ saves_secret s other c buffer response

-- If two devices differ only in secrets, the layer is asked to load the same context on both, and
-- the context contains the same object, or has the same fault. Here, the proofs of the hierarchies
-- are not secrets.
abbrev pub LayerLoadsAlike : Type 0
LayerLoadsAlike =
    (s : Secrecy) (one other : Record) (c : Completion) (buffer response context : List ℕ)
    → DifferInSecrets s one other
    → (context_asked one buffer response ≡ context_asked other buffer response)
    × (object_opened one c context ≡ object_opened other c context)

-- If two devices differ only in secrets, the layer sends the same command to both, unless it starts
-- a sequence with a secret key, or checks an HMAC with a key that contains a secret. It checks no
-- HMAC if the command is authorized by a password.
abbrev pub LayerSendsAlike : Type 0
LayerSendsAlike =
    (s : Secrecy) (one other : Record) (c : Completion) (buffer response : List ℕ)
    → DifferInSecrets s one other → starts_secret s one c buffer response ≡ false
    → hmac_is_secret s one c buffer response ≡ false
    → sent_for one c buffer response ≡ sent_for other c buffer response

-- After an event, the layer forgets the same contexts for a device and for the device without its
-- secrets.
abbrev pub LayerForgetsAlike : Type 0
LayerForgetsAlike =
    (s : Secrecy) (r : Record) (c : Completion)
    → forgotten (without_secrets s r) c ≡ forgotten r c

-- ---- an event

-- whether the layer's answer to an event that the device gets is the context of an object that has a
-- secret
abbrev pub is_saving : Secrecy → Completion → Record → PlainEvent → Bool
is_saving s c r (Given buffer locality elapsed random) =
    let first : Seen = device_effect c r (Given buffer locality elapsed random) in
    saves_secret s first.step.after first.layer buffer first.step.response
is_saving s c r Cycled = false
is_saving s c r (Placed object) = false

-- whether the answer to an event, with or without the layer, is the context of an object that has a
-- secret
abbrev pub is_saving_with : Secrecy → (completes : Bool) → Completion → Record → PlainEvent → Bool
is_saving_with s completes c r event = completes && is_saving s c r (heard c event)

-- Two effects report the same row and leave the layer in the same state, and the two devices differ
-- only in secrets. The responses are the same, unless they are contexts of an object that has a
-- secret.
pub record CompletesAlike (s : Secrecy) (saved : Bool) (x y : Seen) : Type 0 where
  pub response : saved ≡ false → x.step.response ≡ y.step.response
  pub row : x.step.row ≡ y.step.row
  pub after : DifferInSecrets s x.step.after y.step.after
  pub layer : x.layer ≡ y.layer

-- If two devices differ only in secret data, and no allocation fails, an event that does not read
-- these data reveals nothing about them, with or without the layer, even if it loads an object from
-- its context. The only exception is the response to TPM2_ContextSave of an object that has secret
-- data. A TPM2_HMAC_Start with a secret key counts as reading. If the event places an object, the
-- other device may place an object that differs in secret data.
abbrev pub CompletedTellsNothing : Type 0
CompletedTellsNothing =
    (indices : ℕ → Bool) (objects : Public → Bool) (one other : Record) (completes : Bool)
    (c : Completion) (event also : PlainEvent)
    → let s : Secrecy = of_data indices objects in
    DifferInSecrets s one other → EventsAlike s event also
    → is_reading_with s completes c one event ≡ false
    → CompletesAlike s (is_saving_with s completes c one event)
    (completed_effect completes c one event) (completed_effect completes c other also)

-- ---- a list of events

-- a list of events; for each event, whether the layer completes it
abbrev pub Completions : Type 0
Completions = List (Bool × PlainEvent)

-- the responses and rows of a device with the layer for these events, without the contexts of
-- objects that have secrets
abbrev pub answers_with : Secrecy → Completion → Record → Completions → List (List ℕ × Row)
answers_with s c r [] = []
answers_with s c r (e ∷ es) =
    let x : Seen = completed_effect e.0 c r e.1 in
    (unless (is_saving_with s e.0 c r e.1) x.step.response, x.step.row)
    ∷ answers_with s x.layer x.step.after es

-- None of these events reads secret data when it is executed.
abbrev pub NoneReadsWith : Secrecy → Completion → Record → Completions → Type 0
NoneReadsWith s c r [] = Unit {0}
NoneReadsWith s c r (e ∷ es) =
    let x : Seen = completed_effect e.0 c r e.1 in
    (is_reading_with s e.0 c r e.1 ≡ false) × NoneReadsWith s x.layer x.step.after es

-- Two lists contain the same events, except that the objects that they place may differ in secrets.
-- The layer completes the same events of both.
abbrev pub CompletionsAlike : Secrecy → Completions → Completions → Type 0
CompletionsAlike s [] [] = Unit {0}
CompletionsAlike s (e ∷ es) (f ∷ fs) =
    (e.0 ≡ f.0) × EventsAlike s e.1 f.1 × CompletionsAlike s es fs
CompletionsAlike s [] (f ∷ fs) = ⊥
CompletionsAlike s (e ∷ es) [] = ⊥

-- If two devices differ only in secret data, and have the same layer, they return the same
-- responses and rows until an event reads these data. Only contexts of objects with secret data may
-- differ.
abbrev pub CompletedRunTellsNothing : Type 0
CompletedRunTellsNothing =
    (indices : ℕ → Bool) (objects : Public → Bool) (one other : Record) (c : Completion)
    (events others : Completions)
    → let s : Secrecy = of_data indices objects in
    DifferInSecrets s one other → CompletionsAlike s events others → NoneReadsWith s c one events
    → answers_with s c one events ≡ answers_with s c other others
