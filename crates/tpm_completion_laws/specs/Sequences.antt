-- Sequence objects of the layer, on a device with the layer: which handle names which slot, the
-- effects of TPM2_ContextSave and TPM2_ContextLoad as whole commands, and the sequence that
-- TPM2_HMAC_Start starts. TPM 2.0 Library, Part 1, section 32.4 (hash, HMAC and event sequences),
-- and Part 3, sections 17.2 (TPM2_HMAC_Start), 28.2 (TPM2_ContextSave) and 28.3 (TPM2_ContextLoad).
use Rattle.std.specs.Prelude.{◌≡◌, ◌≢◌, ℕ, ◌+◌, ◌-◌, ◌<◌, ◌≤◌, ◌^◌, Bool, true, List, [], ◌∷◌, ◌++◌, length, Option, Some, None, Ok}
use Rattle.std.specs.Int.{w16, to_be_bytes}
use Rattle.tpm_bytes.specs.Reading.{AreBytes}
use Rattle.tpm_bytes.specs.Writing.{sized_text}
use Rattle.tpm_mac.specs.Hmac.{hmac_of}
use Rattle.tpm_mac.specs.declared.algorithm.HashAlg.{HashAlg}
use Rattle.tpm_sequence.specs.Meaning.{joined_parts}
use Rattle.tpm_sequence.specs.Sequence.{sequence_digests, updates}
use Rattle.tpm_sequence.specs.Sequence.{object_of as sequence_object}
use Rattle.tpm_sequence.specs.declared.object.SequenceObject.{SequenceObject}
use Rattle.tpm_sequence.specs.declared.sequence.Sequence.{Sequence}
use Rattle.tpm_types_common.specs.Algorithm.{hash_or_null_number}
use Rattle.tpm_types_common.specs.Limits.{data_limit}
use Rattle.tpm_types_common.specs.declared.handle.Handle.{Handle}
use Rattle.tpm_commands.specs.CommandCode.{code_number}
use Rattle.tpm_commands.specs.declared.command_code.CommandCode.TheVariants as command
use Rattle.tpm_record.specs.Objects.{object_at}
use Rattle.tpm_record.specs.Record.{Record}
use Rattle.tpm_record.specs.Tick.{after_tick}
use Rattle.tpm_record.specs.rows.Answer.{Sized, answer_of}
use Rattle.tpm_record.specs.rows.Request.{Request}
use Rattle.tpm_record.specs.rows.Rows.{unchanged_success}
use Rattle.tpm_auth.specs.Entries.{is_password}
use Rattle.tpm_actions_object.specs.Hmac.{hmac_row}
use Rattle.tpm_context.specs.Meaning.{IsEncodable}
use Rattle.tpm_step.specs.step.Entries.{password_answer}
use Rattle.tpm_step.specs.step.Events.{Given, PlainEvent}
use Rattle.tpm_step.specs.step.Step.{Stepped, step}
use Rattle.tpm_completion.specs.Answer.{refusal, success}
use Rattle.tpm_completion.specs.Completed.{completed_effect}
use Rattle.tpm_completion.specs.Completion.{forgotten}
use Rattle.tpm_completion.specs.Execution.{Seen, sent_event}
use Rattle.tpm_completion.specs.Hiding.{heard_if}
use Rattle.tpm_completion.specs.Loaded.{SequenceStaysValid, saved_sequence}
use Rattle.tpm_completion.specs.Saving.{layer_with_count}
use Rattle.tpm_completion.specs.Sending.{HmacStart, hmac_start_in, start_sent}
use Rattle.tpm_completion.specs.SequenceRows.{authorized_success, slot_text}
use Rattle.tpm_completion.specs.Sequences.{free_slot, in_slot, sequence_handle, sequence_limit, sequence_of, slot_of, with_sequence}
use Rattle.tpm_completion.specs.declared.completion.Completion.{Completion}
use Rattle.tpm_completion.specs.declared.sending.Work.{Work}
use Rattle.tpm_completion.specs.declared.sending.Work.TheVariants.{Starts}
use Rattle.tpm_completion_laws.specs.Objects.{effect_of, load_buffer, save_buffer}

-- ---- handles

-- The handle of a slot with a sequence object names this slot and this object.
abbrev pub SlotIsNamed : Type 0
SlotIsNamed =
    (c : Completion) (slot : ℕ) (object : SequenceObject)
    → slot < sequence_limit → in_slot c slot ≡ Some object
    → (slot_of c (sequence_handle slot) ≡ Some slot)
    × (sequence_of c (sequence_handle slot) ≡ Some object)

-- Only the handle of a slot names the slot. Every handle that names a sequence object is the handle
-- of one of the layer's slots.
abbrev pub IsNamedOnce : Type 0
IsNamedOnce =
    (c : Completion) (handle : Handle) (slot : ℕ)
    → length c.sequences ≡ sequence_limit → slot_of c handle ≡ Some slot
    → (handle ≡ sequence_handle slot) × (slot < sequence_limit)

-- ---- saving

-- A sequence object was saved in a context with the layer's next number. The device's record is
-- unchanged, and the handle still names the sequence object.
pub record IsSequenceSaved (r : Record) (c : Completion) (handle : Handle) (object : SequenceObject)
    (seen : Seen) : Type 0
  where
    pub response : seen.step.response ≡ success (saved_sequence r c (c.count + 1) object)
    pub device : seen.step.after ≡ r
    pub layer : seen.layer ≡ layer_with_count c (c.count + 1)
    pub stays : sequence_of seen.layer handle ≡ Some object

-- TPM2_ContextSave of a sequence object returns its context, which has the layer's next number. On
-- the device, only the time changes. The sequence object stays in its slot.
abbrev pub SavesSequences : Type 0
SavesSequences =
    (r : Record) (c : Completion) (handle : Handle) (object : SequenceObject)
    (locality elapsed : ℕ) (random : List ℕ)
    → r.fixed.started ≡ true → handle.number < 2 ^ 32 → c.count < 2 ^ 64 - 1
    → object_at r.objects handle ≡ None → sequence_of c handle ≡ Some object
    → IsSequenceSaved (after_tick r elapsed) (forgotten (after_tick r elapsed) c) handle object
    (effect_of c r (save_buffer handle) locality elapsed random)

-- ---- loading

-- The sequence object got a free slot: the response contains the handle of the slot, which named
-- nothing before and now names this sequence object. The device is unchanged.
pub record IsSequencePlaced (r : Record) (c : Completion) (object : SequenceObject) (slot : ℕ)
    (seen : Seen) : Type 0
  where
    pub response : seen.step.response ≡ success (slot_text slot)
    pub inside : slot < sequence_limit
    pub free : sequence_of c (sequence_handle slot) ≡ None
    pub found : sequence_of seen.layer (sequence_handle slot) ≡ Some object
    pub device : seen.step.after ≡ r
    pub layer : seen.layer ≡ with_sequence c slot object

-- No slot was free: the response is OBJECT_MEMORY (902), and nothing changed.
pub record IsSequenceFull (r : Record) (c : Completion) (seen : Seen) : Type 0 where
  pub response : seen.step.response ≡ refusal 0x902
  pub device : seen.step.after ≡ r
  pub layer : seen.layer ≡ c

abbrev pub IsSequenceLoaded : Record → Completion → SequenceObject → Option ℕ → Seen → Type 0
IsSequenceLoaded r c object (Some slot) seen = IsSequencePlaced r c object slot seen
IsSequenceLoaded r c object None seen = IsSequenceFull r c seen

-- TPM2_ContextLoad of a valid context loads the same sequence object, with its authorization value
-- and its state, into the lowest free slot. If all slots are occupied, the command is refused with
-- OBJECT_MEMORY (902). On the device, only the time changes.
abbrev pub LoadsSequences : Type 0
LoadsSequences =
    (r later : Record) (c d : Completion) (number : ℕ) (object : SequenceObject)
    (locality elapsed : ℕ) (random : List ℕ)
    → number < 2 ^ 64 → IsEncodable object → length d.sequences ≡ sequence_limit
    → later.fixed.started ≡ true → SequenceStaysValid r later c d
    → IsSequenceLoaded (after_tick later elapsed) (forgotten (after_tick later elapsed) d) object
    (free_slot d)
    (effect_of d later (load_buffer (saved_sequence r c number object)) locality elapsed random)

-- ---- what ends the validity of a context

-- Except for TPM2_Startup and TPM2_Clear, every command leaves each context of a sequence object
-- valid, with or without the layer. This includes the commands that complete or flush the sequence
-- object itself.
abbrev pub SequencesStayValidThrough : Type 0
SequencesStayValidThrough =
    (completes : Bool) (r : Record) (c : Completion) (buffer : List ℕ) (locality elapsed : ℕ)
    (random : List ℕ)
    → let heard : PlainEvent = heard_if completes c (Given buffer locality elapsed random) in
    (step r heard).row.code ≢ code_number command.Startup
    → (step r heard).row.code ≢ code_number command.Clear
    → let seen : Seen = completed_effect completes c r (Given buffer locality elapsed random) in
    SequenceStaysValid r seen.step.after c seen.layer

-- ---- TPM2_HMAC_Start

-- the effect on the device of the TPM2_HMAC that the layer sends for a TPM2_HMAC_Start
abbrev pub hmac_sent : Record → HmacStart → (locality : ℕ) → (random : List ℕ) → Stepped
hmac_sent r start locality random = step r (sent_event (start_sent r start) locality random)

-- the request of a TPM2_HMAC of this message, with the handle and the hashAlg of a TPM2_HMAC_Start
abbrev pub hmac_request : HmacStart → (locality : ℕ) → (random message : List ℕ) → Request
hmac_request start locality random message = record {
  handles = start.handle ∷ [];
  locality = locality;
  parameters = sized_text message ++ to_be_bytes w16 (hash_or_null_number start.hash);
  random = random;
}

-- There is a hash and a key for which the following holds. The work is to start a sequence whose
-- digest is the HMAC of its data. The device, with this record, answers a TPM2_HMAC of any message
-- with the HMAC of the message. The response to the TPM2_HMAC that was sent contains the HMAC of
-- the empty message, and then the answer to the only entry. If the entry contains a password, this
-- is the answer to a password.
pub record StartsLikeTheDevice (r : Record) (start : HmacStart) (planned : Option Work)
    (text : List ℕ) : Type 0
  where
    pub hash : HashAlg
    pub key : List ℕ
    pub sequence : Sequence
    pub area : List ℕ
    pub work : planned ≡ Some (Starts start.slot (sequence_object start.auth sequence))
    pub digest : (parts : List (List ℕ))
        → sequence_digests (updates sequence parts) ≡ hmac_of hash key (joined_parts parts) ∷ []
    pub answer : (locality : ℕ) (random message : List ℕ)
        → length message ≤ data_limit
        → hmac_row r (hmac_request start locality random message)
        ≡ Ok (unchanged_success r (answer_of (Sized (hmac_of hash key message))))
    pub response : text ≡ authorized_success [] (sized_text (hmac_of hash key [])) area
    pub password : is_password start.entry ≡ true → area ≡ password_answer

-- If the device accepts the TPM2_HMAC that the layer sends for a TPM2_HMAC_Start, the layer starts
-- a sequence with the hash and the key that the device uses. So the sequence has the same HMAC as a
-- TPM2_HMAC of the same data with the same handle and hashAlg.
abbrev pub StartsWithTheKey : Type 0
StartsWithTheKey =
    (r : Record) (c : Completion) (text : List ℕ) (start : HmacStart) (locality : ℕ)
    (random : List ℕ)
    → AreBytes text → hmac_start_in c text ≡ Ok start
    → (hmac_sent r start locality random).row.check ≡ 0
    → StartsLikeTheDevice (after_tick r 0) start (start_sent r start).work
    (hmac_sent r start locality random).response
