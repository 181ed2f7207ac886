-- The commands on sequence objects that the completing layer answers by itself, which include
-- TPM2_SequenceUpdate and TPM2_SequenceComplete with a password. The file Sending uses their
-- definitions for commands with a session. TPM 2.0 Library, Part 3, sections 17.3
-- (TPM2_HashSequenceStart), 17.4 (TPM2_SequenceUpdate), 17.5 (TPM2_SequenceComplete) and 28.4
-- (TPM2_FlushContext).
use Rattle.std.specs.Prelude.{◌≡◌, ℕ, not, List, [], ◌++◌, length, if◌then◌else◌, Option, Some, None, Result, Ok, Err, ok_or}
use Rattle.std.specs.Int.{w32, to_be_bytes}
use Rattle.tpm_bytes.specs.Reading.{◌>>=◌, refused_if}
use Rattle.tpm_hash_state.specs.Hmac.{hmac_digest}
use Rattle.tpm_hash_state.specs.State.{state_digest}
use Rattle.tpm_mac.specs.declared.algorithm.HashAlg.{HashAlg}
use Rattle.tpm_record.specs.declared.hierarchy.Hierarchies.{Hierarchies}
use Rattle.tpm_record.specs.rows.Refusals.{action_refusal}
use Rattle.tpm_record.specs.rows.Rows.{all_read, parameter}
use Rattle.tpm_sequence.specs.Authorization.{is_authorized}
use Rattle.tpm_sequence.specs.Beginning.{is_generated}
use Rattle.tpm_sequence.specs.Sequence.{event_sequence, hash_sequence, object_of, object_updated, sequence_updated}
use Rattle.tpm_sequence.specs.declared.object.SequenceObject.{SequenceObject}
use Rattle.tpm_sequence.specs.declared.sequence.Sequence.{Sequence}
use Rattle.tpm_sequence.specs.declared.sequence.Sequence.TheVariants.{Event, Hash, Hmac}
use Rattle.tpm_step.specs.step.Answer.{framed_message}
use Rattle.tpm_step.specs.step.Entries.{password_answer}
use Rattle.tpm_types_common.specs.Algorithm.{hash_or_null_at}
use Rattle.tpm_types_common.specs.Buffer.{buffer_at}
use Rattle.tpm_types_common.specs.Limits.{data_limit}
use Rattle.tpm_types_common.specs.Rc.{at, plain}
use Rattle.tpm_types_common.specs.declared.action_check.ActionCheck.TheVariants as action
use Rattle.tpm_types_common.specs.declared.handle.HierarchyHandle.{HierarchyHandle}
use Rattle.tpm_types_common.specs.declared.handle.HierarchyHandle.TheVariants as kind
use Rattle.tpm_types_common.specs.declared.rc.Place.TheVariants as place
use Rattle.tpm_types_common.specs.declared.rc.ResponseCode.TheVariants as code
use Rattle.tpm_types_common.specs.declared.refused.Refused.{Refused}
use Rattle.tpm_completion.specs.Answer.{success}
use Rattle.tpm_completion.specs.Authorizing.{absent_refused, entries_at, handle_at, only_entry, password_refused, sequence_named}
use Rattle.tpm_completion.specs.Hashing.{hierarchy_at, ticketed_text}
use Rattle.tpm_completion.specs.Saving.{Reply}
use Rattle.tpm_completion.specs.Sequences.{free_slot, in_slot, sequence_handle, with_sequence, without_sequence}
use Rattle.tpm_completion.specs.declared.completion.Completion.{Completion}
use Rattle.tpm_completion.specs.declared.sequence_rows.NamedSequence.{NamedSequence}
use Rattle.tpm_types_command.specs.AuthEntry.{Entry, entry_of}

-- ---- responses to commands with sessions or passwords

-- the response that reports success to a command with sessions: the handle that it returns, if any,
-- the parameters, and the answers to the entries
abbrev pub authorized_success : (handle parameters area : List ℕ) → List ℕ
authorized_success handle parameters area =
    framed_message 0x8002 0 (handle ++ to_be_bytes w32 (length parameters) ++ parameters ++ area)

-- check A1's refusal if no slot is free
abbrev pub full_refused : Refused
full_refused = action_refusal action.First (plain code.ObjectMemory)

-- check A1's refusal if handle n names a sequence object of the wrong kind
abbrev pub mode_refused : (n : ℕ) → Refused
mode_refused n = action_refusal action.First (at (place.Handle n) (plain code.Mode))

-- the handle of the sequence object in a slot, in a response
abbrev pub slot_text : (slot : ℕ) → List ℕ
slot_text slot = to_be_bytes w32 (sequence_handle slot).number

-- The code answers as a row says: on success, with the response and the layer's new state;
-- otherwise with the refusal, and the layer's state is unchanged.
abbrev pub RepliesBy : Result Reply Refused → (old : Completion) → Result (Unit {0}) Refused
    → (new : Completion) → (text : List ℕ) → Type 0
RepliesBy row old (Ok done) new text = row ≡ Ok (record { response = text; after = new })
RepliesBy row old (Err e) new text = (row ≡ Err e) × (new ≡ old)

-- ---- TPM2_HashSequenceStart

-- the sequence that the command starts: an event sequence if hashAlg is TPM_ALG_NULL
abbrev pub started_sequence : Option HashAlg → Sequence
started_sequence (Some hash) = hash_sequence hash
started_sequence None = event_sequence

-- TPM2_HashSequenceStart, whose parameters are auth and hashAlg. OBJECT_MEMORY if no slot is free
unfoldable pub hash_start_row : Completion → List ℕ → Result Reply Refused
hash_start_row c parameters = do
  auth ← parameter 1 (buffer_at 32 parameters)
  hash ← parameter 2 (hash_or_null_at auth.1)
  ended ← all_read hash.1
  slot ← ok_or (free_slot c) full_refused
  Ok (record {
    response = success (slot_text slot);
    after = with_sequence c slot (object_of auth.0 (started_sequence hash.0));
  })

-- ---- TPM2_SequenceUpdate

-- a sequence object that a command names, the entry that authorizes it, and the command's
-- parameters
pub record Named : Type 0 where
  pub slot : ℕ
  pub object : SequenceObject
  pub entry : Entry
  pub parameters : List ℕ

-- the value of a `NamedSequence`, regardless of where its bytes are in memory
abbrev pub named_of : NamedSequence → Named
named_of named = record {
  slot = named.slot;
  object = named.object.now;
  entry = entry_of named.entry;
  parameters = named.parameters.now;
}

-- the sequence object that the only handle of a command names, and the only entry, which is not yet
-- compared
unfoldable pub named_in : Completion → List ℕ → Result Named Refused
named_in c text = do
  handle ← handle_at 1 text
  slot ← sequence_named c 1 code.ReferenceH0 handle.0
  object ← ok_or (in_slot c slot) (absent_refused code.ReferenceH0)
  entries ← entries_at handle.1
  entry ← only_entry entries.0
  Ok (record { slot = slot; object = object; entry = entry; parameters = entries.1 })

-- the sequence object that the only handle of a command names, authorized by the password in the
-- only entry
unfoldable pub sequence_in : Completion → List ℕ → Result Named Refused
sequence_in c text = do
  named ← named_in c text
  wrong ← refused_if (not (is_authorized named.object named.entry.hmac)) (password_refused 1)
  Ok named

-- the sequence object after TPM2_SequenceUpdate, whose parameter is buffer
unfoldable pub updated_in : Named → Result SequenceObject Refused
updated_in named = do
  bytes ← parameter 1 (buffer_at data_limit named.parameters)
  ended ← all_read bytes.1
  Ok (object_updated named.object bytes.0)

-- TPM2_SequenceUpdate with a password
unfoldable pub update_row : Completion → List ℕ → Result Reply Refused
update_row c text = do
  named ← sequence_in c text
  object ← updated_in named
  Ok (record {
    response = authorized_success [] [] password_answer;
    after = with_sequence c named.slot object;
  })

-- ---- TPM2_SequenceComplete

-- the answer when a sequence completes. For a hash sequence: the digest with its ticket, whose
-- hierarchy is TPM_RH_NULL if a restricted key may not sign the digest. For an HMAC sequence: the
-- HMAC with a ticket of TPM_RH_NULL. For an event sequence: None
abbrev pub completion_text : Hierarchies → HierarchyHandle → Sequence → Option (List ℕ)
completion_text h asked (Hash state beginning) =
    Some (ticketed_text h (if is_generated beginning then kind.Null else asked) (state_digest state))
completion_text h asked (Hmac state) = Some (ticketed_text h kind.Null (hmac_digest state))
completion_text h asked (Event sha1 sha256) = None

-- the answer to TPM2_SequenceComplete, whose parameters are buffer and hierarchy. Check A1 refuses
-- an event sequence with MODE for handle 1
unfoldable pub completed_in : Hierarchies → Named → Result (List ℕ) Refused
completed_in h named = do
  bytes ← parameter 1 (buffer_at data_limit named.parameters)
  asked ← parameter 2 (hierarchy_at bytes.1)
  ended ← all_read asked.1
  ok_or (completion_text h asked.0 (sequence_updated named.object.sequence bytes.0))
      (mode_refused 1)

-- TPM2_SequenceComplete with a password. It removes the sequence object
unfoldable pub complete_row : Hierarchies → Completion → List ℕ → Result Reply Refused
complete_row h c text = do
  named ← sequence_in c text
  answer ← completed_in h named
  Ok (record {
    response = authorized_success [] answer password_answer;
    after = without_sequence c named.slot;
  })

-- ---- TPM2_FlushContext

-- the reply to TPM2_FlushContext of a sequence object, which removes it; None for any other handle
abbrev pub removal_reply : Completion → Option ℕ → Option Reply
removal_reply c (Some slot) =
    Some (record { response = success []; after = without_sequence c slot })
removal_reply c None = None
