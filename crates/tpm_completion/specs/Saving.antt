-- TPM2_ContextSave, and TPM2_ContextLoad of a session's context. TPM 2.0 Library, Part 3, sections
-- 28.2 and 28.3.
use Rattle.std.specs.Prelude.{ℕ, ◌+◌, ◌-◌, ◌^◌, ◌==◌, ◌&&◌, nat_lt, not, List, is_some, if◌then◌else◌, Option, Some, None, Result, Ok, Err, slice_set}
use Rattle.std.specs.Int.{w32, to_be_bytes}
use Rattle.tpm_bytes.specs.declared.cursor.Short.{Short}
use Rattle.tpm_containers.specs.Numbered.{place_of}
use Rattle.tpm_object.specs.declared.object.Object.{Object}
use Rattle.tpm_sequence.specs.declared.object.SequenceObject.{SequenceObject}
use Rattle.tpm_session.specs.Sessions.{session_at}
use Rattle.tpm_types_common.specs.declared.handle.Handle.{Handle}
use Rattle.tpm_types_common.specs.Handle.{is_session, is_transient}
use Rattle.tpm_record.specs.Objects.{object_at}
use Rattle.tpm_record.specs.Record.{Record}
use Rattle.tpm_context.specs.Context.{context_text as object_context_text}
use Rattle.tpm_context.specs.Sequences.{sequence_context_text}
use Rattle.tpm_context.specs.declared.binding.Binding.{Binding}
use Rattle.tpm_completion.specs.Answer.{refusal, success}
use Rattle.tpm_completion.specs.Completion.{session_context}
use Rattle.tpm_completion.specs.Context.{context_text, token_at}
use Rattle.tpm_completion.specs.Sequences.{sequence_of}
use Rattle.tpm_completion.specs.declared.completion.Completion.{Completion}
use Rattle.tpm_completion.specs.declared.context.Token.{Token}

-- a response, and the layer's new state
pub record Reply : Type 0 where
  pub response : List ℕ
  pub after : Completion

-- the slot that a handle names
abbrev pub place_named : Handle → ℕ
place_named handle = place_of handle.number

-- the layer's state with a new context number for the session in a slot
abbrev pub with_session : Completion → ℕ → (context : ℕ) → Completion
with_session c place context = record c { sessions = slice_set c.sessions place context }

-- the number for the next context, if a number is left
abbrev pub next_number : Completion → Option ℕ
next_number c = if nat_lt c.count (2 ^ 64 - 1) then Some (c.count + 1) else None

-- the layer's state after it made a context with this number
abbrev pub layer_with_count : Completion → (number : ℕ) → Completion
layer_with_count c number = record c { count = number }

-- the reply with a new context, which has this number
abbrev pub counted_reply : Completion → (number : ℕ) → (context : List ℕ) → Reply
counted_reply c number context =
    record { response = success context; after = layer_with_count c number }

-- the reply that refuses the command with this code; the layer's state is unchanged
abbrev pub refusal_reply : Completion → ℕ → Reply
refusal_reply c code = record { response = refusal code; after = c }

-- ---- TPM2_ContextSave of an object

-- the values to which the context of an object or of a sequence object is bound: the layer's start number, and the device's
-- counts of TPM Resets and TPM Restarts
abbrev pub binding_of : Record → Completion → Binding
binding_of r c = record {
  start = c.start;
  reset_count = r.fixed.reset_count;
  restart_count = r.fixed.restart_count;
}

-- the reply with an object's context, whose sequence is the next number; TOO_MANY_CONTEXTS (12E) if
-- no number is left. The object stays loaded.
abbrev pub object_numbered : Record → Completion → Object → Option ℕ → Reply
object_numbered r c object (Some number) =
    counted_reply c number
    (object_context_text r.fixed.hierarchies (binding_of r c) number object)
object_numbered r c object None = refusal_reply c 0x12e

-- ---- TPM2_ContextSave of a sequence object

-- the reply with the context of a sequence object, whose sequence is the next number;
-- TOO_MANY_CONTEXTS (12E) if no number is left. The sequence object stays in its slot.
abbrev pub sequence_numbered : Record → Completion → SequenceObject → Option ℕ → Reply
sequence_numbered r c object (Some number) =
    counted_reply c number
    (sequence_context_text r.fixed.hierarchies (binding_of r c) number object)
sequence_numbered r c object None = refusal_reply c 0x12e

-- the reply to TPM2_ContextSave of a sequence object: REFERENCE_H0 (910) if it does not exist
abbrev pub sequence_saved : Record → Completion → Option SequenceObject → Reply
sequence_saved r c (Some object) = sequence_numbered r c object (next_number c)
sequence_saved r c None = refusal_reply c 0x910

-- the reply to TPM2_ContextSave of a transient handle: it names the device's object, if there is
-- one, and otherwise a sequence object
abbrev pub object_saved : Record → Completion → Handle → Option Object → Reply
object_saved r c handle (Some object) = object_numbered r c object (next_number c)
object_saved r c handle None = sequence_saved r c (sequence_of c handle)

-- ---- TPM2_ContextSave of a session

-- the reply with a session's context
abbrev pub context_given : Completion → Handle → (context : ℕ) → Reply
context_given c handle context = record {
  response = success (context_text c.start (record { context = context; handle = handle }));
  after = c;
}

-- the reply with a new context of a session; the session is then no longer loaded
abbrev pub session_numbered : Completion → Handle → Option ℕ → Reply
session_numbered c handle (Some number) =
    context_given (with_session (layer_with_count c number) (place_named handle) number)
    handle number
session_numbered c handle None = refusal_reply c 0x12e

-- the reply to TPM2_ContextSave of a session: REFERENCE_H0 (910) if the handle does not name a
-- loaded session
abbrev pub session_saved : Record → Completion → Handle → (context : ℕ) → Reply
session_saved r c handle context =
    if is_some (session_at r.sessions handle) && (context == 0) then
    session_numbered c handle (next_number c)
    else refusal_reply c 0x910

-- the reply to TPM2_ContextSave of a handle: VALUE for handle 1 (184) unless the handle is a
-- transient object's or a session's
unfoldable pub save_reply : Record → Completion → Handle → Reply
save_reply r c handle =
    if is_transient handle then object_saved r c handle (object_at r.objects handle)
    else (if is_session handle then
    session_saved r c handle (session_context c (place_named handle))
    else refusal_reply c 0x184)

-- ---- TPM2_ContextLoad of a session's context

-- the reply to loading a context: the handle
abbrev pub handle_given : Completion → Handle → Reply
handle_given c handle =
    record { response = success (to_be_bytes w32 handle.number); after = c }

-- the reply to loading a session from its context, which succeeds only once for each context
abbrev pub session_loaded : Record → Completion → Token → Reply
session_loaded r c token =
    if is_some (session_at r.sessions token.handle)
    && (not (token.context == 0)
    && (token.context == session_context c (place_named token.handle))) then
    handle_given (with_session c (place_named token.handle) 0) token.handle
    else refusal_reply c 0x1cb

-- the reply to TPM2_ContextLoad of a context that names a session. INTEGRITY for parameter 1 (1DF)
-- means that the context was not made since the layer's last start. HANDLE for parameter 1 (1CB)
-- means that the session no longer exists, that another session has its slot, or that the session
-- has been loaded since the context was saved.
abbrev pub loaded_by : Record → Completion → Result Token Short → Reply
loaded_by r c (Ok token) = session_loaded r c token
loaded_by r c (Err e) = refusal_reply c 0x1df

unfoldable pub session_load_reply : Record → Completion → List ℕ → Reply
session_load_reply r c context = loaded_by r c (token_at c.start context)
