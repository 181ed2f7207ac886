-- A completing layer that is valid before a command is valid after it.
use Rattle.std.proofs.Common.{◌≡◌, ◌<◌, ◌+◌, ◌-◌, ◌^◌, ◌==◌, ℕ, Bool, true, false, cond, List, length, get_or, Option, Some, None, IfSome, Result, Ok, Err, refl, subst, sym, ◌∙◌, arith, inl, inr, length-set, ltb-true}
use Rattle.std.specs.Prelude.{nat_lt}
use Rattle.std.proofs.lemmas.Bool.{cases_lt}
use Rattle.std.proofs.lemmas.List.{get_or_past, length-map}
use Rattle.std.proofs.lemmas.List.Elements.{All-map, All-set}
use Rattle.tpm_bytes.specs.Numbers.{numbers_below}
use Rattle.tpm_bytes.specs.Reading.{number_at}
use Rattle.tpm_bytes.specs.declared.cursor.Short.{Short}
use Rattle.std.specs.Int.{w32}
use Rattle.tpm_context.specs.declared.fault.ContextFault.{ContextFault}
use Rattle.tpm_object.specs.declared.object.Object.{Object}
use Rattle.tpm_record.specs.Objects.{next_handle, object_at}
use Rattle.tpm_record.specs.Record.{Record}
use Rattle.tpm_types_common.specs.Handle.{numbered_handle}
use Rattle.tpm_types_common.specs.declared.handle.Handle.{Handle}
use Rattle.tpm_types_common.specs.Limits.{session_limit}
use Rattle.tpm_step.specs.step.Events.{Cycled, Given, Placed, PlainEvent}
use Rattle.tpm_step.specs.step.Step.{step}
use Rattle.tpm_completion.specs.Capability.{asked_at, capability_told}
use Rattle.tpm_completion.specs.Command.{Command, plain_command}
use Rattle.tpm_completion.specs.Completed.{completed_effect, completed_with, device_effect, done_after, loaded_after, sending_after}
use Rattle.tpm_completion.specs.Completion.{forgotten, sequences_kept, session_context, session_kept}
use Rattle.tpm_completion.specs.Context.{token_at}
use Rattle.tpm_completion.specs.Execution.{Seen, asked_after, opened_after, sent_after, sent_event}
use Rattle.tpm_completion.specs.Hashing.{hash_row}
use Rattle.tpm_completion.specs.Hiding.{heard}
use Rattle.tpm_completion.specs.Loading.{placed_reply}
use Rattle.tpm_completion.specs.Reply.{capability_asked, capability_reply, command_reply, load_asked, or_reply, plain_reply, probe_reply, reply, reply_by, result_reply, row_served, save_asked, served_reply, stands, stir_reply}
use Rattle.tpm_completion.specs.Testing.{incremental_row, test_parms_row, test_result_row}
use Rattle.tpm_types_common.specs.declared.refused.Refused.{Refused}
use Rattle.tpm_completion.specs.Saving.{Reply, layer_with_count, session_load_reply, loaded_by, next_number, object_numbered, object_saved, place_named, refusal_reply, save_reply, session_numbered, session_saved, with_session, binding_of, sequence_numbered, sequence_saved}
use Rattle.tpm_completion.specs.declared.capability.Asked.{Asked}
use Rattle.tpm_completion.specs.declared.completion.Completion.{Completion}
use Rattle.tpm_completion.specs.declared.context.Token.{Token}
use Rattle.tpm_completion.specs.declared.sending.Sent.{Sent}
use Rattle.tpm_completion.specs.SequenceReply.{sequence_reply}
use Rattle.tpm_completion.specs.Sequences.{no_sequences, free_slot, sequence_of}
use Rattle.tpm_kept_journal.proofs.Fine.{AreSlots, IsFine, LeavesFine, choice, free_are, with_sequence_fine}
use Rattle.tpm_kept_journal.proofs.SequenceLayers.{IsSent, sent_is, sent_reply_fine, sequence_reply_fine}
use Rattle.tpm_completion.specs.SequenceLoading.{opened_put, sequence_loaded, sequence_opened, sequence_put}
use Rattle.tpm_sequence.specs.declared.object.SequenceObject.{SequenceObject}
use Rattle.tpm_sequence_text.specs.Slot.{IsSequenceObject}
use Rattle.tpm_context.specs.Context.{content_in}
use Rattle.tpm_context.specs.Sequences.{opened_sequence, sequence_in}
use Rattle.tpm_context.proofs.SequenceLaws.{sequence_found}
use Rattle.tpm_bytes.proofs.Fields.{bind_ok}

-- ---- the contexts that are stored in slots

context_fine : (c : Completion) → IsFine c → (place : ℕ) → session_context c place < 2 ^ 64
context_fine c is place =
    elim (cases_lt place (length c.sessions)) [
      | inl lt ↦ is.each_session place 0 lt
      | inr le ↦ subst (λ (n : ℕ). n < 2 ^ 64) (sym (get_or_past c.sessions place 0 le))
          (omega arith)
    ]

session_kept_fine : (r : Record) (c : Completion) → IsFine c → (place : ℕ)
    → session_kept r c place < 2 ^ 64
unfolding session_kept
session_kept_fine r c is place =
    choice (λ (n : ℕ). n < 2 ^ 64) _ (session_context c place) 0 (context_fine c is place)
    (omega arith)

sequences_kept_are : (r : Record) (c : Completion) → IsFine c → AreSlots (sequences_kept r c)
sequences_kept_are r c is =
    choice AreSlots r.fixed.started c.sequences no_sequences (is.sequences, is.each_sequence)
    free_are

forgotten_fine : (r : Record) (c : Completion) → IsFine c → IsFine (forgotten r c)
unfolding forgotten
forgotten_fine r c is = record {
  start = is.start;
  count = is.count;
  sessions = length-map (numbers_below session_limit) (session_kept r c);
  each_session = All-map (λ (n : ℕ). n < 2 ^ 64) (session_kept r c) (numbers_below session_limit)
      (λ k d lt. session_kept_fine r c is (get_or (numbers_below session_limit) k d));
  sequences = (sequences_kept_are r c is).0;
  each_sequence = (sequences_kept_are r c is).1;
}

with_session_fine : (c : Completion) (place context : ℕ) → IsFine c → context < 2 ^ 64
    → IsFine (with_session c place context)
with_session_fine c place context is small = record {
  start = is.start;
  count = is.count;
  sessions = length-set c.sessions place context ∙ is.sessions;
  each_session = All-set (λ (n : ℕ). n < 2 ^ 64) c.sessions place context small is.each_session;
  sequences = is.sequences;
  each_sequence = is.each_sequence;
}

counted_fine : (c : Completion) (number : ℕ) → IsFine c → number < 2 ^ 64
    → IsFine (layer_with_count c number)
counted_fine c number is small = record {
  start = is.start;
  count = small;
  sessions = is.sessions;
  each_session = is.each_session;
  sequences = is.sequences;
  each_sequence = is.each_sequence;
}

-- ---- replies

-- If there is a number, it fits in 64 bits.
abbrev IsSmall : Option ℕ → Type 0
IsSmall (Some number) = number < 2 ^ 64
IsSmall None = Unit {0}

counted_on : (count : ℕ) (less : Bool) → nat_lt count (2 ^ 64 - 1) ≡ less
    → IsSmall (cond less (Some (count + 1)) None)
counted_on count true is = omega (arith, ltb-true _ _ is)
counted_on count false is = tt

next_small : (c : Completion) → IsSmall (next_number c)
next_small c = counted_on c.count (nat_lt c.count (2 ^ 64 - 1)) refl

object_numbered_fine : (r : Record) (c : Completion) (object : Object) (number : Option ℕ)
    → IsFine c → IsSmall number → LeavesFine (object_numbered r c object number)
object_numbered_fine r c object (Some number) is small = counted_fine c number is small
object_numbered_fine r c object None is small = is

sequence_numbered_fine : (r : Record) (c : Completion) (object : SequenceObject) (number : Option ℕ)
    → IsFine c → IsSmall number → LeavesFine (sequence_numbered r c object number)
sequence_numbered_fine r c object (Some number) is small = counted_fine c number is small
sequence_numbered_fine r c object None is small = is

sequence_saved_fine : (r : Record) (c : Completion) (found : Option SequenceObject) → IsFine c
    → LeavesFine (sequence_saved r c found)
sequence_saved_fine r c (Some object) is =
    sequence_numbered_fine r c object (next_number c) is (next_small c)
sequence_saved_fine r c None is = is

object_saved_fine : (r : Record) (c : Completion) (handle : Handle) (found : Option Object)
    → IsFine c → LeavesFine (object_saved r c handle found)
object_saved_fine r c handle (Some object) is =
    object_numbered_fine r c object (next_number c) is (next_small c)
object_saved_fine r c handle None is = sequence_saved_fine r c (sequence_of c handle) is

session_numbered_fine : (c : Completion) (handle : Handle) (number : Option ℕ) → IsFine c
    → IsSmall number → LeavesFine (session_numbered c handle number)
session_numbered_fine c handle (Some number) is small =
    with_session_fine (layer_with_count c number) (place_named handle) number
    (counted_fine c number is small) small
session_numbered_fine c handle None is small = is

saved_fine : (r : Record) (c : Completion) (handle : Handle) → IsFine c
    → LeavesFine (save_reply r c handle)
unfolding save_reply
saved_fine r c handle is =
    choice LeavesFine _ (object_saved r c handle (object_at r.objects handle)) _
    (object_saved_fine r c handle (object_at r.objects handle) is)
    (choice LeavesFine _ (session_saved r c handle (session_context c (place_named handle))) _
    (choice LeavesFine _ (session_numbered c handle (next_number c)) _
    (session_numbered_fine c handle (next_number c) is (next_small c)) is)
    is)

loaded_by_fine : (r : Record) (c : Completion) (token : Result Token Short) → IsFine c
    → LeavesFine (loaded_by r c token)
loaded_by_fine r c (Ok token) is =
    choice LeavesFine _ _ (refusal_reply c 0x1cb)
    (with_session_fine c (place_named token.handle) 0 is (omega arith)) is
loaded_by_fine r c (Err e) is = is

loaded_fine : (r : Record) (c : Completion) (context : List ℕ) → IsFine c
    → LeavesFine (session_load_reply r c context)
unfolding session_load_reply
loaded_fine r c context is = loaded_by_fine r c (token_at c.start context) is

-- a sequence object that was read from a context is valid
opened_is : (r : Record) (c : Completion) (context : List ℕ) (object : SequenceObject)
    → sequence_opened r c context ≡ Ok object → IsSequenceObject object
unfolding opened_sequence
opened_is r c context object e =
    let read = bind_ok (content_in r.fixed.hierarchies (binding_of r c) context)
    (λ x. sequence_in x.0 x.1) object e in
    (sequence_found read.0.0 read.0.1 object read.2).0.sized

sequence_put_fine : (c : Completion) (object : SequenceObject) (slot : Option ℕ) → IsFine c
    → IsSequenceObject object → LeavesFine (sequence_put c object slot)
sequence_put_fine c object (Some slot) is one = with_sequence_fine c slot object is one
sequence_put_fine c object None is one = is

sequence_loaded_fine : (r : Record) (c : Completion) (context : List ℕ) → IsFine c
    → LeavesFine (sequence_loaded r c context)
sequence_loaded_fine r c context is = by (sequence_opened r c context) refl
  where
    by : (opened : Result SequenceObject ContextFault) → sequence_opened r c context ≡ opened
        → LeavesFine (opened_put c opened)
    by (Ok object) found =
        sequence_put_fine c object (free_slot c) is (opened_is r c context object found)
    by (Err fault) found = is

save_asked_fine : (r : Record) (c : Completion) (response : List ℕ)
    (handle : Result (ℕ × List ℕ) Short) → IsFine c → LeavesFine (save_asked r c response handle)
save_asked_fine r c response (Ok handle) is =
    choice LeavesFine _ (save_reply r c (numbered_handle handle.0)) (stands c response)
    (saved_fine r c (numbered_handle handle.0) is) is
save_asked_fine r c response (Err e) is = is

replied_fine : (c : Completion) (row : Result (List ℕ) Refused) → IsFine c
    → LeavesFine (result_reply c row)
replied_fine c (Ok body) is = is
replied_fine c (Err e) is = is

row_served_fine : (r : Record) (c : Completion) (command : Command) (response : List ℕ) → IsFine c
    → LeavesFine (row_served r c command response)
row_served_fine r c command response is =
    choice LeavesFine _ (result_reply c (incremental_row command.parameters)) _
    (replied_fine c (incremental_row command.parameters) is)
    (choice LeavesFine _ (result_reply c (test_result_row command.parameters)) _
    (replied_fine c (test_result_row command.parameters) is)
    (choice LeavesFine _ (result_reply c (hash_row r.fixed.hierarchies command.parameters)) _
    (replied_fine c (hash_row r.fixed.hierarchies command.parameters) is)
    (choice LeavesFine _ (result_reply c (test_parms_row command.parameters)) (stands c response)
    (replied_fine c (test_parms_row command.parameters) is) is)))

served_fine : (r : Record) (c : Completion) (command : Command) (response : List ℕ) → IsFine c
    → LeavesFine (served_reply r c command response)
served_fine r c command response is =
    choice LeavesFine _ (stir_reply c command.parameters response) _
    (choice LeavesFine _ _ (stands c response) is is)
    (choice LeavesFine _ (load_asked r c command.parameters response) _
    (choice LeavesFine _ (session_load_reply r c command.parameters) _
    (loaded_fine r c command.parameters is)
    (choice LeavesFine _ (sequence_loaded r c command.parameters) (stands c response)
    (sequence_loaded_fine r c command.parameters is) is))
    (choice LeavesFine _ (save_asked r c response (number_at w32 command.parameters))
    (row_served r c command response)
    (save_asked_fine r c response (number_at w32 command.parameters) is)
    (row_served_fine r c command response is)))

listed_fine : (c : Completion) (response : List ℕ) (text : Option (List ℕ)) → IsFine c
    → LeavesFine (capability_reply c response text)
listed_fine c response (Some text) is = is
listed_fine c response None is = is

capability_fine : (r : Record) (c : Completion) (response : List ℕ) (was_told : Bool)
    (asked : Result Asked Short) → IsFine c
    → LeavesFine (capability_asked r c response was_told asked)
capability_fine r c response was_told (Ok asked) is =
    listed_fine c response (capability_told r c asked was_told response) is
capability_fine r c response was_told (Err e) is = is

command_reply_fine : (r : Record) (c : Completion) (command : Command) (response : List ℕ)
    (was_told : Bool) → IsFine c
    → LeavesFine (command_reply r c command response was_told)
unfolding command_reply
command_reply_fine r c command response was_told is =
    choice LeavesFine _ (stands c response) _ is
    (choice LeavesFine _ (served_reply r c command response) _ (served_fine r c command response is)
    (choice LeavesFine _ (capability_asked r c response was_told (asked_at command.parameters))
    (stands c response)
    (capability_fine r c response was_told (asked_at command.parameters) is) is))

probed_fine : (c : Completion) (buffer response : List ℕ) → IsFine c
    → LeavesFine (probe_reply c buffer response)
unfolding probe_reply
probed_fine c buffer response is = choice LeavesFine _ _ (stands c response) is is

reply_by_fine : (r : Record) (c : Completion) (buffer response : List ℕ) (was_told : Bool)
    (command : Result Command Short) → IsFine c
    → LeavesFine (reply_by r c buffer response was_told command)
reply_by_fine r c buffer response was_told (Ok command) is =
    command_reply_fine r c command response was_told is
reply_by_fine r c buffer response was_told (Err e) is = probed_fine c buffer response is

plain_reply_fine : (r : Record) (c : Completion) (buffer response : List ℕ) (was_told : Bool)
    → IsFine c → LeavesFine (plain_reply r c buffer response was_told)
unfolding plain_reply
plain_reply_fine r c buffer response was_told is =
    reply_by_fine r c buffer response was_told (plain_command buffer) is

or_reply_fine : (first : Option Reply) (other : Reply) → IfSome first LeavesFine → LeavesFine other
    → LeavesFine (or_reply first other)
or_reply_fine (Some reply) other fine is = fine
or_reply_fine None other fine is = is

reply_fine : (r : Record) (c : Completion) (buffer response : List ℕ) (was_told : Bool) → IsFine c
    → LeavesFine (reply r c buffer response was_told)
unfolding reply
reply_fine r c buffer response was_told is =
    or_reply_fine (sequence_reply r c buffer response) (plain_reply r c buffer response was_told)
    (sequence_reply_fine r c buffer response is) (plain_reply_fine r c buffer response was_told is)

-- ---- events

passed_fine : (c : Completion) (old : Record) (event : PlainEvent) → IsFine c
    → IsFine (device_effect c old event).layer
unfolding device_effect
passed_fine c old event is = forgotten_fine (step old event).after c is

placed_fine : (c : Completion) (handle : Option Handle) → IsFine c
    → LeavesFine (placed_reply c handle)
placed_fine c (Some handle) is = is
placed_fine c None is = is

content_fine : (first : Seen) (content : Result Object ContextFault) → IsFine first.layer
    → IsFine (loaded_after first content).layer
content_fine first (Ok object) is =
    placed_fine first.layer (next_handle first.step.after.objects) is
content_fine first (Err fault) is = is

sending_fine : (first : Seen) (buffer : List ℕ) (locality : ℕ) (random : List ℕ)
    (sent : Option Sent) → IsFine first.layer → IfSome sent IsSent
    → IsFine (sending_after first buffer locality random sent).layer
sending_fine first buffer locality random (Some sent) is valid =
    let second : Seen = device_effect first.layer first.step.after
    (sent_event sent locality random) in
    sent_reply_fine second.layer (second.step.row.check == 0) sent second.step.response
    (passed_fine first.layer first.step.after (sent_event sent locality random) is) valid
sending_fine first buffer locality random None is valid =
    reply_fine first.step.after first.layer buffer first.step.response (first.step.row.check == 0)
    is

done_fine : (first : Seen) (buffer : List ℕ) (locality : ℕ) (random : List ℕ)
    (asked : Option (List ℕ)) → IsFine first.layer
    → IsFine (done_after first buffer locality random asked).layer
done_fine first buffer locality random (Some context) is =
    content_fine first (opened_after first context) is
done_fine first buffer locality random None is =
    sending_fine first buffer locality random (sent_after first buffer) is
    (sent_is first.step.after first.layer buffer first.step.response is)

with_fine : (c : Completion) (old : Record) (event : PlainEvent) → IsFine c
    → IsFine (completed_with c old event).layer
with_fine c old (Given buffer locality elapsed random) is =
    let first : Seen = device_effect c old (Given buffer locality elapsed random) in
    done_fine first buffer locality random (asked_after first buffer)
    (passed_fine c old (Given buffer locality elapsed random) is)
with_fine c old Cycled is = passed_fine c old Cycled is
with_fine c old (Placed object) is = passed_fine c old (Placed object) is

pub completed_fine : (completes : Bool) (c : Completion) (old : Record) (event : PlainEvent)
    → IsFine c → IsFine (completed_effect completes c old event).layer
completed_fine false c old event is = passed_fine c old event is
completed_fine true c old event is = with_fine c old (heard c event) is
