-- A layer is valid after its answers to commands on sequence objects.
use Rattle.std.proofs.Common.{◌≡◌, ◌≤◌, ℕ, Bool, true, false, cond, ltb, List, length, take, drop, Option, Some, None, IfSome, Result, Ok, Err, IfOk, refl, subst, arith}
use Rattle.std.specs.Prelude.{◌==◌, ◌&&◌, not, ok_or, option_and_then, option_map}
use Rattle.std.specs.Int.{w16, w32}
use Rattle.std.proofs.lemmas.Bool.{ltb-false}
use Rattle.std.proofs.lemmas.List.{length-take}
use Rattle.tpm_bytes.specs.Reading.{bytes_at, number_at, or_fault, refused_if, sized_at, too_short}
use Rattle.tpm_bytes.specs.declared.cursor.Short.{Short}
use Rattle.tpm_bytes.specs.declared.cursor.SizedFault.TheVariants as fault
use Rattle.tpm_bytes.proofs.Fields.{bind_ok, guard_ok, guard_passed, or_fault_ok}
use Rattle.tpm_mac.specs.declared.algorithm.HashAlg.{HashAlg}
use Rattle.tpm_object.specs.declared.object.Object.{Object}
use Rattle.tpm_record.specs.Entity.{object_of}
use Rattle.tpm_record.specs.Record.{Record}
use Rattle.tpm_record.specs.declared.hierarchy.Hierarchies.{Hierarchies}
use Rattle.tpm_record.specs.rows.Rows.{all_read, parameter}
use Rattle.tpm_sequence.specs.Authorization.{is_authorized}
use Rattle.tpm_sequence.specs.Sequence.{hmac_sequence}
use Rattle.tpm_sequence.specs.Sequence.{object_of as sequence_object}
use Rattle.tpm_sequence_text.specs.Slot.{IsSequenceObject}
use Rattle.tpm_step.proofs.history.AuthReadings.{parameter_then}
use Rattle.tpm_step.proofs.rows.Binding.{ok_bind, ok_then}
use Rattle.tpm_types_common.proofs.Buffers.{or_sized_ok}
use Rattle.tpm_types_common.specs.Algorithm.{hash_or_null_at}
use Rattle.tpm_types_common.specs.Buffer.{buffer_at}
use Rattle.tpm_types_common.specs.Limits.{data_limit}
use Rattle.tpm_types_common.specs.declared.rc.Rc.{Rc}
use Rattle.tpm_types_common.specs.declared.rc.ResponseCode.TheVariants as code
use Rattle.tpm_types_common.specs.declared.refused.Refused.{Refused}
use Rattle.tpm_types_common.specs.Handle.{numbered_handle}
use Rattle.tpm_completion.specs.Answer.{is_refusal}
use Rattle.tpm_auth.specs.Entries.{is_password}
use Rattle.tpm_completion.specs.Authorizing.{absent_refused, entries_at, handle_at, only_entry, password_refused, sequence_named}
use Rattle.tpm_completion.specs.Command.{Command, authorized_command, plain_command}
use Rattle.tpm_completion.specs.Saving.{Reply, refusal_reply}
use Rattle.tpm_completion.specs.Sending.{HmacStart, accepted_only, complete_sent, event_complete_in, event_complete_sent, hmac_start_in, hmac_start_sent, key_hash, keyed_sequence, sent_by, sent_for, sent_in, sent_reply, start_sent, start_work, unless_password, update_sent, work_reply}
use Rattle.tpm_completion.specs.SequenceReply.{asked_reply, authorized_reply, bare_reply, flush_handle, flush_reply, needs_entry, password_reply, row_reply, sequence_reply, unsent_reply}
use Rattle.tpm_completion.specs.SequenceRows.{Named, complete_row, completed_in, full_refused, hash_start_row, named_in, removal_reply, sequence_in, started_sequence, update_row, updated_in}
use Rattle.tpm_completion.specs.Sequences.{free_slot, in_slot, slot_of}
use Rattle.tpm_completion.specs.declared.completion.Completion.{Completion}
use Rattle.tpm_completion.specs.declared.sending.Sent.{Sent}
use Rattle.tpm_completion.specs.declared.sending.Work.{Work}
use Rattle.tpm_completion.specs.declared.sending.Work.TheVariants.{Completes, Ends, Starts, Updates}
use Rattle.tpm_kept_journal.proofs.Fine.{IsFine, LeavesFine, choice, in_slot_is, with_sequence_fine, without_sequence_fine}
use Rattle.tpm_kept_journal.proofs.Widths.{event_is, hash_is, hmac_is, object_is, updated_is}

-- ---- the size of a buffer

-- A buffer is at most as long as its limit.
abbrev IsBuffer : (limit : ℕ) → List ℕ × List ℕ → Type 0
IsBuffer limit x = length x.0 ≤ limit

sized_within : (limit : ℕ) (text : List ℕ) (x : List ℕ × List ℕ) → sized_at limit text ≡ Ok x
    → IsBuffer limit x
sized_within limit text x e =
    let a = bind_ok (or_fault (number_at w16 text) fault.Short)
    (λ size. cond (ltb limit size.0) (Err fault.TooLong)
    (or_fault (bytes_at size.0 size.1) fault.Short)) x e in
    let n = a.0 in
    let g = guard_passed (ltb limit n.0) fault.TooLong (or_fault (bytes_at n.0 n.1) fault.Short) x
    a.2 in
    let u = guard_ok (ltb (length n.1) n.0) too_short (take n.0 n.1, drop n.0 n.1) x
    (or_fault_ok (bytes_at n.0 n.1) fault.Short x g.1) in
    let few : n.0 ≤ limit = ltb-false _ _ g.0 in
    subst (IsBuffer limit) u.1 (omega (arith, few, length-take n.0 n.1))

buffer_within : (limit : ℕ) (text : List ℕ) → IfOk (buffer_at limit text) (IsBuffer limit)
unfolding buffer_at
buffer_within limit text = by (buffer_at limit text) refl
  where
    by : (r : Result (List ℕ × List ℕ) Rc) → buffer_at limit text ≡ r → IfOk r (IsBuffer limit)
    by (Ok x) e = sized_within limit text x (or_sized_ok (sized_at limit text) x e)
    by (Err rc) e = tt

-- ---- commands without sessions

started_is : (auth : List ℕ) (hash : Option HashAlg) → length auth ≤ 32
    → IsSequenceObject (sequence_object auth (started_sequence hash))
started_is auth (Some hash) few = object_is auth _ few (hash_is hash)
started_is auth None few = object_is auth _ few event_is

hash_start_fine : (c : Completion) (parameters : List ℕ) → IsFine c
    → IfOk (hash_start_row c parameters) LeavesFine
unfolding hash_start_row
hash_start_fine c parameters is =
    parameter_then (IsBuffer 32) LeavesFine 1 (buffer_at 32 parameters) _
    (buffer_within 32 parameters) (λ auth few.
    ok_bind LeavesFine (parameter 2 (hash_or_null_at auth.1)) _ (λ hash.
    ok_bind LeavesFine (all_read hash.1) _ (λ ended.
    ok_bind LeavesFine (ok_or (free_slot c) full_refused) _ (λ slot.
    with_sequence_fine c slot (sequence_object auth.0 (started_sequence hash.0)) is
    (started_is auth.0 hash.0 few)))))

-- The layer's answer, if it has one, leaves a valid layer.
abbrev MayLeaveFine : Option Reply → Type 0
MayLeaveFine reply = IfSome reply LeavesFine

-- If both answers leave a valid layer, so does the answer that a condition selects.
either : (b : Bool) (x y : Option Reply) → MayLeaveFine x → MayLeaveFine y
    → MayLeaveFine (cond b x y)
either true x y p q = p
either false x y p q = q

row_reply_fine : (c : Completion) (row : Result Reply Refused) → IsFine c → IfOk row LeavesFine
    → LeavesFine (row_reply c row)
row_reply_fine c (Ok reply) is fine = fine
row_reply_fine c (Err e) is fine = is

bare_fine : (c : Completion) (command : Command) → IsFine c → MayLeaveFine (bare_reply c command)
bare_fine c command is =
    let refusal : Option Reply = Some (refusal_reply c 0x125) in
    either (command.code == 0x186) (Some (row_reply c (hash_start_row c command.parameters)))
    (cond (needs_entry command.code) refusal None)
    (row_reply_fine c (hash_start_row c command.parameters) is
    (hash_start_fine c command.parameters is))
    (either (needs_entry command.code) refusal None is tt)

-- ---- commands with sessions

ok_or_fits : {A E : Type 0} (P : A → Type 0) (found : Option A) (fault : E) → IfSome found P
    → IfOk (ok_or found fault) P
ok_or_fits P (Some x) fault is = is
ok_or_fits P None fault is = tt

-- A command names a valid sequence object.
abbrev IsNamed : Named → Type 0
IsNamed named = IsSequenceObject named.object

named_fine : (c : Completion) (text : List ℕ) → IsFine c → IfOk (named_in c text) IsNamed
unfolding named_in
named_fine c text is =
    ok_bind IsNamed (handle_at 1 text) _ (λ handle.
    ok_bind IsNamed (sequence_named c 1 code.ReferenceH0 handle.0) _ (λ slot.
    ok_then IsSequenceObject IsNamed (ok_or (in_slot c slot) (absent_refused code.ReferenceH0)) _
    (ok_or_fits IsSequenceObject (in_slot c slot) (absent_refused code.ReferenceH0)
    (in_slot_is c slot is)) (λ object one.
    ok_bind IsNamed (entries_at handle.1) _ (λ entries.
    ok_bind IsNamed (only_entry entries.0) _ (λ entry. one)))))

sequence_fine : (c : Completion) (text : List ℕ) → IsFine c → IfOk (sequence_in c text) IsNamed
unfolding sequence_in
sequence_fine c text is =
    ok_then IsNamed IsNamed (named_in c text) _ (named_fine c text is) (λ named valid.
    ok_bind IsNamed (refused_if (not (is_authorized named.object named.entry.hmac))
    (password_refused 1)) _ (λ wrong. valid))

-- Updating a valid sequence object leaves it valid.
updated_fine : (named : Named) → IsNamed named → IfOk (updated_in named) IsSequenceObject
unfolding updated_in
updated_fine named valid =
    ok_bind IsSequenceObject (parameter 1 (buffer_at data_limit named.parameters)) _ (λ bytes.
    ok_bind IsSequenceObject (all_read bytes.1) _ (λ ended. updated_is named.object bytes.0 valid))

update_fine : (c : Completion) (text : List ℕ) → IsFine c → IfOk (update_row c text) LeavesFine
unfolding update_row
update_fine c text is =
    ok_then IsNamed LeavesFine (sequence_in c text) _ (sequence_fine c text is) (λ named valid.
    ok_then IsSequenceObject LeavesFine (updated_in named) _ (updated_fine named valid)
    (λ object one.
    with_sequence_fine c named.slot object is one))

complete_fine : (h : Hierarchies) (c : Completion) (text : List ℕ) → IsFine c
    → IfOk (complete_row h c text) LeavesFine
unfolding complete_row
complete_fine h c text is =
    ok_bind LeavesFine (sequence_in c text) _ (λ named.
    ok_bind LeavesFine (completed_in h named) _ (λ answer.
    without_sequence_fine c named.slot is))

password_fine : (r : Record) (c : Completion) (command : Command) → IsFine c
    → MayLeaveFine (password_reply r c command)
password_fine r c command is =
    let complete : Option Reply =
    Some (row_reply c (complete_row r.fixed.hierarchies c command.parameters)) in
    either (command.code == 0x15c) (Some (row_reply c (update_row c command.parameters)))
    (cond (command.code == 0x13e) complete None)
    (row_reply_fine c (update_row c command.parameters) is (update_fine c command.parameters is))
    (either (command.code == 0x13e) complete None
    (row_reply_fine c (complete_row r.fixed.hierarchies c command.parameters) is
    (complete_fine r.fixed.hierarchies c command.parameters is)) tt)

unsent_fine : (c : Completion) (other : Option Reply) (sent : Option (Result Sent Refused))
    → IsFine c → MayLeaveFine other → MayLeaveFine (unsent_reply c other sent)
unsent_fine c other (Some (Ok sent)) is fine = tt
unsent_fine c other (Some (Err e)) is fine = is
unsent_fine c other None is fine = fine

authorized_fine : (r : Record) (c : Completion) (command : Command) → IsFine c
    → MayLeaveFine (authorized_reply r c command)
authorized_fine r c command is =
    unsent_fine c (password_reply r c command) (sent_by r c command.code command.parameters) is
    (password_fine r c command is)

-- ---- the whole answer

asked_fine : (r : Record) (c : Completion) (plain authorized : Result Command Short) → IsFine c
    → MayLeaveFine (asked_reply r c plain authorized)
asked_fine r c (Ok command) authorized is = bare_fine c command is
asked_fine r c (Err e) (Ok command) is = authorized_fine r c command is
asked_fine r c (Err e) (Err f) is = tt

flushed_fine : (c : Completion) (slot : Option ℕ) → IsFine c → MayLeaveFine (removal_reply c slot)
flushed_fine c (Some slot) is = without_sequence_fine c slot is
flushed_fine c None is = tt

flush_handle_fine : (c : Completion) (handle : Result (ℕ × List ℕ) Short) → IsFine c
    → MayLeaveFine (flush_handle c handle)
flush_handle_fine c (Ok handle) is =
    let slot : Option ℕ = slot_of c (numbered_handle handle.0) in
    either (length handle.1 == 0) (removal_reply c slot) None (flushed_fine c slot is) tt
flush_handle_fine c (Err e) is = tt

flush_fine : (c : Completion) (command : Result Command Short) → IsFine c
    → MayLeaveFine (flush_reply c command)
flush_fine c (Ok command) is =
    let handle : Result (ℕ × List ℕ) Short = number_at w32 command.parameters in
    either (command.code == 0x165) (flush_handle c handle) None (flush_handle_fine c handle is) tt
flush_fine c (Err e) is = tt

pub sequence_reply_fine : (r : Record) (c : Completion) (buffer response : List ℕ) → IsFine c
    → IfSome (sequence_reply r c buffer response) LeavesFine
unfolding sequence_reply
sequence_reply_fine r c buffer response is =
    let asked : Option Reply = asked_reply r c (plain_command buffer) (authorized_command buffer) in
    let flush : Option Reply = flush_reply c (plain_command buffer) in
    let rest = either (is_refusal 0x1cb response) flush None
    (flush_fine c (plain_command buffer) is) tt in
    either (not r.fixed.started) None
    (cond (is_refusal 0x143 response) asked (cond (is_refusal 0x1cb response) flush None)) tt
    (either (is_refusal 0x143 response) asked (cond (is_refusal 0x1cb response) flush None)
    (asked_fine r c (plain_command buffer) (authorized_command buffer) is) rest)

-- ---- commands for which the layer sends a command

-- The layer puts only a valid sequence object into a slot.
abbrev IsWork : Work → Type 0
IsWork (Starts slot object) = IsSequenceObject object
IsWork (Updates slot object) = IsSequenceObject object
IsWork (Completes slot answer) = Unit {0}
IsWork (Ends slot digests) = Unit {0}

abbrev pub IsSent : Sent → Type 0
IsSent sent = IfSome sent.work IsWork

abbrev IsStart : HmacStart → Type 0
IsStart start = length start.auth ≤ 32

start_within : (c : Completion) (text : List ℕ) → IfOk (hmac_start_in c text) IsStart
unfolding hmac_start_in
start_within c text =
    ok_bind IsStart (handle_at 1 text) _ (λ handle.
    ok_bind IsStart (entries_at handle.1) _ (λ entries.
    ok_bind IsStart (only_entry entries.0) _ (λ entry.
    parameter_then (IsBuffer 32) IsStart 1 (buffer_at 32 entries.1) _ (buffer_within 32 entries.1)
    (λ auth few.
    ok_bind IsStart (parameter 2 (hash_or_null_at auth.1)) _ (λ hash.
    ok_bind IsStart (all_read hash.1) _ (λ ended.
    ok_bind IsStart (ok_or (free_slot c) full_refused) _ (λ slot. few)))))))

start_is : (r : Record) (start : HmacStart) → IsStart start → IsSent (start_sent r start)
start_is r start is = by_object (object_of r start.handle)
  where
    by_hash : (o : Object) (hash : Option HashAlg)
        → IfSome (option_map (start_work start.slot start.auth)
        (option_map (λ hash. hmac_sequence hash o.sensitive) hash)) IsWork
    by_hash o (Some hash) = object_is start.auth _ is (hmac_is hash o.sensitive)
    by_hash o None = tt

    by_object : (found : Option Object)
        → IfSome (option_map (start_work start.slot start.auth)
        (option_and_then (keyed_sequence start.hash) found)) IsWork
    by_object (Some o) = by_hash o (key_hash o.public.parameters start.hash)
    by_object None = tt

hmac_start_is : (r : Record) (c : Completion) (text : List ℕ)
    → IfOk (hmac_start_sent r c text) IsSent
unfolding hmac_start_sent
hmac_start_is r c text = ok_then IsStart IsSent (hmac_start_in c text) _ (start_within c text)
    (λ start is. start_is r start is)

event_complete_is : (r : Record) (c : Completion) (text : List ℕ)
    → IfOk (event_complete_sent r c text) IsSent
unfolding event_complete_sent
event_complete_is r c text = ok_bind IsSent (event_complete_in c text) _ (λ event. tt)

update_is : (r : Record) (named : Named) → IsNamed named → IfOk (update_sent r named) IsSent
unfolding update_sent
update_is r named valid = ok_then IsSequenceObject IsSent (updated_in named) _
    (updated_fine named valid) (λ object one. one)

complete_is : (r : Record) (named : Named) → IfOk (complete_sent r named) IsSent
unfolding complete_sent
complete_is r named = ok_bind IsSent (completed_in r.fixed.hierarchies named) _ (λ answer. tt)

abbrev MayBeSent : Option (Result Sent Refused) → Type 0
MayBeSent result = IfSome result (λ r. IfOk r IsSent)

unless_is : (sends : Named → Result Sent Refused) (found : Result Named Refused)
    → IfOk found IsNamed
    → ((named : Named) → IsNamed named → IfOk (sends named) IsSent)
    → MayBeSent (unless_password sends found)
unless_is sends (Ok named) valid all =
    choice MayBeSent (is_password named.entry) None (Some (sends named)) tt (all named valid)
unless_is sends (Err e) valid all = tt

sent_by_is : (r : Record) (c : Completion) (number : ℕ) (text : List ℕ) → IsFine c
    → MayBeSent (sent_by r c number text)
sent_by_is r c number text is =
    let start : Option (Result Sent Refused) = Some (hmac_start_sent r c text) in
    let event : Option (Result Sent Refused) = Some (event_complete_sent r c text) in
    let update : Option (Result Sent Refused) = unless_password (update_sent r) (named_in c text) in
    let complete : Option (Result Sent Refused) =
    unless_password (complete_sent r) (named_in c text) in
    choice MayBeSent (number == 0x15b) start
    (cond (number == 0x185) event
    (cond (number == 0x15c) update (cond (number == 0x13e) complete None)))
    (hmac_start_is r c text)
    (choice MayBeSent (number == 0x185) event
    (cond (number == 0x15c) update (cond (number == 0x13e) complete None))
    (event_complete_is r c text)
    (choice MayBeSent (number == 0x15c) update (cond (number == 0x13e) complete None)
    (unless_is (update_sent r) (named_in c text) (named_fine c text is)
    (λ named valid. update_is r named valid))
    (choice MayBeSent (number == 0x13e) complete None
    (unless_is (complete_sent r) (named_in c text) (named_fine c text is)
    (λ named valid. complete_is r named)) tt)))

accepted_is : (result : Option (Result Sent Refused)) → MayBeSent result
    → IfSome (accepted_only result) IsSent
accepted_is (Some (Ok sent)) is = is
accepted_is (Some (Err e)) is = tt
accepted_is None is = tt

sent_in_is : (r : Record) (c : Completion) (command : Result Command Short) → IsFine c
    → IfSome (sent_in r c command) IsSent
sent_in_is r c (Ok command) is =
    accepted_is (sent_by r c command.code command.parameters)
    (sent_by_is r c command.code command.parameters is)
sent_in_is r c (Err e) is = tt

pub sent_is : (r : Record) (c : Completion) (buffer response : List ℕ) → IsFine c
    → IfSome (sent_for r c buffer response) IsSent
unfolding sent_for
sent_is r c buffer response is =
    choice (λ (sent : Option Sent). IfSome sent IsSent)
    (r.fixed.started && is_refusal 0x143 response) (sent_in r c (authorized_command buffer))
    None
    (sent_in_is r c (authorized_command buffer) is) tt

-- ---- the answer after the command that is sent

work_reply_fine : (c : Completion) (sent : Sent) (work : Option Work) (response : List ℕ) → IsFine c
    → IfSome work IsWork → LeavesFine (work_reply c sent work response)
work_reply_fine c sent (Some (Starts slot object)) response is valid =
    with_sequence_fine c slot object is valid
work_reply_fine c sent (Some (Updates slot object)) response is valid =
    with_sequence_fine c slot object is valid
work_reply_fine c sent (Some (Completes slot answer)) response is valid =
    without_sequence_fine c slot is
work_reply_fine c sent (Some (Ends slot digests)) response is valid =
    without_sequence_fine c slot is
work_reply_fine c sent None response is valid = is

pub sent_reply_fine : (c : Completion) (accepted : Bool) (sent : Sent) (response : List ℕ)
    → IsFine c → IsSent sent → LeavesFine (sent_reply c accepted sent response)
sent_reply_fine c true sent response is valid = work_reply_fine c sent sent.work response is valid
sent_reply_fine c false sent response is valid = is
