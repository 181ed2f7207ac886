-- No answer of the layer changes the layer's start number.
use Rattle.std.proofs.Common.{◌≡◌, ℕ, Bool, true, false, List, [], Option, Some, None, Result, Ok, Err, IfOk, IfSome, refl}
use Rattle.std.specs.Prelude.{◌==◌, ◌&&◌, is_some, length, not, ok_or, if◌then◌else◌}
use Rattle.std.specs.Str.{bytes_eq}
use Rattle.std.specs.Int.{w32}
use Rattle.tpm_bytes.specs.Reading.{◌>>=◌, number_at, sized_at}
use Rattle.tpm_bytes.specs.declared.cursor.Short.{Short}
use Rattle.tpm_object.specs.declared.object.Object.{Object}
use Rattle.tpm_record.specs.Objects.{object_at}
use Rattle.tpm_record.specs.Record.{Record}
use Rattle.tpm_types_common.specs.declared.handle.Handle.{Handle}
use Rattle.tpm_types_common.specs.declared.refused.Refused.{Refused}
use Rattle.tpm_session.specs.Sessions.{session_at}
use Rattle.tpm_step.specs.step.Answer.{framed_message}
use Rattle.tpm_types_common.specs.Handle.{is_session, is_transient, numbered_handle}
use Rattle.tpm_completion.specs.Answer.{is_refusal, refusal, success}
use Rattle.tpm_completion.specs.Capability.{asked_at, capability_told}
use Rattle.tpm_completion.specs.Command.{Command, authorized_command, plain_command, tag_of}
use Rattle.tpm_completion.specs.Completion.{session_context}
use Rattle.tpm_completion.specs.Context.{names_session, token_at, names_sequence}
use Rattle.tpm_completion.specs.Hashing.{hash_row}
use Rattle.tpm_completion.specs.Loading.{placed_reply}
use Rattle.tpm_completion.specs.Reply.{capability_asked, command_reply, is_stirred, capability_reply, stands, load_asked, or_reply, plain_reply, probe_reply, result_reply, reply, reply_by, row_served, save_asked, served_reply, stir_reply}
use Rattle.tpm_completion.specs.Saving.{Reply, handle_given, refusal_reply, with_session, session_load_reply, loaded_by, next_number, object_numbered, object_saved, place_named, save_reply, session_numbered, session_saved, sequence_numbered, sequence_saved}
use Rattle.tpm_completion.specs.Sending.{sent_by, sent_reply, work_reply}
use Rattle.tpm_completion.specs.SequenceReply.{asked_reply, authorized_reply, bare_reply, flush_handle, flush_reply, needs_entry, password_reply, row_reply, sequence_reply, unsent_reply}
use Rattle.tpm_completion.specs.SequenceRows.{complete_row, completed_in, full_refused, hash_start_row, removal_reply, sequence_in, update_row, updated_in}
use Rattle.tpm_completion.specs.Sequences.{free_slot, slot_of, sequence_of}
use Rattle.tpm_completion.specs.Testing.{incremental_row, test_parms_row, test_result_row}
use Rattle.tpm_completion.specs.declared.capability.Asked.{Asked}
use Rattle.tpm_completion.specs.declared.completion.Completion.{Completion}
use Rattle.tpm_completion.specs.declared.context.Token.{Token}
use Rattle.tpm_completion.specs.declared.sending.Sent.{Sent}
use Rattle.tpm_completion.specs.declared.sending.Work.{Work}
use Rattle.tpm_completion.specs.declared.sending.Work.TheVariants.{Completes, Ends, Starts, Updates}
use Rattle.tpm_record.specs.declared.hierarchy.Hierarchies.{Hierarchies}
use Rattle.tpm_record.specs.rows.Rows.{all_read, parameter}
use Rattle.tpm_types_common.specs.Algorithm.{hash_or_null_at}
use Rattle.tpm_types_common.specs.Buffer.{buffer_at}
use Rattle.tpm_completion.specs.SequenceLoading.{opened_put, sequence_loaded, sequence_opened, sequence_put}
use Rattle.tpm_sequence.specs.declared.object.SequenceObject.{SequenceObject}
use Rattle.tpm_context.specs.declared.fault.ContextFault.{ContextFault}

-- The layer has this start number after a reply.
record StartsAt (start : ℕ) (reply : Reply) : Type 0 where
  is : reply.after.start ≡ start

either : (b : Bool) (start : ℕ) (x y : Reply) → StartsAt start x → StartsAt start y
    → StartsAt start (if b then x else y)
either true start x y h k = h
either false start x y h k = k

-- if every success of the second step satisfies a property, so does the success of both steps
then_ok : {A B E : Type 0} (Is : B → Type 0) (x : Result A E) (f : A → Result B E)
    → ((a : A) → IfOk (f a) Is) → IfOk (x >>= f) Is
then_ok Is (Ok a) f each = each a
then_ok Is (Err e) f each = tt

module _ (r : Record) (c : Completion) where
  abbrev Starting : Reply → Type 0
  Starting reply = StartsAt c.start reply

  -- ---- saving

  numbered_starts : (o : Object) (number : Option ℕ)
      → StartsAt c.start (object_numbered r c o number)
  numbered_starts o (Some number) = record { is = refl }
  numbered_starts o None = record { is = refl }

  sequence_number_starts : (o : SequenceObject) (number : Option ℕ)
      → StartsAt c.start (sequence_numbered r c o number)
  sequence_number_starts o (Some number) = record { is = refl }
  sequence_number_starts o None = record { is = refl }

  sequence_save_starts : (found : Option SequenceObject)
      → StartsAt c.start (sequence_saved r c found)
  sequence_save_starts (Some o) = sequence_number_starts o (next_number c)
  sequence_save_starts None = record { is = refl }

  object_starts : (handle : Handle) (found : Option Object)
      → StartsAt c.start (object_saved r c handle found)
  object_starts handle (Some o) = numbered_starts o (next_number c)
  object_starts handle None = sequence_save_starts (sequence_of c handle)

  session_number_starts : (handle : Handle) (number : Option ℕ)
      → StartsAt c.start (session_numbered c handle number)
  session_number_starts handle (Some number) = record { is = refl }
  session_number_starts handle None = record { is = refl }

  session_starts : (handle : Handle) (context : ℕ)
      → StartsAt c.start (session_saved r c handle context)
  session_starts handle context =
      either (is_some (session_at r.sessions handle) && (context == 0)) c.start
      (session_numbered c handle (next_number c)) (refusal_reply c 0x910)
      (session_number_starts handle (next_number c)) (record { is = refl })

  saved_starts : (handle : Handle) → StartsAt c.start (save_reply r c handle)
  unfolding save_reply
  saved_starts handle =
      let session = session_saved r c handle (session_context c (place_named handle)) in
      let other = refusal_reply c 0x184 in
      either (is_transient handle) c.start (object_saved r c handle (object_at r.objects handle))
      (if is_session handle then session else other)
      (object_starts handle (object_at r.objects handle))
      (either (is_session handle) c.start session other
      (session_starts handle (session_context c (place_named handle))) (record { is = refl }))

  save_starts : (response : List ℕ) (handle : Result (ℕ × List ℕ) Short)
      → StartsAt c.start (save_asked r c response handle)
  save_starts response (Ok handle) =
      either (length handle.1 == 0) c.start (save_reply r c (numbered_handle handle.0))
      (stands c response) (saved_starts (numbered_handle handle.0)) (record { is = refl })
  save_starts response (Err e) = record { is = refl }

  -- ---- loading the context of a session

  token_starts : (token : Result Token Short) → StartsAt c.start (loaded_by r c token)
  token_starts (Ok token) =
      either (is_some (session_at r.sessions token.handle)
      && (not (token.context == 0)
      && (token.context == session_context c (place_named token.handle)))) c.start
      (handle_given (with_session c (place_named token.handle) 0) token.handle)
      (refusal_reply c 0x1cb) (record { is = refl }) (record { is = refl })
  token_starts (Err e) = record { is = refl }

  put_starts : (o : SequenceObject) (slot : Option ℕ) → StartsAt c.start (sequence_put c o slot)
  put_starts o (Some slot) = record { is = refl }
  put_starts o None = record { is = refl }

  opened_starts : (opened : Result SequenceObject ContextFault)
      → StartsAt c.start (opened_put c opened)
  opened_starts (Ok o) = put_starts o (free_slot c)
  opened_starts (Err fault) = record { is = refl }

  load_starts : (context response : List ℕ) → StartsAt c.start (load_asked r c context response)
  unfolding session_load_reply
  load_starts context response =
      let sequence = sequence_loaded r c context in
      let none = stands c response in
      either (names_session context) c.start (loaded_by r c (token_at c.start context))
      (if names_sequence context then sequence else none)
      (token_starts (token_at c.start context))
      (either (names_sequence context) c.start sequence none
      (opened_starts (sequence_opened r c context)) (record { is = refl }))

  -- ---- the other commands

  row_starts : (row : Result (List ℕ) Refused) → StartsAt c.start (result_reply c row)
  row_starts (Ok body) = record { is = refl }
  row_starts (Err e) = record { is = refl }

  rows_start : (command : Command) (response : List ℕ)
      → StartsAt c.start (row_served r c command response)
  rows_start command response =
      let one = result_reply c (incremental_row command.parameters) in
      let two = result_reply c (test_result_row command.parameters) in
      let three = result_reply c (hash_row r.fixed.hierarchies command.parameters) in
      let four = result_reply c (test_parms_row command.parameters) in
      let none = stands c response in
      let after_three = if command.code == 0x18a then four else none in
      let after_two = if command.code == 0x17d then three else after_three in
      let after_one = if command.code == 0x17c then two else after_two in
      either (command.code == 0x142) c.start one after_one
      (row_starts (incremental_row command.parameters))
      (either (command.code == 0x17c) c.start two after_two
      (row_starts (test_result_row command.parameters))
      (either (command.code == 0x17d) c.start three after_three
      (row_starts (hash_row r.fixed.hierarchies command.parameters))
      (either (command.code == 0x18a) c.start four none
      (row_starts (test_parms_row command.parameters)) (record { is = refl }))))

  stir_starts : (parameters response : List ℕ) → StartsAt c.start (stir_reply c parameters response)
  stir_starts parameters response =
      either (is_stirred (sized_at 128 parameters)) c.start
      (record { response = success []; after = c }) (stands c response) (record { is = refl })
      (record { is = refl })

  served_starts : (command : Command) (response : List ℕ)
      → StartsAt c.start (served_reply r c command response)
  served_starts command response =
      let stir = stir_reply c command.parameters response in
      let load = load_asked r c command.parameters response in
      let save = save_asked r c response (number_at w32 command.parameters) in
      let row = row_served r c command response in
      let after_load = if command.code == 0x162 then save else row in
      let after_stir = if command.code == 0x161 then load else after_load in
      either (command.code == 0x146) c.start stir after_stir
      (stir_starts command.parameters response)
      (either (command.code == 0x161) c.start load after_load
      (load_starts command.parameters response)
      (either (command.code == 0x162) c.start save row
      (save_starts response (number_at w32 command.parameters))
      (rows_start command response)))

  listed_starts : (response : List ℕ) (text : Option (List ℕ))
      → StartsAt c.start (capability_reply c response text)
  listed_starts response (Some text) = record { is = refl }
  listed_starts response None = record { is = refl }

  capability_starts : (response : List ℕ) (was_told : Bool) (asked : Result Asked Short)
      → StartsAt c.start (capability_asked r c response was_told asked)
  capability_starts response was_told (Ok asked) =
      listed_starts response (capability_told r c asked was_told response)
  capability_starts response was_told (Err e) = record { is = refl }

  command_starts : (command : Command) (response : List ℕ) (was_told : Bool)
      → StartsAt c.start (command_reply r c command response was_told)
  unfolding command_reply
  command_starts command response was_told =
      let none = stands c response in
      let own = served_reply r c command response in
      let capability = capability_asked r c response was_told (asked_at command.parameters) in
      let after_own = if command.code == 0x17a then capability else none in
      let started = if is_refusal 0x143 response then own else after_own in
      either (not r.fixed.started) c.start none started (record { is = refl })
      (either (is_refusal 0x143 response) c.start own after_own (served_starts command response)
      (either (command.code == 0x17a) c.start capability none
      (capability_starts response was_told (asked_at command.parameters))
      (record { is = refl })))

  probe_starts : (buffer response : List ℕ) → StartsAt c.start (probe_reply c buffer response)
  unfolding probe_reply
  probe_starts buffer response =
      either ((tag_of buffer == 0xc1) && bytes_eq response (framed_message 0xc4 0x1e [])) c.start
      (record { response = refusal 0x84; after = c }) (stands c response) (record { is = refl })
      (record { is = refl })

  by_starts : (buffer response : List ℕ) (was_told : Bool) (command : Result Command Short)
      → StartsAt c.start (reply_by r c buffer response was_told command)
  by_starts buffer response was_told (Ok command) = command_starts command response was_told
  by_starts buffer response was_told (Err e) = probe_starts buffer response

  plain_starts : (buffer response : List ℕ) (was_told : Bool)
      → StartsAt c.start (plain_reply r c buffer response was_told)
  unfolding plain_reply
  plain_starts buffer response was_told = by_starts buffer response was_told (plain_command buffer)

  -- ---- commands on sequence objects

  started_starts : (parameters : List ℕ) → IfOk (hash_start_row c parameters) Starting
  unfolding hash_start_row
  started_starts parameters =
      then_ok Starting (parameter 1 (buffer_at 32 parameters)) _ (λ auth.
      then_ok Starting (parameter 2 (hash_or_null_at auth.1)) _ (λ hash.
      then_ok Starting (all_read hash.1) _ (λ ended.
      then_ok Starting (ok_or (free_slot c) full_refused) _ (λ slot. record { is = refl }))))

  updated_starts : (text : List ℕ) → IfOk (update_row c text) Starting
  unfolding update_row
  updated_starts text =
      then_ok Starting (sequence_in c text) _ (λ named.
      then_ok Starting (updated_in named) _ (λ object. record { is = refl }))

  completed_starts : (h : Hierarchies) (text : List ℕ) → IfOk (complete_row h c text) Starting
  unfolding complete_row
  completed_starts h text =
      then_ok Starting (sequence_in c text) _ (λ named.
      then_ok Starting (completed_in h named) _ (λ answer. record { is = refl }))

  reply_by_row : (row : Result Reply Refused) → IfOk row Starting
      → StartsAt c.start (row_reply c row)
  reply_by_row (Ok reply) is = is
  reply_by_row (Err e) is = record { is = refl }

  unsent_starts : (other : Option Reply) (sent : Option (Result Sent Refused))
      → IfSome other Starting → IfSome (unsent_reply c other sent) Starting
  unsent_starts other (Some (Ok sent)) is = tt
  unsent_starts other (Some (Err e)) is = record { is = refl }
  unsent_starts other None is = is

  some_or : (b : Bool) (x y : Option Reply) → IfSome x Starting → IfSome y Starting
      → IfSome (if b then x else y) Starting
  some_or true x y h k = h
  some_or false x y h k = k

  password_starts : (command : Command) → IfSome (password_reply r c command) Starting
  password_starts command =
      some_or (command.code == 0x15c) _ _
      (reply_by_row (update_row c command.parameters) (updated_starts command.parameters))
      (some_or (command.code == 0x13e) _ None
      (reply_by_row (complete_row r.fixed.hierarchies c command.parameters)
      (completed_starts r.fixed.hierarchies command.parameters)) tt)

  authorized_starts : (command : Command) → IfSome (authorized_reply r c command) Starting
  authorized_starts command =
      unsent_starts (password_reply r c command) (sent_by r c command.code command.parameters)
      (password_starts command)

  bare_starts : (command : Command) → IfSome (bare_reply c command) Starting
  bare_starts command =
      some_or (command.code == 0x186) _ _
      (reply_by_row (hash_start_row c command.parameters) (started_starts command.parameters))
      (some_or (needs_entry command.code) _ _ (record { is = refl }) tt)

  asked_starts : (plain authorized : Result Command Short)
      → IfSome (asked_reply r c plain authorized) Starting
  asked_starts (Ok command) authorized = bare_starts command
  asked_starts (Err e) (Ok command) = authorized_starts command
  asked_starts (Err e) (Err f) = tt

  flushed_starts : (slot : Option ℕ) → IfSome (removal_reply c slot) Starting
  flushed_starts (Some slot) = record { is = refl }
  flushed_starts None = tt

  handle_starts : (handle : Result (ℕ × List ℕ) Short) → IfSome (flush_handle c handle) Starting
  handle_starts (Ok handle) =
      some_or (length handle.1 == 0) _ None (flushed_starts (slot_of c (numbered_handle handle.0)))
      tt
  handle_starts (Err e) = tt

  flush_starts : (command : Result Command Short) → IfSome (flush_reply c command) Starting
  flush_starts (Ok command) =
      some_or (command.code == 0x165) _ None (handle_starts (number_at w32 command.parameters)) tt
  flush_starts (Err e) = tt

  sequence_starts : (buffer response : List ℕ)
      → IfSome (sequence_reply r c buffer response) Starting
  unfolding sequence_reply
  sequence_starts buffer response =
      some_or (not r.fixed.started) None _ tt
      (some_or (is_refusal 0x143 response) _ _
      (asked_starts (plain_command buffer) (authorized_command buffer))
      (some_or (is_refusal 0x1cb response) _ None (flush_starts (plain_command buffer)) tt))

  or_starts : (reply : Option Reply) (other : Reply) → IfSome reply Starting
      → StartsAt c.start other → StartsAt c.start (or_reply reply other)
  or_starts (Some reply) other is also = is
  or_starts None other is also = also

  pub reply_starts : (buffer response : List ℕ) (was_told : Bool)
      → (reply r c buffer response was_told).after.start ≡ c.start
  unfolding reply
  reply_starts buffer response was_told =
      (or_starts (sequence_reply r c buffer response) (plain_reply r c buffer response was_told)
      (sequence_starts buffer response) (plain_starts buffer response was_told)).is

-- the answer after a command that the layer sent does not change the layer's start number
work_starts : (c : Completion) (sent : Sent) (work : Option Work) (response : List ℕ)
    → (work_reply c sent work response).after.start ≡ c.start
work_starts c sent (Some (Starts slot object)) response = refl
work_starts c sent (Some (Updates slot object)) response = refl
work_starts c sent (Some (Completes slot answer)) response = refl
work_starts c sent (Some (Ends slot digests)) response = refl
work_starts c sent None response = refl

pub sent_starts : (c : Completion) (accepted : Bool) (sent : Sent) (response : List ℕ)
    → (sent_reply c accepted sent response).after.start ≡ c.start
sent_starts c true sent response = work_starts c sent sent.work response
sent_starts c false sent response = refl

pub placed_starts : (c : Completion) (handle : Option Handle)
    → (placed_reply c handle).after.start ≡ c.start
placed_starts c (Some handle) = refl
placed_starts c None = refl
