-- Sequences on two devices that differ only in secrets: the layer gives the same answers on both,
-- and sends the same commands to both, unless a sequence starts with a secret key, or the layer
-- checks an HMAC with a key that contains a secret.
use Rattle.std.proofs.Common.{[], ap, refl, sym, ◌∙◌}
use Rattle.std.specs.Prelude.{Bool, Err, List, None, Ok, Option, Result, Some, false, if◌then◌else◌, not, ok_or, option_and_then, option_map, true, ℕ, ◌&&◌, ◌++◌, ◌==◌, ◌≡◌}
use Rattle.std.specs.Option.{option_map_or}
use Rattle.tpm_auth.specs.Entries.{is_password}
use Rattle.tpm_bytes.specs.Reading.{◌>>=◌}
use Rattle.tpm_bytes.specs.Writing.{sized_text}
use Rattle.tpm_bytes.specs.declared.cursor.Short.{Short}
use Rattle.tpm_completion.specs.Answer.{is_refusal}
use Rattle.tpm_completion.specs.Command.{Command, authorized_command, plain_command}
use Rattle.tpm_completion.specs.Hashing.{hierarchy_at, ticket_text, ticketed_text}
use Rattle.tpm_completion.specs.Saving.{Reply}
use Rattle.tpm_completion.specs.Sending.{EventComplete, HmacStart, accepted_only, complete_sent, event_complete_in, event_complete_sent, event_sent, hmac_start_in, hmac_start_sent, key_hash, keyed_sequence, random_sent, sent_by, sent_for, sent_in, start_sent, unless_password, update_sent}
use Rattle.tpm_completion.specs.SequenceReply.{asked_reply, authorized_reply, flush_reply, password_reply, row_reply, sequence_reply, unsent_reply}
use Rattle.tpm_completion.specs.SequenceRows.{Named, authorized_success, complete_row, completed_in, completion_text, mode_refused, named_in, sequence_in, update_row, updated_in}
use Rattle.tpm_completion.specs.Sequences.{without_sequence}
use Rattle.tpm_completion.specs.declared.completion.Completion.{Completion}
use Rattle.tpm_completion.specs.declared.sending.Sent.{Sent}
use Rattle.tpm_completion.specs.declared.sending.Work.{Work}
use Rattle.tpm_completion.specs.declared.sending.Work.TheVariants.{Completes, Updates}
use Rattle.tpm_edge_secrecy.proofs.Contexts.{same_bind, secrets_alike}
use Rattle.tpm_edge_secrecy.specs.Layer.{LayerSendsAlike, command_is_secret, command_starts, entry_is_secret, event_is_secret, hmac_is_secret, named_is_secret, start_is_secret, start_reads, starts_secret}
use Rattle.tpm_edge_secrecy.proofs.SessionEntries.{name_alike, session_alike, value_alike}
use Rattle.tpm_hash_state.specs.Hmac.{hmac_digest}
use Rattle.tpm_hash_state.specs.State.{state_digest}
use Rattle.tpm_mac.specs.declared.algorithm.HashAlg.{HashAlg}
use Rattle.tpm_object.specs.declared.object.Object.{Object}
use Rattle.tpm_record.specs.Entity.{object_of}
use Rattle.tpm_record.specs.Record.{Record}
use Rattle.tpm_record.specs.declared.hierarchy.Secrets.{Secrets}
use Rattle.tpm_record.specs.rows.Rows.{all_read, parameter}
use Rattle.tpm_row_secrecy.proofs.Entities.{object_of_bare}
use Rattle.tpm_row_secrecy.specs.Reads.{names_secret_object}
use Rattle.tpm_row_secrecy.specs.Secrecy.{DifferInSecrets, Secrecy, bare_object, has_secret_data, unless}
use Rattle.tpm_sequence.specs.Beginning.{is_generated}
use Rattle.tpm_sequence.specs.Sequence.{hmac_sequence, sequence_updated}
use Rattle.tpm_sequence.specs.declared.sequence.Sequence.{Sequence}
use Rattle.tpm_sequence.specs.declared.sequence.Sequence.TheVariants.{Event, Hash, Hmac}
use Rattle.tpm_step.specs.step.Entries.{password_answer}
use Rattle.tpm_types_common.specs.Buffer.{buffer_at}
use Rattle.tpm_types_common.specs.Limits.{data_limit}
use Rattle.tpm_types_common.specs.declared.handle.Handle.{Handle}
use Rattle.tpm_types_common.specs.declared.handle.HierarchyHandle.{HierarchyHandle}
use Rattle.tpm_types_common.specs.declared.handle.HierarchyHandle.TheVariants as kind
use Rattle.tpm_types_common.specs.declared.refused.Refused.{Refused}

-- ---- choices

-- if two pairs of commands have the same refusals, so do the commands that a condition selects
unsent_if : (c : Completion) (told : Option Reply) (b : Bool)
    (x y z w : Option (Result Sent Refused)) → unsent_reply c told x ≡ unsent_reply c told y
    → unsent_reply c told z ≡ unsent_reply c told w
    → unsent_reply c told (if b then x else z) ≡ unsent_reply c told (if b then y else w)
unsent_if c told true x y z w same also = same
unsent_if c told false x y z w same also = also

-- ---- a key that is not secret

module _ (s : Secrecy) (asked : Option HashAlg) where
  keyed_bare : (o : Object) → has_secret_data s o ≡ false
      → keyed_sequence asked (bare_object s o) ≡ keyed_sequence asked o
  keyed_bare o free = by (has_secret_data s o) free
    where
      by : (b : Bool) → b ≡ false
          → option_map (λ (hash : HashAlg). hmac_sequence hash (unless b o.sensitive))
          (key_hash o.public.parameters asked) ≡ keyed_sequence asked o
      by false is = refl
      by true is = absurd cc

  keyed_alike : (a b : Option Object) → option_map (bare_object s) a ≡ option_map (bare_object s) b
      → option_map_or (has_secret_data s) a false ≡ false
      → option_and_then (keyed_sequence asked) a ≡ option_and_then (keyed_sequence asked) b
  keyed_alike None None same free = refl
  keyed_alike None (Some b) same free = absurd cc
  keyed_alike (Some a) None same free = absurd cc
  keyed_alike (Some a) (Some b) same free =
      let bare : bare_object s a ≡ bare_object s b = ap bare_or same in
      sym (keyed_bare a free) ∙ ap (keyed_sequence asked) bare
      ∙ keyed_bare b (sym (ap (has_secret_data s) bare) ∙ free)
    where
      bare_or : Option Object → Object
      bare_or None = a
      bare_or (Some o) = o

-- ---- two devices that differ only in secrets

module _ (s : Secrecy) (one other : Record) (differ : DifferInSecrets s one other) where
  pub ticketed_alike : (chosen : HierarchyHandle) (digest : List ℕ)
      → ticketed_text one.fixed.hierarchies chosen digest
      ≡ ticketed_text other.fixed.hierarchies chosen digest
  unfolding ticketed_text
  ticketed_alike chosen digest =
      ap (λ (x : Secrets). sized_text digest ++ ticket_text chosen x.proof digest)
      (secrets_alike s one other differ chosen)

  text_alike : (asked : HierarchyHandle) (sequence : Sequence)
      → completion_text one.fixed.hierarchies asked sequence
      ≡ completion_text other.fixed.hierarchies asked sequence
  text_alike asked (Hash state beginning) =
      ap Some (ticketed_alike (if is_generated beginning then kind.Null else asked)
      (state_digest state))
  text_alike asked (Hmac state) = ap Some (ticketed_alike kind.Null (hmac_digest state))
  text_alike asked (Event sha1 sha256) = refl

  completed_alike : (named : Named) → completed_in one.fixed.hierarchies named
      ≡ completed_in other.fixed.hierarchies named
  unfolding completed_in
  completed_alike named =
      same_bind (parameter 1 (buffer_at data_limit named.parameters)) _ _ (λ bytes.
      same_bind (parameter 2 (hierarchy_at bytes.1)) _ _ (λ asked.
      same_bind (all_read asked.1) _ _ (λ ended.
      ap (λ (x : Option (List ℕ)). ok_or x (mode_refused 1))
      (text_alike asked.0 (sequence_updated named.object.sequence bytes.0)))))

  complete_alike : (c : Completion) (text : List ℕ)
      → complete_row one.fixed.hierarchies c text ≡ complete_row other.fixed.hierarchies c text
  unfolding complete_row
  complete_alike c text =
      same_bind (sequence_in c text) _ _ (λ named.
      ap (λ (x : Result (List ℕ) Refused). x
      >>= (λ answer. let z : Result Reply Refused =
      Ok (record {
        response = authorized_success [] answer password_answer;
        after =
            without_sequence c named.slot;
      }) in z))
      (completed_alike named))

  -- if a command for which the layer sends a command is refused, it is refused in the same way
  unsent_bind : {A : Type 0} (c : Completion) (told : Option Reply) (x : Result A Refused)
      (f g : A → Sent)
      → unsent_reply c told (Some (x >>= (λ a. Ok (f a))))
      ≡ unsent_reply c told (Some (x >>= (λ a. Ok (g a))))
  unsent_bind c told (Ok a) f g = refl
  unsent_bind c told (Err e) f g = refl

  start_unsent : (c : Completion) (told : Option Reply) (text : List ℕ)
      → unsent_reply c told (Some (hmac_start_sent one c text))
      ≡ unsent_reply c told (Some (hmac_start_sent other c text))
  unfolding hmac_start_sent
  start_unsent c told text =
      unsent_bind c told (hmac_start_in c text) (start_sent one) (start_sent other)

  event_unsent : (c : Completion) (told : Option Reply) (text : List ℕ)
      → unsent_reply c told (Some (event_complete_sent one c text))
      ≡ unsent_reply c told (Some (event_complete_sent other c text))
  unfolding event_complete_sent
  event_unsent c told text =
      unsent_bind c told (event_complete_in c text) (event_sent one) (event_sent other)

  update_unsent : (c : Completion) (told : Option Reply) (named : Named)
      → unsent_reply c told (Some (update_sent one named))
      ≡ unsent_reply c told (Some (update_sent other named))
  unfolding update_sent
  update_unsent c told named =
      unsent_bind c told (updated_in named)
      (λ object. random_sent one 0x15c named (Updates named.slot object))
      (λ object. random_sent other 0x15c named (Updates named.slot object))

  complete_unsent : (c : Completion) (told : Option Reply) (named : Named)
      → unsent_reply c told (Some (complete_sent one named))
      ≡ unsent_reply c told (Some (complete_sent other named))
  unfolding complete_sent
  complete_unsent c told named =
      unsent_bind c told (completed_in one.fixed.hierarchies named)
      (λ answer. random_sent one 0x13e named (Completes named.slot answer))
      (λ answer. random_sent other 0x13e named (Completes named.slot answer))
      ∙ ap (λ (x : Result (List ℕ) Refused). unsent_reply c told
      (Some
      (x >>= (λ answer. let z : Result Sent Refused =
      Ok (random_sent other 0x13e named (Completes named.slot answer)) in z))))
      (completed_alike named)

  unless_unsent : (c : Completion) (told : Option Reply) (f g : Named → Result Sent Refused)
      (x : Result Named Refused)
      → ((named : Named) → unsent_reply c told (Some (f named))
      ≡ unsent_reply c told (Some (g named)))
      → unsent_reply c told (unless_password f x) ≡ unsent_reply c told (unless_password g x)
  unless_unsent c told f g (Ok named) same =
      unsent_if c told (is_password named.entry) None None (Some (f named)) (Some (g named))
      refl (same named)
  unless_unsent c told f g (Err e) same = refl

  unsent_alike : (c : Completion) (told : Option Reply) (code : ℕ) (text : List ℕ)
      → unsent_reply c told (sent_by one c code text)
      ≡ unsent_reply c told (sent_by other c code text)
  unsent_alike c told code text =
      unsent_if c told (code == 0x15b) _ _ _ _ (start_unsent c told text)
      (unsent_if c told (code == 0x185) _ _ _ _ (event_unsent c told text)
      (unsent_if c told (code == 0x15c) _ _ _ _
      (unless_unsent c told (update_sent one) (update_sent other) (named_in c text)
      (update_unsent c told))
      (unsent_if c told (code == 0x13e) _ _ None None
      (unless_unsent c told (complete_sent one) (complete_sent other) (named_in c text)
      (complete_unsent c told)) refl)))

  password_alike : (c : Completion) (command : Command)
      → password_reply one c command ≡ password_reply other c command
  password_alike c command =
      ap (λ (x : Result Reply Refused). if command.code == 0x15c
      then Some (row_reply c (update_row c command.parameters))
      else (if command.code == 0x13e then Some (row_reply c x) else None))
      (complete_alike c command.parameters)

  authorized_alike : (c : Completion) (command : Command)
      → authorized_reply one c command ≡ authorized_reply other c command
  authorized_alike c command =
      ap (λ (told : Option Reply). unsent_reply c told
      (sent_by one c command.code command.parameters)) (password_alike c command)
      ∙ unsent_alike c (password_reply other c command) command.code command.parameters

  asked_alike : (c : Completion) (plain authorized : Result Command Short)
      → asked_reply one c plain authorized ≡ asked_reply other c plain authorized
  asked_alike c (Ok command) authorized = refl
  asked_alike c (Err e) (Ok command) = authorized_alike c command
  asked_alike c (Err e) (Err f) = refl

  pub sequence_alike : (c : Completion) (buffer response : List ℕ)
      → sequence_reply one c buffer response ≡ sequence_reply other c buffer response
  unfolding sequence_reply
  sequence_alike c buffer response =
      ap (λ (x : Option Reply). if not one.fixed.started then None
      else (if is_refusal 0x143 response then x
      else (if is_refusal 0x1cb response then flush_reply c (plain_command buffer)
      else None))) (asked_alike c (plain_command buffer) (authorized_command buffer))
      ∙ ap (λ (started : Bool). if not started then None
      else (if is_refusal 0x143 response
      then asked_reply other c (plain_command buffer) (authorized_command buffer)
      else (if is_refusal 0x1cb response then flush_reply c (plain_command buffer)
      else None))) (ap (λ (r : Record). r.fixed.started) differ)

  -- ---- commands that are sent

  object_alike : (handle : Handle) → option_map (bare_object s) (object_of one handle)
      ≡ option_map (bare_object s) (object_of other handle)
  object_alike handle =
      sym (object_of_bare s one handle) ∙ ap (λ (r : Record). object_of r handle) differ
      ∙ object_of_bare s other handle

  start_alike : (start : HmacStart) → names_secret_object s one start.handle ≡ false
      → entry_is_secret s one (Some start.handle) start.entry ≡ false
      → start_sent one start ≡ start_sent other start
  start_alike start free shown =
      rw (
        name_alike s one other differ start.handle,
        value_alike s one other differ start.handle start.entry shown,
        session_alike s one other differ (Some start.handle) start.entry shown,
        keyed_alike s start.hash (object_of one start.handle) (object_of other start.handle)
            (object_alike start.handle) free,
      ) refl

  event_alike : (event : EventComplete) → entry_is_secret s one (Some event.pcr) event.entry ≡ false
      → event_sent one event ≡ event_sent other event
  event_alike event shown =
      rw (
        name_alike s one other differ event.pcr,
        value_alike s one other differ event.pcr event.entry shown,
        session_alike s one other differ (Some event.pcr) event.entry shown,
      ) refl

  random_alike : (code : ℕ) (named : Named) (work : Work)
      → entry_is_secret s one None named.entry ≡ false
      → random_sent one code named work ≡ random_sent other code named work
  random_alike code named work shown =
      rw (session_alike s one other differ None named.entry shown) refl

  hmac_alike : (c : Completion) (text : List ℕ) → start_reads s one (hmac_start_in c text) ≡ false
      → start_is_secret s one (hmac_start_in c text) ≡ false
      → hmac_start_sent one c text ≡ hmac_start_sent other c text
  unfolding hmac_start_sent
  hmac_alike c text free shown = by (hmac_start_in c text) free shown
    where
      by : (x : Result HmacStart Refused) → start_reads s one x ≡ false
          → start_is_secret s one x ≡ false
          → (x >>= (λ start. let z : Result Sent Refused = Ok (start_sent one start) in z))
          ≡ (x >>= (λ start. Ok (start_sent other start)))
      by (Ok start) free shown = ap Ok (start_alike start free shown)
      by (Err e) free shown = refl

  complete_event_alike : (c : Completion) (text : List ℕ)
      → event_is_secret s one (event_complete_in c text) ≡ false
      → event_complete_sent one c text ≡ event_complete_sent other c text
  unfolding event_complete_sent
  complete_event_alike c text shown = by (event_complete_in c text) shown
    where
      by : (x : Result EventComplete Refused) → event_is_secret s one x ≡ false
          → (x >>= (λ event. let z : Result Sent Refused = Ok (event_sent one event) in z))
          ≡ (x >>= (λ event. Ok (event_sent other event)))
      by (Ok event) shown = ap Ok (event_alike event shown)
      by (Err e) shown = refl

  update_alike : (named : Named) → entry_is_secret s one None named.entry ≡ false
      → update_sent one named ≡ update_sent other named
  unfolding update_sent
  update_alike named shown =
      same_bind (updated_in named) _ _
      (λ object. ap Ok (random_alike 0x15c named (Updates named.slot object) shown))

  finish_alike : (named : Named) → entry_is_secret s one None named.entry ≡ false
      → complete_sent one named ≡ complete_sent other named
  unfolding complete_sent
  finish_alike named shown =
      same_bind (completed_in one.fixed.hierarchies named) _ _
      (λ answer. ap Ok (random_alike 0x13e named (Completes named.slot answer) shown))
      ∙ ap (λ (x : Result (List ℕ) Refused). x
      >>= (λ answer. let z : Result Sent Refused =
      Ok (random_sent other 0x13e named (Completes named.slot answer)) in z))
      (completed_alike named)

  unless_alike : (f g : Named → Result Sent Refused) (x : Result Named Refused)
      → named_is_secret s one x ≡ false
      → ((named : Named) → entry_is_secret s one None named.entry ≡ false → f named ≡ g named)
      → unless_password f x ≡ unless_password g x
  unless_alike f g (Ok named) shown same =
      ap (λ (x : Result Sent Refused). if is_password named.entry then None else Some x)
      (same named shown)
  unless_alike f g (Err e) shown same = refl

  by_alike : (c : Completion) (code : ℕ) (text : List ℕ)
      → (code == 0x15b) && start_reads s one (hmac_start_in c text) ≡ false
      → command_is_secret s one c (Ok (record { code = code; parameters = text })) ≡ false
      → sent_by one c code text ≡ sent_by other c code text
  by_alike c code text free shown =
      by (code == 0x15b) (code == 0x185) (code == 0x15c) (code == 0x13e) free shown
    where
      by : (b d f g : Bool) → b && start_reads s one (hmac_start_in c text) ≡ false
          → (if b then start_is_secret s one (hmac_start_in c text)
          else (if d then event_is_secret s one (event_complete_in c text)
          else (if f then named_is_secret s one (named_in c text)
          else (if g then named_is_secret s one (named_in c text) else false)))) ≡ false
          → (if b then Some (hmac_start_sent one c text)
          else (if d then Some (event_complete_sent one c text)
          else (if f then unless_password (update_sent one) (named_in c text)
          else (if g then unless_password (complete_sent one) (named_in c text)
          else None))))
          ≡ (if b then Some (hmac_start_sent other c text)
          else (if d then Some (event_complete_sent other c text)
          else (if f then unless_password (update_sent other) (named_in c text)
          else (if g then unless_password (complete_sent other) (named_in c text)
          else None))))
      by true d f g free shown = ap Some (hmac_alike c text free shown)
      by false true f g free shown = ap Some (complete_event_alike c text shown)
      by false false true g free shown =
          unless_alike (update_sent one) (update_sent other) (named_in c text) shown update_alike
      by false false false true free shown =
          unless_alike (complete_sent one) (complete_sent other) (named_in c text) shown
          finish_alike
      by false false false false free shown = refl

  in_alike : (c : Completion) (x : Result Command Short) → command_starts s one c x ≡ false
      → command_is_secret s one c x ≡ false → sent_in one c x ≡ sent_in other c x
  in_alike c (Ok command) free shown =
      ap accepted_only (by_alike c command.code command.parameters free shown)
  in_alike c (Err e) free shown = refl

  pub sent_alike : (c : Completion) (buffer response : List ℕ)
      → starts_secret s one c buffer response ≡ false
      → hmac_is_secret s one c buffer response ≡ false
      → sent_for one c buffer response ≡ sent_for other c buffer response
  unfolding sent_for
  sent_alike c buffer response free shown =
      by one.fixed.started (is_refusal 0x143 response) free shown
      ∙ ap (λ (started : Bool). if started && is_refusal 0x143 response
      then sent_in other c (authorized_command buffer) else None)
      (ap (λ (r : Record). r.fixed.started) differ)
    where
      by : (b d : Bool) → b && (d && command_starts s one c (authorized_command buffer)) ≡ false
          → b && (d && command_is_secret s one c (authorized_command buffer)) ≡ false
          → (if b && d then sent_in one c (authorized_command buffer) else None)
          ≡ (if b && d then sent_in other c (authorized_command buffer) else None)
      by true true free shown = in_alike c (authorized_command buffer) free shown
      by true false free shown = refl
      by false d free shown = refl

pub layer_sends_alike : LayerSendsAlike
layer_sends_alike s one other c buffer response differ free shown =
    sent_alike s one other differ c buffer response free shown
