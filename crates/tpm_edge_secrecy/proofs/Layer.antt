-- The completing layer reads no secrets of a device, except whether three authorization values are
-- empty, and the objects whose contexts it makes.
use Rattle.std.proofs.Common.{ap, refl, subst, sym, ◌∙◌}
use Rattle.std.proofs.lemmas.List.Folds.{fold-map}
use Rattle.std.proofs.lemmas.List.{length-map}
use Rattle.std.specs.Int.{w32}
use Rattle.std.specs.Option.{option_map_or}
use Rattle.std.specs.Prelude.{Bool, Err, List, None, Ok, Option, Result, Some, [], cond, false, if◌then◌else◌, is_some, length, map, not, option_map, true, ℕ, ◌&&◌, ◌+◌, ◌++◌, ◌-◌, ◌/◌, ◌==◌, ◌^◌, ◌∷◌, ◌≡◌}
use Rattle.tpm_actions_capability.specs.Elements.{object_element, object_elements}
use Rattle.tpm_actions_capability.specs.declared.element.Element.{Element}
use Rattle.tpm_bytes.specs.Numbers.{numbers_below}
use Rattle.tpm_bytes.specs.Reading.{number_at}
use Rattle.tpm_bytes.specs.declared.cursor.Short.{Short}
use Rattle.tpm_completion.specs.Answer.{is_refusal, success}
use Rattle.tpm_completion.specs.Capability.{asked_at, capability_told, command_elements, handles_told, told_of}
use Rattle.tpm_completion.specs.Command.{Command, plain_command}
use Rattle.tpm_completion.specs.Completion.{forgotten, sequences_kept, session_context, session_kept}
use Rattle.tpm_completion.specs.Context.{names_session, token_at, names_sequence}
use Rattle.tpm_completion.specs.Handles.{is_in_state, session_shown, sessions_shown}
use Rattle.tpm_completion.specs.Hashing.{hash_row, hierarchy_at, ticket_hierarchy}
use Rattle.tpm_completion.specs.Listing.{element, listing}
use Rattle.tpm_completion.specs.Properties.{active_count, attribute_if, count_elements, counter_count, identity_elements, index_count, is_counter, limit_elements, lockout_elements, object_count, permanent_attributes, property_elements, session_count, startup_attributes, values_set}
use Rattle.tpm_completion.specs.Reply.{capability_asked, capability_reply, command_reply, load_asked, or_reply, plain_reply, probe_reply, reply, reply_by, result_reply, row_served, save_asked, served_reply, stands}
use Rattle.tpm_completion.specs.Saving.{Reply, binding_of, handle_given, session_load_reply, loaded_by, next_number, object_numbered, object_saved, place_named, refusal_reply, save_reply, session_loaded, session_numbered, session_saved, with_session, counted_reply, sequence_numbered, sequence_saved}
use Rattle.tpm_completion.specs.SequenceReply.{sequence_reply}
use Rattle.tpm_completion.specs.Testing.{incremental_row, test_parms_row, test_result_row}
use Rattle.tpm_completion.specs.declared.capability.Asked.{Asked}
use Rattle.tpm_completion.specs.declared.completion.Completion.{Completion}
use Rattle.tpm_completion.specs.declared.context.Token.{Token}
use Rattle.tpm_containers.specs.Slots.{at_place}
use Rattle.tpm_context.specs.Context.{context_text}
use Rattle.tpm_edge_secrecy.proofs.Contexts.{context_alike, same_bind, same_object, sequence_context_alike, sequence_opened_alike}
use Rattle.tpm_edge_secrecy.proofs.Sequences.{sequence_alike, ticketed_alike}
use Rattle.tpm_edge_secrecy.specs.Layer.{LayerAnswersAlike, LayerForgetsAlike, LayerSavesAlike, RepliesAlike, SetAlike, command_saves, handle_saves, has_secret, saves_object, saves_secret}
use Rattle.tpm_lockout.specs.Tries.{is_locked}
use Rattle.tpm_mac.specs.Digest.{hash_of}
use Rattle.tpm_nv.specs.Head.{head_of}
use Rattle.tpm_nv.specs.Index.{NvIndex}
use Rattle.tpm_nv.specs.declared.head.Head.{Head}
use Rattle.tpm_object.specs.declared.object.Object.{Object}
use Rattle.tpm_record.specs.Objects.{object_at}
use Rattle.tpm_record.specs.Record.{Record}
use Rattle.tpm_record.specs.rows.Rows.{all_read, parameter}
use Rattle.tpm_row_secrecy.proofs.CapabilityRows.{object_same, of_places, session_same}
use Rattle.tpm_row_secrecy.proofs.Each.{is_some_of, place_of_each, places}
use Rattle.tpm_row_secrecy.proofs.Entities.{object_at_bare, session_at_bare}
use Rattle.tpm_row_secrecy.specs.Secrecy.{DifferInSecrets, Secrecy, bare_index, bare_object, bare_session, without_secrets}
use Rattle.tpm_session.specs.Sessions.{session_at}
use Rattle.tpm_types_common.specs.Algorithm.{hash_at}
use Rattle.tpm_types_common.specs.Buffer.{buffer_at}
use Rattle.tpm_types_common.specs.Handle.{is_session, is_transient, numbered_handle}
use Rattle.tpm_types_common.specs.Limits.{data_limit, object_limit, persistent_limit, session_limit}
use Rattle.tpm_types_common.specs.declared.handle.Handle.{Handle}
use Rattle.tpm_types_common.specs.declared.refused.Refused.{Refused}
use Rattle.tpm_completion.specs.declared.listing.Form.TheVariants as form
use Rattle.tpm_completion.specs.Sequences.{sequence_of}
use Rattle.tpm_completion.specs.SequenceLoading.{opened_put, sequence_loaded}
use Rattle.tpm_sequence.specs.declared.object.SequenceObject.{SequenceObject}
use Rattle.tpm_context.specs.declared.fault.ContextFault.{ContextFault}

map_same : {A B : Type 0} (f g : A → B) → ((a : A) → f a ≡ g a) → (xs : List A)
    → map f xs ≡ map g xs
map_same f g same [] = refl
map_same {B = B} f g same (x ∷ xs) =
    ap (λ (y : B). y ∷ map f xs) (same x) ∙ ap (λ (ys : List B). g x ∷ ys) (map_same f g same xs)

abbrev head_entry : ℕ × NvIndex → ℕ × Head
head_entry e = (e.0, head_of e.1)

abbrev counted : ℕ → ℕ × Head → ℕ
counted n e = n + cond (is_counter e) 1 0

module _ (s : Secrecy) (r : Record) where
  -- ---- which sessions exist

  session_there : (handle : Handle)
      → is_some (session_at (places (bare_session s) r.sessions) handle)
      ≡ is_some (session_at r.sessions handle)
  session_there handle = ap is_some (session_at_bare s r.sessions handle)
      ∙ is_some_of (bare_session s) (session_at r.sessions handle)

  place_there : (place : ℕ) → is_some (at_place (places (bare_session s) r.sessions) place)
      ≡ is_some (at_place r.sessions place)
  place_there place = ap is_some (place_of_each (bare_session s) r.sessions place)
      ∙ is_some_of (bare_session s) (at_place r.sessions place)

  -- ---- what the layer remembers

  session_kept_same : (c : Completion) (place : ℕ)
      → session_kept (without_secrets s r) c place ≡ session_kept r c place
  unfolding session_kept
  session_kept_same c place =
      ap (λ (there : Bool). if there then session_context c place else 0) (place_there place)

  pub forgotten_same : (c : Completion) → forgotten (without_secrets s r) c ≡ forgotten r c
  unfolding forgotten
  forgotten_same c =
      ap (λ (sessions : List ℕ). record c { sessions = sessions; sequences = sequences_kept r c })
      (map_same (session_kept (without_secrets s r) c) (session_kept r c) (session_kept_same c)
      (numbers_below session_limit))

  -- ---- which contexts contain secrets

  secret_there : (found : Option Object)
      → option_map_or (has_secret s) (option_map (bare_object s) found) false
      ≡ option_map_or (has_secret s) found false
  secret_there None = refl
  secret_there (Some o) = refl

  object_saves_same : (c : Completion) (handle : Handle)
      → saves_object s (without_secrets s r) c handle ≡ saves_object s r c handle
  object_saves_same c handle =
      ap (λ (has : Bool). is_transient handle && (is_some (next_number c) && has))
      (ap (λ (found : Option Object). option_map_or (has_secret s) found false)
      (object_at_bare s r.objects handle) ∙ secret_there (object_at r.objects handle))

  handle_saves_same : (c : Completion) (x : Result (ℕ × List ℕ) Short)
      → handle_saves s (without_secrets s r) c x ≡ handle_saves s r c x
  handle_saves_same c (Ok handle) =
      ap (λ (saved : Bool). (length handle.1 == 0) && saved)
      (object_saves_same c (numbered_handle handle.0))
  handle_saves_same c (Err e) = refl

  command_saves_same : (c : Completion) (x : Result Command Short)
      → command_saves s (without_secrets s r) c x ≡ command_saves s r c x
  command_saves_same c (Ok command) =
      ap (λ (saved : Bool). (command.code == 0x162) && saved)
      (handle_saves_same c (number_at w32 command.parameters))
  command_saves_same c (Err e) = refl

  saves_same : (c : Completion) (buffer response : List ℕ)
      → saves_secret s (without_secrets s r) c buffer response ≡ saves_secret s r c buffer response
  saves_same c buffer response =
      ap (λ (saved : Bool). r.fixed.started && (is_refusal 0x143 response && saved))
      (command_saves_same c (plain_command buffer))

  -- ---- counts

  abbrev bare_entry : ℕ × NvIndex → ℕ × NvIndex
  bare_entry e = (e.0, bare_index s e.1)

  index_count_same : index_count (without_secrets s r).nv ≡ index_count r.nv
  index_count_same =
      length-map (map bare_entry r.nv.indices) head_entry
      ∙ length-map r.nv.indices bare_entry ∙ sym (length-map r.nv.indices head_entry)

  counter_count_same : counter_count (without_secrets s r).nv ≡ counter_count r.nv
  counter_count_same =
      fold-map counted head_entry 0 (map bare_entry r.nv.indices)
      ∙ fold-map (λ (n : ℕ) (e : ℕ × NvIndex). counted n (head_entry e)) bare_entry 0 r.nv.indices
      ∙ sym (fold-map counted head_entry 0 r.nv.indices)

  persistent_count_same : length (without_secrets s r).persistent ≡ length r.persistent
  persistent_count_same = length-map r.persistent (λ (e : ℕ × Object). (e.0, bare_object s e.1))

  -- ---- handles

  session_shown_bare : (c : Completion) (is_saved : Bool) (place : ℕ)
      → session_shown (without_secrets s r) c is_saved place ≡ session_shown r c is_saved place
  unfolding session_shown
  session_shown_bare c is_saved place =
      ap (λ (x : List Element). if is_in_state is_saved (session_context c place) then x else [])
      (session_same s r place)

  objects_bare : object_elements (without_secrets s r) ≡ object_elements r
  objects_bare = of_places s r (object_element (without_secrets s r)) (object_element r)
      (object_same s r) (numbers_below object_limit)

  sessions_bare : (c : Completion) (is_saved : Bool)
      → sessions_shown (without_secrets s r) c is_saved ≡ sessions_shown r c is_saved
  sessions_bare c is_saved =
      of_places s r (session_shown (without_secrets s r) c is_saved) (session_shown r c is_saved)
      (session_shown_bare c is_saved) (numbers_below session_limit)

-- ---- replies that are alike on both devices

same_reply : (saved : Bool) (a b : Reply) → a ≡ b → RepliesAlike saved a b
same_reply saved a b same = record {
  response = λ free. ap (λ (x : Reply). x.response) same;
  after = ap (λ (x : Reply). x.after) same;
}

-- a condition selects one of two replies on each device; if the first replies are alike on both
-- devices (`RepliesAlike`) and the second replies are equal, the selected replies are alike
then_alike : (b saved : Bool) (x y z w : Reply) → RepliesAlike saved x y → z ≡ w
    → RepliesAlike (b && saved) (if b then x else z) (if b then y else w)
then_alike true saved x y z w chosen left = chosen
then_alike false saved x y z w chosen left = same_reply false z w left

-- if the answers on sequence objects are equal, and the other answers are alike (`RepliesAlike`),
-- the replies that combine them are alike
or_alike : (saved : Bool) (x y : Option Reply) (a b : Reply) → x ≡ y → RepliesAlike saved a b
    → RepliesAlike saved (or_reply x a) (or_reply y b)
or_alike saved x y a b same alike =
    subst (λ (z : Option Reply). RepliesAlike saved (or_reply x a) (or_reply z b)) same (by x)
  where
    by : (z : Option Reply) → RepliesAlike saved (or_reply z a) (or_reply z b)
    by (Some reply) = same_reply saved reply reply refl
    by None = alike

unless_alike : (b saved : Bool) (x y z : Reply) → RepliesAlike saved x y
    → RepliesAlike (b && saved) (if not b then z else x) (if not b then z else y)
unless_alike true saved x y z chosen = chosen
unless_alike false saved x y z chosen = same_reply false z z refl

else_alike : (b saved : Bool) (x y z w : Reply) → x ≡ y → RepliesAlike saved z w
    → RepliesAlike saved (if b then x else z) (if b then y else w)
else_alike true saved x y z w chosen left = same_reply saved x y chosen
else_alike false saved x y z w chosen left = left

-- the properties that contain the counts of a device
abbrev counted_elements : (permanent startup indices loaded active objects persistent counters : ℕ)
    → List Element
counted_elements permanent startup indices loaded active objects persistent counters =
    element 0x200 permanent
    ∷ element 0x201 startup
    ∷ element 0x202 indices
    ∷ element 0x203 loaded
    ∷ element 0x204 (session_limit - loaded)
    ∷ element 0x205 active
    ∷ element 0x206 (session_limit - active)
    ∷ element 0x207 (object_limit - objects)
    ∷ element 0x208 persistent
    ∷ element 0x209 (persistent_limit - persistent)
    ∷ element 0x20a counters
    ∷ []

-- The lemmas below are about two devices that differ only in secrets, and agree on which
-- authorization values are empty.
module _ (s : Secrecy) (one other : Record) (differ : DifferInSecrets s one other)
    (alike : SetAlike one other) where
  -- a function that does not depend on a device's secrets has the same value for both devices
  through : {X : Type 0} (f : Record → X) → ((r : Record) → f (without_secrets s r) ≡ f r)
      → f one ≡ f other
  through f same = sym (same one) ∙ ap f differ ∙ same other

  session_alike : (handle : Handle) → is_some (session_at one.sessions handle)
      ≡ is_some (session_at other.sessions handle)
  session_alike handle = through (λ (r : Record). is_some (session_at r.sessions handle))
      (λ (r : Record). session_there s r handle)

  objects_alike : object_elements one ≡ object_elements other
  objects_alike = through object_elements (objects_bare s)

  sessions_alike : (c : Completion) (is_saved : Bool)
      → sessions_shown one c is_saved ≡ sessions_shown other c is_saved
  sessions_alike c is_saved =
      through (λ (r : Record). sessions_shown r c is_saved)
      (λ (r : Record). sessions_bare s r c is_saved)

  -- ---- contexts

  sequence_saved_alike : (c : Completion) (found : Option SequenceObject)
      → sequence_saved one c found ≡ sequence_saved other c found
  sequence_saved_alike c (Some o) = by (next_number c)
    where
      by : (number : Option ℕ) → sequence_numbered one c o number
          ≡ sequence_numbered other c o number
      by (Some number) =
          ap (counted_reply c number) (sequence_context_alike s one other differ c number o)
      by None = refl
  sequence_saved_alike c None = refl

  object_saved_alike : (c : Completion) (handle : Handle) (a b : Option Object)
      → option_map (bare_object s) a ≡ option_map (bare_object s) b
      → RepliesAlike (is_some (next_number c) && option_map_or (has_secret s) a false)
      (object_saved one c handle a) (object_saved other c handle b)
  object_saved_alike c handle None None same =
      same_reply (is_some (next_number c) && false) (object_saved one c handle None)
      (object_saved other c handle None) (sequence_saved_alike c (sequence_of c handle))
  object_saved_alike c handle None (Some b) same = absurd cc
  object_saved_alike c handle (Some a) None same = absurd cc
  object_saved_alike c handle (Some a) (Some b) same = by (next_number c)
    where
      bare_or : Option Object → Object
      bare_or None = a
      bare_or (Some o) = o

      by : (number : Option ℕ) → RepliesAlike (is_some number && has_secret s a)
          (object_numbered one c a number) (object_numbered other c b number)
      by None = same_reply false (object_numbered one c a None) (object_numbered other c b None)
          refl
      by (Some number) = record {
        response = λ bare.
            ap success (context_alike s one other differ c number a)
            ∙ ap (λ (o : Object). success
            (context_text other.fixed.hierarchies (binding_of other c) number o))
            (same_object s a b (ap bare_or same) bare);
        after = refl;
      }

  object_at_alike : (handle : Handle) → option_map (bare_object s) (object_at one.objects handle)
      ≡ option_map (bare_object s) (object_at other.objects handle)
  object_at_alike handle =
      sym (object_at_bare s one.objects handle)
      ∙ ap (λ (r : Record). object_at r.objects handle) differ
      ∙ object_at_bare s other.objects handle

  saved_alike : (c : Completion) (handle : Handle)
      → RepliesAlike (saves_object s one c handle) (save_reply one c handle)
      (save_reply other c handle)
  unfolding save_reply
  saved_alike c handle =
      then_alike (is_transient handle)
      (is_some (next_number c) && option_map_or (has_secret s) (object_at one.objects handle)
      false) _ _ _ _
      (object_saved_alike c handle (object_at one.objects handle) (object_at other.objects handle)
      (object_at_alike handle))
      (ap (λ (x : Reply). if is_session handle then x else refusal_reply c 0x184)
      (of_session (session_context c (place_named handle))))
    where
      of_session : (context : ℕ) → session_saved one c handle context
          ≡ session_saved other c handle context
      of_session context =
          ap (λ (there : Bool). if there && (context == 0)
          then session_numbered c handle (next_number c) else refusal_reply c 0x910)
          (session_alike handle)

  token_alike : (c : Completion) (token : Token)
      → session_loaded one c token ≡ session_loaded other c token
  token_alike c token =
      ap (λ (there : Bool). if there
      && (not (token.context == 0)
      && (token.context == session_context c (place_named token.handle)))
      then handle_given (with_session c (place_named token.handle) 0) token.handle
      else refusal_reply c 0x1cb) (session_alike token.handle)

  loaded_alike : (c : Completion) (context : List ℕ)
      → session_load_reply one c context ≡ session_load_reply other c context
  unfolding session_load_reply
  loaded_alike c context = by (token_at c.start context)
    where
      by : (x : Result Token Short) → loaded_by one c x ≡ loaded_by other c x
      by (Ok token) = token_alike c token
      by (Err e) = refl

  -- ---- properties

  permanent_alike : permanent_attributes one.fixed ≡ permanent_attributes other.fixed
  permanent_alike =
      ap (λ (n : ℕ). n + attribute_if one.fixed.disable_clear 0x100
      + attribute_if (is_locked one.fixed.lockout.fields) 0x200 + 0x400) alike
      ∙ ap (λ (r : Record). values_set other.fixed.hierarchies + attribute_if r.fixed.disable_clear
      0x100 + attribute_if (is_locked r.fixed.lockout.fields) 0x200 + 0x400) differ

  active_alike : (c : Completion) → active_count one c ≡ active_count other c
  active_alike c =
      ap (λ (xs : List Element). length xs + session_count one c true) (sessions_alike c false)
      ∙ ap (λ (xs : List Element). session_count other c false + length xs) (sessions_alike c true)

  counts_alike : (c : Completion) → count_elements one c ≡ count_elements other c
  unfolding count_elements
  counts_alike c =
      ap (λ (n : ℕ). counted_elements n (startup_attributes one.fixed) (index_count one.nv)
      (session_count one c false) (active_count one c) (object_count one)
      (length one.persistent) (counter_count one.nv)) permanent_alike
      ∙ ap (λ (r : Record). counted_elements (permanent_attributes other.fixed)
      (startup_attributes r.fixed) (index_count one.nv) (session_count one c false)
      (active_count one c) (object_count one) (length one.persistent) (counter_count one.nv))
      differ
      ∙ ap (λ (n : ℕ). counted_elements (permanent_attributes other.fixed)
      (startup_attributes other.fixed) n (session_count one c false) (active_count one c)
      (object_count one) (length one.persistent) (counter_count one.nv))
      (through (λ (r : Record). index_count r.nv) (λ (r : Record). index_count_same s r))
      ∙ ap (λ (xs : List Element). counted_elements (permanent_attributes other.fixed)
      (startup_attributes other.fixed) (index_count other.nv) (length xs) (active_count one c)
      (object_count one) (length one.persistent) (counter_count one.nv))
      (sessions_alike c false)
      ∙ ap (λ (n : ℕ). counted_elements (permanent_attributes other.fixed)
      (startup_attributes other.fixed) (index_count other.nv) (session_count other c false) n
      (object_count one) (length one.persistent) (counter_count one.nv)) (active_alike c)
      ∙ ap (λ (xs : List Element). counted_elements (permanent_attributes other.fixed)
      (startup_attributes other.fixed) (index_count other.nv) (session_count other c false)
      (active_count other c) (length xs) (length one.persistent) (counter_count one.nv))
      objects_alike
      ∙ ap (λ (n : ℕ). counted_elements (permanent_attributes other.fixed)
      (startup_attributes other.fixed) (index_count other.nv) (session_count other c false)
      (active_count other c) (object_count other) n (counter_count one.nv))
      (through (λ (r : Record). length r.persistent)
      (λ (r : Record). persistent_count_same s r))
      ∙ ap (λ (n : ℕ). counted_elements (permanent_attributes other.fixed)
      (startup_attributes other.fixed) (index_count other.nv) (session_count other c false)
      (active_count other c) (object_count other) (length other.persistent) n)
      (through (λ (r : Record). counter_count r.nv) (λ (r : Record). counter_count_same s r))

  properties_alike : (c : Completion) → property_elements one c ≡ property_elements other c
  unfolding property_elements
  properties_alike c =
      ap (λ (xs : List Element). identity_elements ++ limit_elements ++ xs
      ++ lockout_elements one.fixed.lockout) (counts_alike c)
      ∙ ap (λ (r : Record). identity_elements ++ limit_elements ++ count_elements other c
      ++ lockout_elements r.fixed.lockout) differ

  -- ---- lists

  handles_alike : (c : Completion) (asked : Asked) (kind : ℕ)
      → handles_told one c asked kind ≡ handles_told other c asked kind
  handles_alike c asked kind =
      rw (sessions_alike c false, sessions_alike c true, objects_alike) refl

  told_alike : (c : Completion) (asked : Asked) → told_of one c asked ≡ told_of other c asked
  told_alike c asked =
      ap (λ (x : Option (List ℕ)). if asked.capability == 1 then x
      else (if asked.capability == 2
      then Some (listing form.Value 2 asked.property asked.count command_elements)
      else (if asked.capability == 6
      then
      Some (listing form.Property 6 asked.property asked.count (property_elements one c))
      else None))) (handles_alike c asked (asked.property / 2 ^ 24))
      ∙ ap (λ (xs : List Element). if asked.capability == 1
      then handles_told other c asked (asked.property / 2 ^ 24)
      else (if asked.capability == 2
      then Some (listing form.Value 2 asked.property asked.count command_elements)
      else (if asked.capability == 6
      then Some (listing form.Property 6 asked.property asked.count xs) else None)))
      (properties_alike c)

  capability_alike : (c : Completion) (asked : Asked) (was_told : Bool) (response : List ℕ)
      → capability_told one c asked was_told response
      ≡ capability_told other c asked was_told response
  unfolding capability_told
  capability_alike c asked true response = told_alike c asked
  capability_alike c asked false response = refl

  -- ---- the answer

  hash_alike : (parameters : List ℕ) → hash_row one.fixed.hierarchies parameters
      ≡ hash_row other.fixed.hierarchies parameters
  unfolding hash_row
  hash_alike parameters =
      same_bind (parameter 1 (buffer_at data_limit parameters)) _ _ (λ message.
      same_bind (parameter 2 (hash_at message.1)) _ _ (λ hash.
      same_bind (parameter 3 (hierarchy_at hash.1)) _ _ (λ asked.
      same_bind (all_read asked.1) _ _ (λ ended.
      ap (λ (x : List ℕ). let z : Result (List ℕ) Refused = Ok x in z)
      (ticketed_alike s one other differ (ticket_hierarchy asked.0 message.0)
      (hash_of hash.0 message.0))))))

  row_alike : (c : Completion) (command : Command) (response : List ℕ)
      → row_served one c command response ≡ row_served other c command response
  row_alike c command response =
      ap (λ (x : Result (List ℕ) Refused). if command.code == 0x142
      then result_reply c (incremental_row command.parameters)
      else (if command.code == 0x17c then result_reply c (test_result_row command.parameters)
      else (if command.code == 0x17d then result_reply c x
      else (if command.code == 0x18a
      then result_reply c (test_parms_row command.parameters) else stands c response))))
      (hash_alike command.parameters)

  load_alike : (c : Completion) (context response : List ℕ)
      → load_asked one c context response ≡ load_asked other c context response
  load_alike c context response =
      ap (λ (x : Reply). if names_session context then x
      else (if names_sequence context then sequence_loaded one c context
      else stands c response)) (loaded_alike c context)
      ∙ ap (λ (x : Result SequenceObject ContextFault). if names_session context
      then session_load_reply other c context
      else (if names_sequence context then opened_put c x else stands c response))
      (sequence_opened_alike s one other differ c context)

  save_alike : (c : Completion) (response : List ℕ) (x : Result (ℕ × List ℕ) Short)
      → RepliesAlike (handle_saves s one c x) (save_asked one c response x)
      (save_asked other c response x)
  save_alike c response (Ok handle) =
      then_alike (length handle.1 == 0) (saves_object s one c (numbered_handle handle.0)) _ _ _ _
      (saved_alike c (numbered_handle handle.0)) refl
  save_alike c response (Err e) = same_reply false (stands c response) (stands c response) refl

  served_alike : (c : Completion) (command : Command) (response : List ℕ)
      → RepliesAlike (command_saves s one c (Ok command)) (served_reply one c command response)
      (served_reply other c command response)
  served_alike c command response =
      else_alike (command.code == 0x146) (command_saves s one c (Ok command)) _ _ _ _ refl
      (else_alike (command.code == 0x161) (command_saves s one c (Ok command)) _ _ _ _
      (load_alike c command.parameters response)
      (then_alike (command.code == 0x162) (handle_saves s one c (number_at w32 command.parameters))
      _ _ _ _ (save_alike c response (number_at w32 command.parameters))
      (row_alike c command response)))

  asked_alike : (c : Completion) (response : List ℕ) (was_told : Bool) (x : Result Asked Short)
      → capability_asked one c response was_told x ≡ capability_asked other c response was_told x
  asked_alike c response was_told (Ok asked) =
      ap (capability_reply c response) (capability_alike c asked was_told response)
  asked_alike c response was_told (Err e) = refl

  command_alike : (c : Completion) (command : Command) (response : List ℕ) (was_told : Bool)
      → RepliesAlike (one.fixed.started
      && (is_refusal 0x143 response && command_saves s one c (Ok command)))
      (command_reply one c command response was_told)
      (command_reply other c command response was_told)
  unfolding command_reply
  command_alike c command response was_told =
      subst (λ (started : Bool). RepliesAlike
      (one.fixed.started && (is_refusal 0x143 response && command_saves s one c (Ok command)))
      (command_reply one c command response was_told)
      (if not started then stands c response
      else (if is_refusal 0x143 response then served_reply other c command response
      else (if command.code == 0x17a
      then capability_asked other c response was_told (asked_at command.parameters)
      else stands c response)))) (ap (λ (r : Record). r.fixed.started) differ)
      (unless_alike one.fixed.started
      (is_refusal 0x143 response && command_saves s one c (Ok command)) _ _
      (stands c response)
      (then_alike (is_refusal 0x143 response) (command_saves s one c (Ok command)) _ _ _ _
      (served_alike c command response)
      (ap (λ (x : Reply). if command.code == 0x17a then x else stands c response)
      (asked_alike c response was_told (asked_at command.parameters)))))

  plain_alike : (c : Completion) (buffer response : List ℕ) (was_told : Bool)
      → RepliesAlike (saves_secret s one c buffer response)
      (plain_reply one c buffer response was_told) (plain_reply other c buffer response was_told)
  unfolding plain_reply
  plain_alike c buffer response was_told = by (plain_command buffer)
    where
      by : (x : Result Command Short)
          → RepliesAlike (one.fixed.started
          && (is_refusal 0x143 response && command_saves s one c x))
          (reply_by one c buffer response was_told x) (reply_by other c buffer response was_told x)
      by (Ok command) = command_alike c command response was_told
      by (Err e) = same_reply (one.fixed.started && (is_refusal 0x143 response && false))
          (probe_reply c buffer response) (probe_reply c buffer response) refl

  pub reply_alike : (c : Completion) (buffer response : List ℕ) (was_told : Bool)
      → RepliesAlike (saves_secret s one c buffer response) (reply one c buffer response was_told)
      (reply other c buffer response was_told)
  unfolding reply
  reply_alike c buffer response was_told =
      or_alike (saves_secret s one c buffer response) (sequence_reply one c buffer response)
      (sequence_reply other c buffer response) _ _
      (sequence_alike s one other differ c buffer response) (plain_alike c buffer response was_told)

pub layer_answers_alike : LayerAnswersAlike
layer_answers_alike s one other c buffer response was_told differ alike =
    reply_alike s one other differ alike c buffer response was_told

pub layer_forgets_alike : LayerForgetsAlike
layer_forgets_alike s r c = forgotten_same s r c

pub layer_saves_alike : LayerSavesAlike
layer_saves_alike s one other c buffer response differ =
    sym (saves_same s one c buffer response)
    ∙ ap (λ (r : Record). saves_secret s r c buffer response) differ
    ∙ saves_same s other c buffer response
