-- TPM2_ContextLoad of a valid context loads the object that was saved.
use Rattle.std.proofs.Common.{arith, ◌≡◌, ℕ, ◌^◌, ◌<◌, ◌≤◌, Bool, false, List, ◌++◌, length, Option, Some, None, Result, Ok, refl, sym, ap, subst, ◌∙◌}
use Rattle.std.specs.Prelude.{◌==◌, ◌||◌, true, is_none, not, if◌then◌else◌, option_map}
use Rattle.std.specs.Int.{w32, w64, to_be_bytes}
use Rattle.std.proofs.lemmas.List.{length-append}
use Rattle.std.proofs.lemmas.List.Quantifiers.{position-Some}
use Rattle.tpm_bytes.specs.Reading.{◌>>=◌, number_at}
use Rattle.tpm_bytes.specs.Writing.{sized_text}
use Rattle.tpm_bytes.specs.declared.cursor.Short.{Short}
use Rattle.tpm_bytes.proofs.Fields.{number_again, wide32}
use Rattle.tpm_commands.specs.CommandCode.{code_named}
use Rattle.tpm_containers.proofs.NumberedLaws.{free, put_found}
use Rattle.tpm_containers.specs.Slots.{lowest_free}
use Rattle.tpm_image_text.proofs.FieldSpelling.{wide64}
use Rattle.tpm_machine.specs.Drawn.{drawn_by}
use Rattle.tpm_object.specs.Object.{IsObject, transient_byte}
use Rattle.tpm_object.specs.declared.object.Object.{Object}
use Rattle.tpm_record.specs.Objects.{next_handle, object_at, object_handle}
use Rattle.tpm_record.specs.Record.{Record}
use Rattle.tpm_record.specs.Tick.{after_tick}
use Rattle.tpm_step.specs.step.Events.{Given, Placed}
use Rattle.tpm_step.specs.step.Placing.{placed_at}
use Rattle.tpm_step.specs.step.Step.{step}
use Rattle.tpm_types_common.specs.Handle.{hierarchy_handle, is_session, numbered_handle}
use Rattle.tpm_types_common.specs.declared.handle.Handle.{Handle}
use Rattle.tpm_types_object.specs.ObjectAttributes.{has}
use Rattle.tpm_types_object.specs.declared.object_attributes.ObjectAttribute.TheVariants as attribute
use Rattle.tpm_context.specs.Context.{blob_text, context_text, object_cipher, context_proof}
use Rattle.tpm_context.specs.Head.{head_of, saved_number, saved_of}
use Rattle.tpm_context.specs.Protection.{integrity_of, restart_bound}
use Rattle.tpm_context.specs.declared.binding.Binding.{Binding}
use Rattle.tpm_context.specs.declared.head.SavedHandle.{SavedHandle}
use Rattle.tpm_context.specs.declared.head.SavedHandle.TheVariants as saved
use Rattle.tpm_context.proofs.HeadLaws.{saved_small}
use Rattle.tpm_context.proofs.Reading.{cipher_small, integrity_size}
use Rattle.tpm_record.specs.declared.hierarchy.Hierarchies.{Hierarchies}
use Rattle.tpm_completion.proofs.Loaded.{loads_what_was_saved}
use Rattle.tpm_completion.specs.Command.{Command}
use Rattle.tpm_completion.specs.Completed.{completed_after, completed_with, done_after, loaded_after}
use Rattle.tpm_completion.specs.Completion.{forgotten}
use Rattle.tpm_completion.specs.Context.{is_of_sequence, is_of_session, names_own, saved_handle_at}
use Rattle.tpm_completion.specs.Execution.{Seen, placed_after}
use Rattle.tpm_completion.specs.Saving.{binding_of}
use Rattle.tpm_completion.specs.Loaded.{StaysValid, saved_context}
use Rattle.tpm_completion.specs.Hiding.{handles_of}
use Rattle.tpm_completion.specs.Loading.{object_context_in, placed_reply}
use Rattle.tpm_completion.specs.declared.completion.Completion.{Completion}
use Rattle.tpm_completion_laws.proofs.Buffers.{IsLacking, asked_again, header_lacks, lacking_step, plain_heard, step_lacks}
use Rattle.tpm_completion_laws.proofs.Saving.{lacking_effect, passed_lacks}
use Rattle.tpm_completion_laws.specs.Objects.{IsLoaded, LoadsObjects, load_buffer}

pub lacks_load : IsLacking 0x161
unfolding code_named
lacks_load = record { small = omega arith; unnamed = refl }

-- TPM2_ContextLoad has no handles
pub load_handles : handles_of 0x161 ≡ 0
unfolding handles_of code_named
load_handles = refl

-- ---- the context names neither a session nor a sequence object

-- the savedHandle of an object is neither that of a session nor that of a sequence object
no_own : (clear : Bool)
    → (let one : SavedHandle = if clear then saved.StClear
    else saved.Ordinary in is_session (numbered_handle (saved_number one))
    || (saved_number one == saved_number saved.Sequence)) ≡ false
no_own true = refl
no_own false = refl

context_handle : (h : Hierarchies) (b : Binding) (sequence : ℕ) (o : Object) → sequence < 2 ^ 64
    → saved_handle_at (context_text h b sequence o)
    ≡ Ok (numbered_handle (saved_number (saved_of o.public)))
unfolding context_text saved_handle_at
context_handle h b sequence o small =
    let number = saved_number (saved_of o.public) in
    let cipher = object_cipher h b.start sequence o in
    let blob =
    sized_text (blob_text (integrity_of (context_proof h o.hierarchy) b (head_of sequence o) cipher)
    cipher) in
    let after_number : List ℕ = to_be_bytes w32 (hierarchy_number o) ++ blob in
    let after_sequence : List ℕ = to_be_bytes w32 number ++ after_number in
    ap (λ (read : Result (ℕ × List ℕ) Short). read
    >>= (λ s. number_at w32 s.1 >>= (λ n. Ok (numbered_handle n.0))))
    (number_again w64 (2 ^ 64) wide64 sequence after_sequence small)
    ∙ ap (λ (read : Result (ℕ × List ℕ) Short). read >>= (λ n. Ok (numbered_handle n.0)))
    (number_again w32 (2 ^ 32) wide32 number after_number (saved_small (saved_of o.public)))
  where
    hierarchy_number : Object → ℕ
    hierarchy_number o = (hierarchy_handle o.hierarchy).number

names_none : (h : Hierarchies) (b : Binding) (sequence : ℕ) (o : Object) → sequence < 2 ^ 64
    → names_own (context_text h b sequence o) ≡ false
names_none h b sequence o small =
    ap (λ (handle : Result Handle Short). is_of_session handle || is_of_sequence handle)
    (context_handle h b sequence o small)
    ∙ no_own (has o.public.attributes attribute.StClear)

abbrev pub loading : (context : List ℕ) → Command
loading context = record { code = 0x161; parameters = context }

asked_is : (context : List ℕ) → names_own context ≡ false
    → object_context_in (Ok (loading context)) ≡ Some context
asked_is context none = ap (λ (b : Bool). if not b then Some context else None) none

-- ---- the size of a context

context_small : (h : Hierarchies) (b : Binding) (sequence : ℕ) (o : Object) → IsObject o
    → length (context_text h b sequence o) ≤ 4086
unfolding context_text
context_small h b sequence o is =
    let cipher = object_cipher h b.start sequence o in
    let integrity = integrity_of (context_proof h o.hierarchy) b (head_of sequence o) cipher in
    let one = integrity_size (context_proof h o.hierarchy) b (head_of sequence o) cipher in
    let two = cipher_small h b.start sequence o is in
    let three = length-append (sized_text integrity) cipher in
    omega (arith, one, two, three)

-- ---- the object is placed

found_again : (places : List (Option Object)) (place : ℕ) (o : Object) → place < 2 ^ 24
    → lowest_free places ≡ Some place
    → (object_at places (object_handle place) ≡ None)
    × (object_at (placed_at (Some place) o places) (object_handle place) ≡ Some o)
unfolding object_at
found_again places place o small is = (
  free transient_byte places 0x80 place small is,
  put_found transient_byte places place o small is,
)

loaded_as : (t : Record) (c : Completion) (drawn : ℕ) (o : Object) (found : Option ℕ)
    → lowest_free t.objects ≡ found → length t.objects ≤ 2 ^ 24
    → IsLoaded t o (option_map object_handle found)
    (placed_after (lacking_effect t c drawn) (step t (Placed o)))
loaded_as t c drawn o (Some place) is few =
    let inside = position-Some is_none t.objects place None is in
    let small : place < 2 ^ 24 = omega (arith, inside.0, few) in
    let again = found_again t.objects place o small is in
    record {
      response =
          ap (λ (p : Option ℕ).
          (placed_reply (forgotten t c) (option_map object_handle p)).response) is;
      free = again.0;
      found = ap (λ (p : Option ℕ). object_at (placed_at p o t.objects) (object_handle place)) is
          ∙ again.1;
      device = refl;
    }
loaded_as t c drawn o None is few = record {
  response =
      ap (λ (p : Option ℕ). (placed_reply (forgotten t c) (option_map object_handle p)).response)
      is;
  device = ap (λ (p : Option ℕ). record t { objects = placed_at p o t.objects }) is;
}

pub kept_start : (t : Record) (c : Completion) → (forgotten t c).start ≡ c.start
unfolding forgotten
kept_start t c = refl

-- a valid context stays valid when time passes and when the layer forgets sessions
still_valid : (r later : Record) (c d : Completion) (o : Object) (elapsed : ℕ)
    → StaysValid r later c d o
    → StaysValid r (after_tick later elapsed) c (forgotten (after_tick later elapsed) d) o
still_valid r later c d o elapsed stays = record {
  proof = stays.proof;
  start = kept_start (after_tick later elapsed) d ∙ stays.start;
  reset_count = stays.reset_count;
  restart_count = same_restart (saved_of o.public) ∙ stays.restart_count;
}
  where
    same_restart : (one : SavedHandle)
        → restart_bound
        (binding_of (after_tick later elapsed) (forgotten (after_tick later elapsed) d)) one
        ≡ restart_bound (binding_of later d) one
    same_restart saved.Ordinary = refl
    same_restart saved.Sequence = refl
    same_restart saved.StClear = refl

pub loads_objects : LoadsObjects
loads_objects r later c d number o locality elapsed random small is whole started stays =
    let t = after_tick later elapsed in
    let context = saved_context r c number o in
    let buffer = load_buffer context in
    let few = context_small r.fixed.hierarchies (binding_of r c) number o is in
    let lacks = step_lacks later buffer locality elapsed random
    (header_lacks 0x161 context lacks_load few) in
    let drawn = drawn_by later (Given buffer locality elapsed random) (lacking_step t).row.check in
    let first = lacking_effect t d drawn in
    let asked = asked_again t 0x161 context (omega arith) few started
    ∙ asked_is context (names_none r.fixed.hierarchies (binding_of r c) number o small) in
    let opens = loads_what_was_saved r t c (forgotten t d) number o small is
    (still_valid r later c d o elapsed stays) in
    let effect = ap (λ (bytes : List ℕ). completed_with d later (Given bytes locality elapsed random))
    (plain_heard d 0x161 context lacks_load load_handles)
    ∙ ap (λ (seen : Seen). completed_after seen buffer locality random)
    (passed_lacks later d buffer locality elapsed random lacks)
    ∙ ap (done_after first buffer locality random) asked ∙ ap (loaded_after first) opens in
    subst (IsLoaded t o (next_handle later.objects)) (sym effect)
    (loaded_as t d drawn o (lowest_free t.objects) refl (omega (arith, whole.objects)))
