-- TPM2_ContextLoad of a valid context loads the sequence object that was saved.
use Rattle.std.proofs.Common.{arith, ◌≡◌, ℕ, ◌^◌, ◌<◌, ◌≤◌, Bool, true, false, List, ◌++◌, length, Option, Some, None, Result, Ok, IfSome, refl, sym, ap, subst, ◌∙◌, get_or-set_same}
use Rattle.std.specs.Prelude.{◌||◌, not, if◌then◌else◌}
use Rattle.std.specs.Int.{w32, w64, to_be_bytes}
use Rattle.std.proofs.lemmas.List.{length-append}
use Rattle.tpm_bytes.specs.Reading.{◌>>=◌, number_at}
use Rattle.tpm_bytes.specs.Writing.{sized_text}
use Rattle.tpm_bytes.specs.declared.cursor.Short.{Short}
use Rattle.tpm_bytes.proofs.Fields.{number_again, wide32}
use Rattle.tpm_image_text.proofs.FieldSpelling.{wide64}
use Rattle.tpm_machine.specs.Drawn.{drawn_by}
use Rattle.tpm_record.specs.Record.{Record}
use Rattle.tpm_record.specs.Tick.{after_tick}
use Rattle.tpm_record.specs.declared.hierarchy.Hierarchies.{Hierarchies}
use Rattle.tpm_sequence.specs.declared.object.SequenceObject.{SequenceObject}
use Rattle.tpm_sequence_text.proofs.SizeLaws.{stays_small}
use Rattle.tpm_sequence_text.specs.Slot.{IsSequenceObject, slot_text}
use Rattle.tpm_step.specs.step.Events.{Given}
use Rattle.tpm_types_common.specs.Handle.{null_handle, numbered_handle}
use Rattle.tpm_types_common.specs.declared.handle.Handle.{Handle}
use Rattle.tpm_context.specs.Context.{blob_text}
use Rattle.tpm_context.specs.Head.{saved_number, sequence_head}
use Rattle.tpm_context.specs.Protection.{integrity_of}
use Rattle.tpm_context.specs.Sequences.{null_proof, sequence_cipher, sequence_context_text}
use Rattle.tpm_context.specs.declared.binding.Binding.{Binding}
use Rattle.tpm_context.specs.declared.head.SavedHandle.TheVariants as saved
use Rattle.tpm_context.proofs.Reading.{encrypted_size, integrity_size}
use Rattle.tpm_completion.proofs.Loaded.{loads_saved_sequence}
use Rattle.tpm_completion.specs.Answer.{refusal}
use Rattle.tpm_completion.specs.Completed.{completed_after, completed_with, done_after, sending_after}
use Rattle.tpm_completion.specs.Completion.{forgotten}
use Rattle.tpm_completion.specs.Context.{is_of_sequence, is_of_session, names_own, names_sequence, names_session, saved_handle_at}
use Rattle.tpm_completion.specs.Execution.{Seen, effect_with_reply}
use Rattle.tpm_completion.specs.Loaded.{SequenceStaysValid, saved_sequence}
use Rattle.tpm_completion.specs.Loading.{object_context_in}
use Rattle.tpm_completion.specs.Reply.{load_asked, stands}
use Rattle.tpm_completion.specs.Saving.{Reply, binding_of, session_load_reply}
use Rattle.tpm_completion.specs.SequenceLoading.{opened_put, sequence_loaded, sequence_put}
use Rattle.tpm_completion.specs.Sequences.{free_slot, in_slot, sequence_limit, with_sequence}
use Rattle.tpm_completion.specs.declared.completion.Completion.{Completion}
use Rattle.tpm_completion_laws.proofs.Buffers.{asked_again, header_lacks, lacking_step, none_sent, plain_heard, reply_again, step_lacks}
use Rattle.tpm_completion_laws.proofs.Loading.{kept_start, lacks_load, load_handles, loading}
use Rattle.tpm_completion_laws.proofs.Saving.{lacking_effect, passed_lacks}
use Rattle.tpm_completion_laws.proofs.SequencesNamed.{free_is, named_none, named_object, same_free}
use Rattle.tpm_completion_laws.proofs.SequencesSaved.{kept_sequences}
use Rattle.tpm_completion_laws.specs.Objects.{load_buffer}
use Rattle.tpm_completion_laws.specs.Sequences.{IsSequenceLoaded, LoadsSequences}

-- ---- the context names a sequence object

context_handle : (h : Hierarchies) (b : Binding) (number : ℕ) (o : SequenceObject) → number < 2 ^ 64
    → saved_handle_at (sequence_context_text h b number o)
    ≡ Ok (numbered_handle (saved_number saved.Sequence))
unfolding sequence_context_text saved_handle_at
context_handle h b number o small =
    let cipher = sequence_cipher h b.start number o in
    let blob =
    sized_text (blob_text (integrity_of (null_proof h) b (sequence_head number) cipher)
    cipher) in
    let after_number : List ℕ = to_be_bytes w32 null_handle.number ++ blob in
    let after_sequence : List ℕ = to_be_bytes w32 (saved_number saved.Sequence) ++ after_number in
    ap (λ (read : Result (ℕ × List ℕ) Short). read
    >>= (λ s. number_at w32 s.1 >>= (λ n. Ok (numbered_handle n.0))))
    (number_again w64 (2 ^ 64) wide64 number after_sequence small)
    ∙ ap (λ (read : Result (ℕ × List ℕ) Short). read >>= (λ n. Ok (numbered_handle n.0)))
    (number_again w32 (2 ^ 32) wide32 (saved_number saved.Sequence) after_number (omega arith))

-- the context has this savedHandle
abbrev IsOfSequence : List ℕ → Type 0
IsOfSequence context = saved_handle_at context ≡ Ok (numbered_handle (saved_number saved.Sequence))

is_own : (context : List ℕ) → IsOfSequence context → names_own context ≡ true
is_own context is =
    ap (λ (handle : Result Handle Short). is_of_session handle || is_of_sequence handle) is

no_session : (context : List ℕ) → IsOfSequence context → names_session context ≡ false
no_session context is = ap is_of_session is

is_sequence : (context : List ℕ) → IsOfSequence context → names_sequence context ≡ true
is_sequence context is = ap is_of_sequence is

no_object : (context : List ℕ) → names_own context ≡ true
    → object_context_in (Ok (loading context)) ≡ None
no_object context own = ap (λ (b : Bool). if not b then Some context else None) own

-- ---- the size of a context

context_small : (h : Hierarchies) (b : Binding) (number : ℕ) (o : SequenceObject)
    → IsSequenceObject o → length (sequence_context_text h b number o) ≤ 4086
unfolding sequence_context_text
context_small h b number o is =
    let cipher = sequence_cipher h b.start number o in
    let integrity = integrity_of (null_proof h) b (sequence_head number) cipher in
    let one = integrity_size (null_proof h) b (sequence_head number) cipher in
    let two : length cipher ≡ length (slot_text (Some o)) =
    encrypted_size (null_proof h) b.start (sequence_head number) (slot_text (Some o)) in
    let three = length-append (sized_text integrity) cipher in
    let four = stays_small (Some o) is in
    omega (arith, one, two, three, four)

-- ---- the reply

loads_own : (session sequence : Bool) (one two other : Reply) → session ≡ false → sequence ≡ true
    → (if session then one else (if sequence then two else other)) ≡ two
loads_own session sequence one two other not_session is_own = rw (not_session, is_own) refl

asked_loads : (t : Record) (c : Completion) (context response : List ℕ) → IsOfSequence context
    → load_asked t c context response ≡ sequence_loaded t c context
asked_loads t c context response is =
    loads_own (names_session context) (names_sequence context) (session_load_reply t c context)
    (sequence_loaded t c context) (stands c response) (no_session context is)
    (is_sequence context is)

-- ---- the sequence object is placed

placed_as : (t : Record) (d : Completion) (drawn : ℕ) (o : SequenceObject) (found : Option ℕ)
    → length (forgotten t d).sequences ≡ sequence_limit
    → IfSome found (λ slot. (slot < sequence_limit) × (in_slot (forgotten t d) slot ≡ None))
    → IsSequenceLoaded t (forgotten t d) o found
    (effect_with_reply (lacking_effect t d drawn) (sequence_put (forgotten t d) o found))
placed_as t d drawn o (Some slot) whole free =
    let c = forgotten t d in
    let there : in_slot (with_sequence c slot o) slot ≡ Some o =
    get_or-set_same c.sequences slot (Some o) None
    (subst (λ (n : ℕ). slot < n) (sym whole) free.0) in
    record {
      response = refl;
      inside = free.0;
      free = named_none c slot free.0 free.1;
      found = named_object (with_sequence c slot o) slot o free.0 there;
      device = refl;
      layer = refl;
    }
placed_as t d drawn o None whole free = record { response = refl; device = refl; layer = refl }

-- a valid context stays valid when time passes and when the layer forgets sessions
still_valid : (r later : Record) (c d : Completion) (elapsed : ℕ) → SequenceStaysValid r later c d
    → SequenceStaysValid r (after_tick later elapsed) c (forgotten (after_tick later elapsed) d)
still_valid r later c d elapsed stays = record {
  proof = stays.proof;
  start = kept_start (after_tick later elapsed) d ∙ stays.start;
  reset_count = stays.reset_count;
}

pub loads_sequences : LoadsSequences
loads_sequences r later c d number o locality elapsed random small is whole started stays =
    let t = after_tick later elapsed in
    let context = saved_sequence r c number o in
    let buffer = load_buffer context in
    let layer = forgotten t d in
    let few = context_small r.fixed.hierarchies (binding_of r c) number o is.sized in
    let own = context_handle r.fixed.hierarchies (binding_of r c) number o small in
    let lacks = step_lacks later buffer locality elapsed random
    (header_lacks 0x161 context lacks_load few) in
    let drawn = drawn_by later (Given buffer locality elapsed random) (lacking_step t).row.check in
    let first = lacking_effect t d drawn in
    let asked = asked_again t 0x161 context (omega arith) few started
    ∙ no_object context (is_own context own) in
    let opens = loads_saved_sequence r t c layer number o small is
    (still_valid r later c d elapsed stays) in
    let same = kept_sequences t d started in
    let effect = ap (λ (bytes : List ℕ). completed_with d later (Given bytes locality elapsed random))
    (plain_heard d 0x161 context lacks_load load_handles)
    ∙ ap (λ (seen : Seen). completed_after seen buffer locality random)
    (passed_lacks later d buffer locality elapsed random lacks)
    ∙ ap (done_after first buffer locality random) asked
    ∙ ap (sending_after first buffer locality random) (none_sent t layer 0x161 context few)
    ∙ ap (effect_with_reply first)
    (reply_again t layer 0x161 context false (omega arith) few started refl
    ∙ asked_loads t layer context (refusal 0x143) own
    ∙ ap (opened_put layer) opens
    ∙ ap (sequence_put layer o) (same_free layer d same)) in
    subst (IsSequenceLoaded t layer o (free_slot d)) (sym effect)
    (placed_as t d drawn o (free_slot d) (ap length same ∙ whole)
    (subst (λ (found : Option ℕ). IfSome found
    (λ slot. (slot < sequence_limit) × (in_slot layer slot ≡ None)))
    (same_free layer d same) (free_is layer)))
