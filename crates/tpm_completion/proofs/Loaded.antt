-- Which contexts of objects can be loaded.
use Rattle.std.proofs.Common.{◌≡◌, ℕ, List, ◌++◌, Some, refl, sym, ap, ◌∙◌}
use Rattle.tpm_bytes.specs.Writing.{sized_text}
use Rattle.tpm_image_text.specs.Body.{object_fields_text}
use Rattle.tpm_object.specs.declared.object.Object.{Object}
use Rattle.tpm_sequence.specs.declared.object.SequenceObject.{SequenceObject}
use Rattle.tpm_sequence_text.specs.Slot.{slot_text}
use Rattle.tpm_record.specs.declared.hierarchy.Hierarchies.{Hierarchies}
use Rattle.tpm_context.proofs.ContextLaws.{opens_only_as_made}
use Rattle.tpm_context.proofs.Reading.{context_opens}
use Rattle.tpm_context.proofs.SequenceLaws.{sequence_opens_again, sequence_opens_only_as_made}
use Rattle.tpm_context.specs.Context.{blob_text, context_text, object_cipher, object_in_context, context_proof, sealed_text}
use Rattle.tpm_context.specs.Head.{head_of, head_text, sequence_head}
use Rattle.tpm_context.specs.Meaning.{restart_of}
use Rattle.tpm_context.specs.Protection.{ciphertext_of, integrity_of}
use Rattle.tpm_context.specs.Sequences.{null_proof, opened_sequence, sequence_cipher, sequence_context_text}
use Rattle.tpm_context.specs.declared.binding.Binding.{Binding}
use Rattle.tpm_context.specs.declared.head.ContextHead.{ContextHead}
use Rattle.tpm_completion.specs.Loaded.{LoadsOnlyMadeSequence, LoadsOnlyWhatWasMade, LoadsSavedSequence, LoadsWhatWasSaved}
use Rattle.tpm_completion.specs.Saving.{binding_of}

-- Two bindings agree in all values to which a context of this object is bound.
record BindsAlike (a b : Binding) (o : Object) : Type 0 where
  start : b.start ≡ a.start
  reset_count : b.reset_count ≡ a.reset_count
  restart_count : restart_of b o ≡ restart_of a o

same_integrity : (proof : List ℕ) (a b : Binding) (sequence : ℕ) (o : Object) (cipher : List ℕ)
    → BindsAlike a b o
    → integrity_of proof b (head_of sequence o) cipher
    ≡ integrity_of proof a (head_of sequence o) cipher
unfolding integrity_of
same_integrity proof a b sequence o cipher alike =
    rw (alike.start, alike.reset_count, alike.restart_count) refl

same_text : (g h : Hierarchies) (a b : Binding) (sequence : ℕ) (o : Object)
    → context_proof h o.hierarchy ≡ context_proof g o.hierarchy → BindsAlike a b o
    → context_text h b sequence o ≡ context_text g a sequence o
unfolding context_text
same_text g h a b sequence o proof alike =
    let head : ContextHead = head_of sequence o in
    let fields : List ℕ = object_fields_text o in
    ap (λ (p : List ℕ). sealed_text p b head (ciphertext_of p b.start head fields)) proof
    ∙ ap (λ (s : ℕ). sealed_text (context_proof g o.hierarchy) b head
    (ciphertext_of (context_proof g o.hierarchy) s head fields)) alike.start
    ∙ ap (λ (i : List ℕ). head_text head
    ++ sized_text (blob_text i (object_cipher g a.start sequence o)))
    (same_integrity (context_proof g o.hierarchy) a b sequence o (object_cipher g a.start sequence o)
    alike)

pub loads_what_was_saved : LoadsWhatWasSaved
loads_what_was_saved r later c d number o small is stays =
    let alike : BindsAlike (binding_of r c) (binding_of later d) o =
    record {
      start = stays.start;
      reset_count = stays.reset_count;
      restart_count =
          stays.restart_count;
    } in
    ap (object_in_context later.fixed.hierarchies (binding_of later d))
    (sym (same_text r.fixed.hierarchies later.fixed.hierarchies (binding_of r c)
    (binding_of later d) number o stays.proof alike))
    ∙ context_opens later.fixed.hierarchies (binding_of later d) number o small is

pub loads_only_what_was_made : LoadsOnlyWhatWasMade
loads_only_what_was_made c r layer object is whole small e =
    opens_only_as_made c r.fixed.hierarchies (binding_of r layer) object is
    (record { start = small; reset_count = whole.reset_count; restart_count = whole.restart_count })
    e

-- ---- sequence objects

same_sequence_integrity : (proof : List ℕ) (a b : Binding) (number : ℕ) (cipher : List ℕ)
    → b.start ≡ a.start → b.reset_count ≡ a.reset_count
    → integrity_of proof b (sequence_head number) cipher
    ≡ integrity_of proof a (sequence_head number) cipher
unfolding integrity_of
same_sequence_integrity proof a b number cipher start reset_count = rw (start, reset_count) refl

same_sequence : (g h : Hierarchies) (a b : Binding) (number : ℕ) (o : SequenceObject)
    → null_proof h ≡ null_proof g → b.start ≡ a.start → b.reset_count ≡ a.reset_count
    → sequence_context_text h b number o ≡ sequence_context_text g a number o
unfolding sequence_context_text
same_sequence g h a b number o proof start reset_count =
    let head : ContextHead = sequence_head number in
    let content : List ℕ = slot_text (Some o) in
    ap (λ (p : List ℕ). sealed_text p b head (ciphertext_of p b.start head content)) proof
    ∙ ap (λ (s : ℕ). sealed_text (null_proof g) b head
    (ciphertext_of (null_proof g) s head content)) start
    ∙ ap (λ (i : List ℕ). head_text head
    ++ sized_text (blob_text i (sequence_cipher g a.start number o)))
    (same_sequence_integrity (null_proof g) a b number (sequence_cipher g a.start number o) start
    reset_count)

pub loads_saved_sequence : LoadsSavedSequence
loads_saved_sequence r later c d number o small is stays =
    ap (opened_sequence later.fixed.hierarchies (binding_of later d))
    (sym (same_sequence r.fixed.hierarchies later.fixed.hierarchies (binding_of r c)
    (binding_of later d) number o stays.proof stays.start stays.reset_count))
    ∙ sequence_opens_again later.fixed.hierarchies (binding_of later d) number o small is

pub loads_only_made_sequence : LoadsOnlyMadeSequence
loads_only_made_sequence h a number object found r layer counted is bound whole small e =
    sequence_opens_only_as_made h r.fixed.hierarchies a (binding_of r layer) number object found
    counted is bound
    (record { start = small; reset_count = whole.reset_count; restart_count = whole.restart_count })
    e
