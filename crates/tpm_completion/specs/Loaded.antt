-- Which contexts of objects and of sequence objects can be loaded: those that were saved since both the layer's last start
-- and the last TPM Reset. TPM 2.0 Library, Part 1, section 30 (context management).
use Rattle.std.specs.Prelude.{◌≡◌, ◌⊎◌, ℕ, ◌<◌, ◌^◌, List, Ok}
use Rattle.tpm_object.specs.Object.{IsObject}
use Rattle.tpm_object.specs.declared.object.Object.{Object}
use Rattle.tpm_record.specs.IsRecord.{IsRecord}
use Rattle.tpm_record.specs.Record.{Record}
use Rattle.tpm_context.specs.Context.{context_text as object_context_text, context_proof}
use Rattle.tpm_record.specs.declared.hierarchy.Hierarchies.{Hierarchies}
use Rattle.tpm_sequence.specs.declared.object.SequenceObject.{SequenceObject}
use Rattle.tpm_context.specs.Meaning.{AreSame, Collides, CollidesFor, IsAsMade, IsBinding, IsEncodable, IsMaking, Making, context_of, made_with, restart_of, sequence_covered}
use Rattle.tpm_context.specs.Sequences.{null_proof, sequence_context_text}
use Rattle.tpm_context.specs.declared.binding.Binding.{Binding}
use Rattle.tpm_completion.specs.Loading.{object_opened}
use Rattle.tpm_completion.specs.Saving.{binding_of}
use Rattle.tpm_completion.specs.SequenceLoading.{sequence_opened}
use Rattle.tpm_completion.specs.declared.completion.Completion.{Completion}

-- the context that TPM2_ContextSave returns for an object, with this sequence number
abbrev pub saved_context : Record → Completion → (number : ℕ) → Object → List ℕ
saved_context r c number object =
    object_context_text r.fixed.hierarchies (binding_of r c) number object

-- The context of an object that was saved at the record `r` can still be loaded at the record
-- `later`. The proof of the object's hierarchy, the layer's start number and the device's count of
-- TPM Resets are the same. For an object with stClear, the count of TPM Restarts is the same too.
pub record StaysValid (r later : Record) (c d : Completion) (object : Object) : Type 0 where
  pub proof : context_proof later.fixed.hierarchies object.hierarchy
      ≡ context_proof r.fixed.hierarchies object.hierarchy
  pub start : d.start ≡ c.start
  pub reset_count : later.fixed.reset_count ≡ r.fixed.reset_count
  pub restart_count : restart_of (binding_of later d) object ≡ restart_of (binding_of r c) object

-- Loading a context that is still valid yields the object that was saved.
abbrev pub LoadsWhatWasSaved : Type 0
LoadsWhatWasSaved =
    (r later : Record) (c d : Completion) (number : ℕ) (object : Object)
    → number < 2 ^ 64 → IsObject object → StaysValid r later c d object
    → object_opened later d (saved_context r c number object) ≡ Ok object

-- Unless the HMAC has a collision, a context can be loaded only with the proof, start number and
-- count of TPM Resets with which it was made; for an object with stClear, the count of TPM Restarts
-- must match too. Loading then yields the object from which the context was made.
abbrev pub LoadsOnlyWhatWasMade : Type 0
LoadsOnlyWhatWasMade =
    (c : Making) (r : Record) (layer : Completion) (object : Object)
    → IsMaking c → IsRecord r → layer.start < 2 ^ 64
    → object_opened r layer (context_of c) ≡ Ok object
    → AreSame c (made_with r.fixed.hierarchies (binding_of r layer) object c)
    ⊎ CollidesFor r.fixed.hierarchies (binding_of r layer) c

-- ---- sequence objects

-- the context that TPM2_ContextSave returns for a sequence object, with this sequence number
abbrev pub saved_sequence : Record → Completion → (number : ℕ) → SequenceObject → List ℕ
saved_sequence r c number object =
    sequence_context_text r.fixed.hierarchies (binding_of r c) number object

-- The context of a sequence object, saved when the record was `r`, can still be loaded when it is
-- `later`. The proof of the null hierarchy, the layer's start number and the device's count of TPM
-- Resets are the same.
pub record SequenceStaysValid (r later : Record) (c d : Completion) : Type 0 where
  pub proof : null_proof later.fixed.hierarchies ≡ null_proof r.fixed.hierarchies
  pub start : d.start ≡ c.start
  pub reset_count : later.fixed.reset_count ≡ r.fixed.reset_count

-- Loading a context that is still valid yields the sequence object that was saved.
abbrev pub LoadsSavedSequence : Type 0
LoadsSavedSequence =
    (r later : Record) (c d : Completion) (number : ℕ) (object : SequenceObject)
    → number < 2 ^ 64 → IsEncodable object → SequenceStaysValid r later c d
    → sequence_opened later d (saved_sequence r c number object) ≡ Ok object

-- Unless the HMAC has a collision, the context of a sequence object can be loaded only with the
-- proof, start number and count of TPM Resets with which it was made, and loading it yields the
-- sequence object from which it was made.
abbrev pub LoadsOnlyMadeSequence : Type 0
LoadsOnlyMadeSequence =
    (h : Hierarchies) (a : Binding) (number : ℕ) (object found : SequenceObject) (r : Record)
    (layer : Completion)
    → number < 2 ^ 64 → IsEncodable object → IsBinding a → IsRecord r → layer.start < 2 ^ 64
    → sequence_opened r layer (sequence_context_text h a number object) ≡ Ok found
    → IsAsMade h r.fixed.hierarchies a (binding_of r layer) object found
    ⊎ Collides (null_proof h) (sequence_covered h a a number object)
    (null_proof r.fixed.hierarchies) (sequence_covered h a (binding_of r layer) number object)
