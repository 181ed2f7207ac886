-- The context of a sequence object: like that of an object, but with another savedHandle and with
-- the hierarchy TPM_RH_NULL. TPM 2.0 Library, Part 1, sections 30 (context management) and 32.4
-- (sequence objects), and Part 2, section 14.5 (TPMI_DH_SAVED).
use Rattle.std.specs.Prelude.{ℕ, ◌==◌, not, List, length, ok_or, Some, Result}
use Rattle.tpm_bytes.specs.Reading.{◌>>=◌, or_fault, refused_if}
use Rattle.tpm_image_text.specs.Fields.{are_bytes}
use Rattle.tpm_record.specs.declared.hierarchy.Hierarchies.{Hierarchies}
use Rattle.tpm_sequence.specs.declared.object.SequenceObject.{SequenceObject}
use Rattle.tpm_sequence_text.specs.Slot.{slot_in, slot_text}
use Rattle.tpm_types_common.specs.declared.handle.HierarchyHandle.TheVariants as hierarchy
use Rattle.tpm_context.specs.Context.{content_in, context_proof, sealed_text}
use Rattle.tpm_context.specs.Head.{is_sequence_head, sequence_head}
use Rattle.tpm_context.specs.Protection.{ciphertext_of}
use Rattle.tpm_context.specs.declared.binding.Binding.{Binding}
use Rattle.tpm_context.specs.declared.fault.ContextFault.{ContextFault}
use Rattle.tpm_context.specs.declared.fault.ContextFault.TheVariants as fault
use Rattle.tpm_context.specs.declared.head.ContextHead.{ContextHead}

-- the proof of the null hierarchy, with which the contexts of sequence objects are protected
abbrev pub null_proof : Hierarchies → List ℕ
null_proof h = context_proof h hierarchy.Null

-- the encrypted sequence object of a context: a slot with this object, as in a state text
abbrev pub sequence_cipher : Hierarchies → (start number : ℕ) → SequenceObject → List ℕ
sequence_cipher h start number object =
    ciphertext_of (null_proof h) start (sequence_head number) (slot_text (Some object))

-- the context of a sequence object, with this sequence number
unfoldable pub sequence_context_text : Hierarchies → Binding → (number : ℕ) → SequenceObject
    → List ℕ
sequence_context_text h b number object =
    sealed_text (null_proof h) b (sequence_head number) (sequence_cipher h b.start number object)

-- the sequence object that a plaintext encodes. The plaintext must consist of bytes and be exactly
-- the encoding of a slot with a sequence object, and the head must be that of a sequence object's
-- context
unfoldable pub sequence_in : ContextHead → (plain : List ℕ) → Result SequenceObject ContextFault
sequence_in head plain = do
  bytes ← refused_if (not (are_bytes plain)) fault.Integrity
  slot ← or_fault (slot_in plain) fault.Integrity
  ended ← refused_if (not (length slot.1 == 0)) fault.Integrity
  same ← refused_if (not (is_sequence_head head)) fault.Integrity
  ok_or slot.0 fault.Integrity

-- the sequence object of a context; after the faults of `content_in`, the fault is INTEGRITY if the
-- plaintext does not encode a sequence object, or if the head is not that of a sequence object's
-- context
unfoldable pub opened_sequence : Hierarchies → Binding → List ℕ
    → Result SequenceObject ContextFault
opened_sequence h b bytes = do
  content ← content_in h b bytes
  sequence_in content.0 content.1
