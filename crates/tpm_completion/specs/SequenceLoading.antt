-- TPM2_ContextLoad of a sequence object's context. TPM 2.0 Library, Part 3, section 28.3.
use Rattle.std.specs.Prelude.{ℕ, List, Option, Some, None, Result, Ok, Err}
use Rattle.tpm_record.specs.Record.{Record}
use Rattle.tpm_sequence.specs.declared.object.SequenceObject.{SequenceObject}
use Rattle.tpm_types_common.specs.Rc.{rc_number}
use Rattle.tpm_context.specs.Head.{fault_rc}
use Rattle.tpm_context.specs.Sequences.{opened_sequence}
use Rattle.tpm_context.specs.declared.fault.ContextFault.{ContextFault}
use Rattle.tpm_completion.specs.Saving.{Reply, binding_of, handle_given, refusal_reply}
use Rattle.tpm_completion.specs.Sequences.{free_slot, sequence_handle, with_sequence}
use Rattle.tpm_completion.specs.declared.completion.Completion.{Completion}

-- the sequence object in a context, or why it cannot be loaded
abbrev pub sequence_opened : Record → Completion → (context : List ℕ)
    → Result SequenceObject ContextFault
sequence_opened r c context = opened_sequence r.fixed.hierarchies (binding_of r c) context

-- the reply that puts a sequence object into a free slot: its handle, or OBJECT_MEMORY (902) if no
-- slot is free
abbrev pub sequence_put : Completion → SequenceObject → (slot : Option ℕ) → Reply
sequence_put c object (Some slot) = handle_given (with_sequence c slot object) (sequence_handle slot)
sequence_put c object None = refusal_reply c 0x902

abbrev pub opened_put : Completion → Result SequenceObject ContextFault → Reply
opened_put c (Ok object) = sequence_put c object (free_slot c)
opened_put c (Err fault) = refusal_reply c (rc_number (fault_rc fault))

-- the reply to TPM2_ContextLoad of a context whose savedHandle is that of a sequence object
abbrev pub sequence_loaded : Record → Completion → (context : List ℕ) → Reply
sequence_loaded r c context = opened_put c (sequence_opened r c context)
