-- TPM2_ContextLoad of an object's context. TPM 2.0 Library, Part 3, section 28.3.
use Rattle.std.specs.Prelude.{ℕ, ◌==◌, ◌&&◌, not, List, if◌then◌else◌, Option, Some, None, Result, Ok, Err}
use Rattle.tpm_bytes.specs.declared.cursor.Short.{Short}
use Rattle.tpm_object.specs.declared.object.Object.{Object}
use Rattle.tpm_types_common.specs.declared.handle.Handle.{Handle}
use Rattle.tpm_record.specs.Record.{Record}
use Rattle.tpm_context.specs.Context.{object_in_context}
use Rattle.tpm_context.specs.declared.fault.ContextFault.{ContextFault}
use Rattle.tpm_completion.specs.Answer.{is_refusal}
use Rattle.tpm_completion.specs.Command.{Command, plain_command}
use Rattle.tpm_completion.specs.Context.{names_own}
use Rattle.tpm_completion.specs.Saving.{Reply, binding_of, handle_given, refusal_reply}
use Rattle.tpm_completion.specs.declared.completion.Completion.{Completion}

-- the context that a TPM2_ContextLoad (161) is to load, unless it is that of a session or of a
-- sequence object
abbrev pub object_context_in : Result Command Short → Option (List ℕ)
object_context_in (Ok command) =
    if (command.code == 0x161) && not (names_own command.parameters) then
    Some command.parameters
    else None
object_context_in (Err e) = None

-- the object's context in a TPM2_ContextLoad, if the device is started and refused the command with
-- COMMAND_CODE (143)
unfoldable pub context_asked : Record → (buffer response : List ℕ) → Option (List ℕ)
context_asked r buffer response =
    if r.fixed.started && is_refusal 0x143 response then object_context_in (plain_command buffer)
    else None

-- the object in a context, or why it cannot be loaded
abbrev pub object_opened : Record → Completion → (context : List ℕ) → Result Object ContextFault
object_opened r c context = object_in_context r.fixed.hierarchies (binding_of r c) context

-- the reply after placing an object: the object's handle, or OBJECT_MEMORY (902) if no slot was
-- free
abbrev pub placed_reply : Completion → Option Handle → Reply
placed_reply c (Some handle) = handle_given c handle
placed_reply c None = refusal_reply c 0x902
