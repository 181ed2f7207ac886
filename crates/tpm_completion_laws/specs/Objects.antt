-- The effects of TPM2_ContextSave and TPM2_ContextLoad of an object, as whole commands on a device
-- with the layer. TPM 2.0 Library, Part 3, sections 28.2 and 28.3.
use Rattle.std.specs.Prelude.{◌≡◌, ◌≢◌, ℕ, ◌+◌, ◌-◌, ◌<◌, ◌^◌, Bool, true, List, Option, Some, None}
use Rattle.std.specs.Int.{w32, to_be_bytes}
use Rattle.tpm_object.specs.Object.{IsObject}
use Rattle.tpm_object.specs.declared.object.Object.{Object}
use Rattle.tpm_types_common.specs.Handle.{is_transient}
use Rattle.tpm_types_common.specs.declared.handle.Handle.{Handle}
use Rattle.tpm_commands.specs.CommandCode.{code_number}
use Rattle.tpm_commands.specs.declared.command_code.CommandCode.TheVariants as command
use Rattle.tpm_record.specs.IsRecord.{IsRecord}
use Rattle.tpm_record.specs.Objects.{next_handle, object_at}
use Rattle.tpm_record.specs.Record.{Record}
use Rattle.tpm_record.specs.Tick.{after_tick}
use Rattle.tpm_step.specs.step.Answer.{framed_message}
use Rattle.tpm_step.specs.step.Events.{Given, PlainEvent}
use Rattle.tpm_step.specs.step.Placing.{record_with_object}
use Rattle.tpm_step.specs.step.Step.{step}
use Rattle.tpm_completion.specs.Answer.{refusal, success}
use Rattle.tpm_completion.specs.Completed.{completed_effect}
use Rattle.tpm_completion.specs.Completion.{forgotten}
use Rattle.tpm_completion.specs.Execution.{Seen}
use Rattle.tpm_completion.specs.Hiding.{heard_if}
use Rattle.tpm_completion.specs.Loaded.{StaysValid, saved_context}
use Rattle.tpm_completion.specs.Saving.{layer_with_count}
use Rattle.tpm_completion.specs.declared.completion.Completion.{Completion}

-- the buffer of a TPM2_ContextSave (162) of a handle, without sessions
abbrev pub save_buffer : Handle → List ℕ
save_buffer handle = framed_message 0x8001 0x162 (to_be_bytes w32 handle.number)

-- the buffer of a TPM2_ContextLoad (161) of a context, without sessions
abbrev pub load_buffer : (context : List ℕ) → List ℕ
load_buffer context = framed_message 0x8001 0x161 context

-- the effect of a command on a device with the layer, if no allocation fails
abbrev pub effect_of : Completion → Record → (buffer : List ℕ) → (locality elapsed : ℕ) → List ℕ
    → Seen
effect_of c r buffer locality elapsed random =
    completed_effect true c r (Given buffer locality elapsed random)

-- ---- saving

-- An object was saved in a context with the layer's next number, and the device's record is
-- unchanged.
pub record IsSaved (r : Record) (c : Completion) (object : Object) (seen : Seen) : Type 0 where
  pub response : seen.step.response ≡ success (saved_context r c (c.count + 1) object)
  pub device : seen.step.after ≡ r
  pub layer : seen.layer ≡ layer_with_count c (c.count + 1)

-- TPM2_ContextSave of a loaded object returns its context, which has the layer's next number. Only
-- the device's time changes.
abbrev pub SavesObjects : Type 0
SavesObjects =
    (r : Record) (c : Completion) (handle : Handle) (object : Object) (locality elapsed : ℕ)
    (random : List ℕ)
    → r.fixed.started ≡ true → handle.number < 2 ^ 32 → is_transient handle ≡ true
    → c.count < 2 ^ 64 - 1 → object_at r.objects handle ≡ Some object
    → IsSaved (after_tick r elapsed) (forgotten (after_tick r elapsed) c) object
    (effect_of c r (save_buffer handle) locality elapsed random)

-- ---- loading

-- The object got a free handle: the response contains the handle, which now names this object. The
-- device is otherwise unchanged.
pub record IsPlaced (r : Record) (object : Object) (handle : Handle) (seen : Seen) : Type 0 where
  pub response : seen.step.response ≡ success (to_be_bytes w32 handle.number)
  pub free : object_at r.objects handle ≡ None
  pub found : object_at seen.step.after.objects handle ≡ Some object
  pub device : seen.step.after ≡ record_with_object r object

-- No slot was free: the response is OBJECT_MEMORY (902), and the device is unchanged.
pub record IsFull (r : Record) (seen : Seen) : Type 0 where
  pub response : seen.step.response ≡ refusal 0x902
  pub device : seen.step.after ≡ r

abbrev pub IsLoaded : Record → Object → Option Handle → Seen → Type 0
IsLoaded r object (Some handle) seen = IsPlaced r object handle seen
IsLoaded r object None seen = IsFull r seen

-- TPM2_ContextLoad of a valid context loads the same object, with its public area, its sensitive
-- area and its Name, and with a free handle. If all slots are occupied, the command is refused with
-- OBJECT_MEMORY (902).
abbrev pub LoadsObjects : Type 0
LoadsObjects =
    (r later : Record) (c d : Completion) (number : ℕ) (object : Object) (locality elapsed : ℕ)
    (random : List ℕ)
    → number < 2 ^ 64 → IsObject object → IsRecord later → later.fixed.started ≡ true
    → StaysValid r later c d object
    → IsLoaded (after_tick later elapsed) object (next_handle later.objects)
    (effect_of d later (load_buffer (saved_context r c number object)) locality elapsed random)

-- ---- what ends the validity of a context

-- Except for TPM2_Startup and TPM2_Clear, every command leaves each context valid, with or without
-- the layer. This includes a TPM2_FlushContext of the object itself.
abbrev pub StaysValidThrough : Type 0
StaysValidThrough =
    (completes : Bool) (r : Record) (c : Completion) (object : Object) (buffer : List ℕ)
    (locality elapsed : ℕ) (random : List ℕ)
    → let heard : PlainEvent = heard_if completes c (Given buffer locality elapsed random) in
    (step r heard).row.code ≢ code_number command.Startup
    → (step r heard).row.code ≢ code_number command.Clear
    → let seen : Seen = completed_effect completes c r (Given buffer locality elapsed random) in
    StaysValid r seen.step.after c seen.layer object
