-- TPM2_ContextSave of a loaded object returns its context.
use Rattle.std.proofs.Common.{arith, ◌≡◌, ℕ, ◌+◌, ◌-◌, ◌^◌, ◌<◌, Bool, true, false, List, [], Option, Some, None, Ok, refl, sym, ap, subst, ◌∙◌, append-nil}
use Rattle.std.specs.Prelude.{if◌then◌else◌}
use Rattle.std.specs.Int.{w32, to_be_bytes}
use Rattle.std.proofs.lemmas.Bool.{lt-ltb}
use Rattle.tpm_bytes.specs.Reading.{number_at}
use Rattle.tpm_bytes.proofs.Fields.{number_again, wide32}
use Rattle.tpm_commands.specs.CommandCode.{code_named}
use Rattle.tpm_machine.specs.Drawn.{drawn_by}
use Rattle.tpm_object.specs.declared.object.Object.{Object}
use Rattle.tpm_record.specs.Objects.{object_at}
use Rattle.tpm_record.specs.Record.{Record}
use Rattle.tpm_record.specs.Tick.{after_tick}
use Rattle.tpm_step.specs.step.Events.{Given}
use Rattle.tpm_step.specs.step.Step.{Stepped, step}
use Rattle.tpm_types_common.specs.Handle.{is_transient}
use Rattle.tpm_types_common.specs.declared.handle.Handle.{Handle}
use Rattle.tpm_completion.specs.Answer.{refusal, success}
use Rattle.tpm_completion.specs.Completed.{completed_after, completed_with, device_effect, done_after, sending_after}
use Rattle.tpm_completion.specs.Completion.{forgotten}
use Rattle.tpm_completion.specs.Execution.{Seen, effect_with_reply}
use Rattle.tpm_completion.specs.Hiding.{handles_of}
use Rattle.tpm_completion.specs.Loaded.{saved_context}
use Rattle.tpm_completion.specs.Reply.{save_asked, served_reply}
use Rattle.tpm_completion.specs.Saving.{Reply, layer_with_count, next_number, object_numbered, object_saved, save_reply}
use Rattle.tpm_completion.specs.declared.completion.Completion.{Completion}
use Rattle.tpm_completion_laws.proofs.Buffers.{IsLacking, asked_again, header_lacks, lacking_step, none_sent, plain_heard, reply_again, step_lacks}
use Rattle.tpm_completion_laws.specs.Objects.{IsSaved, SavesObjects, save_buffer}

-- the effect of a command that the device does not support
abbrev pub lacking_effect : (t : Record) → Completion → (drawn : ℕ) → Seen
lacking_effect t c drawn = record { step = lacking_step t; layer = forgotten t c; drawn = drawn }

pub passed_lacks : (r : Record) (c : Completion) (buffer : List ℕ) (locality elapsed : ℕ)
    (random : List ℕ) → step r (Given buffer locality elapsed random)
    ≡ lacking_step (after_tick r elapsed)
    → device_effect c r (Given buffer locality elapsed random)
    ≡ lacking_effect (after_tick r elapsed) c
    (drawn_by r (Given buffer locality elapsed random)
    (lacking_step (after_tick r elapsed)).row.check)
unfolding device_effect
passed_lacks r c buffer locality elapsed random is =
    ap (λ (x : Stepped). record {
      step = x;
      layer = forgotten x.after c;
      drawn =
          drawn_by r (Given buffer locality elapsed random) x.row.check;
    }) is

pub lacks_save : IsLacking 0x162
unfolding code_named
lacks_save = record { small = omega arith; unnamed = refl }

-- the handle of TPM2_ContextSave counts as a parameter
pub save_handles : handles_of 0x162 ≡ 0
unfolding handles_of code_named
save_handles = refl

-- ---- the reply

chosen : (t : Record) (c : Completion) (handle : Handle) (b : Bool) (found : Option Object)
    (object : Object) (other : Reply) → b ≡ true → found ≡ Some object
    → (if b then object_saved t c handle found else other)
    ≡ object_numbered t c object (next_number c)
chosen t c handle b found object other holds there = rw (holds, there) refl

pub numbered_next : (c : Completion) → c.count < 2 ^ 64 - 1 → next_number c ≡ Some (c.count + 1)
numbered_next c less = ap (λ (b : Bool). if b then Some (c.count + 1) else None)
    (lt-ltb c.count (2 ^ 64 - 1) less)

-- the reply that contains the context of an object
abbrev saved_reply : Record → Completion → Object → Reply
saved_reply t c object =
    record {
      response = success (saved_context t c (c.count + 1) object);
      after =
          layer_with_count c (c.count + 1);
    }

saved_is : (t : Record) (c : Completion) (handle : Handle) (object : Object)
    → is_transient handle ≡ true → c.count < 2 ^ 64 - 1 → object_at t.objects handle ≡ Some object
    → save_reply t c handle ≡ saved_reply t c object
unfolding save_reply
saved_is t c handle object transient less there =
    chosen t c handle (is_transient handle) (object_at t.objects handle) object _ transient there
    ∙ ap (object_numbered t c object) (numbered_next c less)

pub handle_read : (handle : Handle) → handle.number < 2 ^ 32
    → number_at w32 (to_be_bytes w32 handle.number) ≡ Ok (handle.number, [])
handle_read handle small = ap (number_at w32) (sym (append-nil (to_be_bytes w32 handle.number)))
    ∙ number_again w32 (2 ^ 32) wide32 handle.number [] small

served_saves : (t : Record) (c : Completion) (handle : Handle) (object : Object)
    → handle.number < 2 ^ 32 → is_transient handle ≡ true → c.count < 2 ^ 64 - 1
    → object_at t.objects handle ≡ Some object
    → served_reply t c (record { code = 0x162; parameters = to_be_bytes w32 handle.number })
    (refusal 0x143) ≡ saved_reply t c object
served_saves t c handle object small transient less there =
    ap (save_asked t c (refusal 0x143)) (handle_read handle small)
    ∙ saved_is t c handle object transient less there

-- ---- the effect

pub kept_count : (t : Record) (c : Completion) → (forgotten t c).count ≡ c.count
unfolding forgotten
kept_count t c = refl

saved_effect : (t : Record) (c : Completion) (handle : Handle) (object : Object)
    (locality drawn : ℕ) (random : List ℕ) → t.fixed.started ≡ true → handle.number < 2 ^ 32
    → is_transient handle ≡ true → (forgotten t c).count < 2 ^ 64 - 1
    → object_at t.objects handle ≡ Some object
    → completed_after (lacking_effect t c drawn) (save_buffer handle) locality random
    ≡ effect_with_reply (lacking_effect t c drawn) (saved_reply t (forgotten t c) object)
saved_effect t c handle object locality drawn random started small transient less there =
    let first = lacking_effect t c drawn in
    ap (done_after first (save_buffer handle) locality random)
    (asked_again t 0x162 (to_be_bytes w32 handle.number) (omega arith) (omega arith) started)
    ∙ ap (sending_after first (save_buffer handle) locality random)
    (none_sent t (forgotten t c) 0x162 (to_be_bytes w32 handle.number) (omega arith))
    ∙ ap (effect_with_reply first)
    (reply_again t (forgotten t c) 0x162 (to_be_bytes w32 handle.number) false (omega arith)
    (omega arith) started refl
    ∙ served_saves t (forgotten t c) handle object small transient less there)

pub saves_objects : SavesObjects
saves_objects r c handle object locality elapsed random started small transient less there =
    let t = after_tick r elapsed in
    let buffer = save_buffer handle in
    let lacks = step_lacks r buffer locality elapsed random
    (header_lacks 0x162 (to_be_bytes w32 handle.number) lacks_save (omega arith)) in
    let drawn = drawn_by r (Given buffer locality elapsed random) (lacking_step t).row.check in
    let effect = ap (λ (bytes : List ℕ). completed_with c r (Given bytes locality elapsed random))
    (plain_heard c 0x162 (to_be_bytes w32 handle.number) lacks_save save_handles)
    ∙ ap (λ (first : Seen). completed_after first buffer locality random)
    (passed_lacks r c buffer locality elapsed random lacks)
    ∙ saved_effect t c handle object locality drawn random started small transient
    (subst (λ (n : ℕ). n < 2 ^ 64 - 1) (sym (kept_count t c)) less) there in
    subst (IsSaved t (forgotten t c) object) (sym effect)
    (record { response = refl; device = refl; layer = refl })
