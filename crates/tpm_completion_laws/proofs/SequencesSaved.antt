-- TPM2_ContextSave of a sequence object returns its context.
use Rattle.std.proofs.Common.{arith, ◌≡◌, ℕ, ◌+◌, ◌-◌, ◌^◌, ◌<◌, Bool, true, false, List, Option, Some, None, refl, sym, ap, subst, ◌∙◌}
use Rattle.std.specs.Prelude.{if◌then◌else◌}
use Rattle.std.specs.Int.{w32, to_be_bytes}
use Rattle.tpm_machine.specs.Drawn.{drawn_by}
use Rattle.tpm_object.specs.declared.object.Object.{Object}
use Rattle.tpm_record.specs.Objects.{object_at}
use Rattle.tpm_record.specs.Record.{Record}
use Rattle.tpm_record.specs.Tick.{after_tick}
use Rattle.tpm_sequence.specs.declared.object.SequenceObject.{SequenceObject}
use Rattle.tpm_step.specs.step.Events.{Given}
use Rattle.tpm_types_common.specs.Handle.{is_transient}
use Rattle.tpm_types_common.specs.declared.handle.Handle.{Handle}
use Rattle.tpm_completion.specs.Answer.{refusal, success}
use Rattle.tpm_completion.specs.Completed.{completed_after, completed_with, done_after, sending_after}
use Rattle.tpm_completion.specs.Completion.{forgotten}
use Rattle.tpm_completion.specs.Execution.{Seen, effect_with_reply}
use Rattle.tpm_completion.specs.Loaded.{saved_sequence}
use Rattle.tpm_completion.specs.Reply.{save_asked, served_reply}
use Rattle.tpm_completion.specs.Saving.{Reply, layer_with_count, object_saved, save_reply, sequence_numbered, sequence_saved}
use Rattle.tpm_completion.specs.Sequences.{no_sequences, sequence_of, slot_of}
use Rattle.tpm_completion.specs.declared.completion.Completion.{Completion}
use Rattle.tpm_completion_laws.proofs.Buffers.{asked_again, header_lacks, lacking_step, none_sent, plain_heard, reply_again, step_lacks}
use Rattle.tpm_completion_laws.proofs.Saving.{handle_read, kept_count, lacking_effect, lacks_save, numbered_next, passed_lacks, save_handles}
use Rattle.tpm_completion_laws.proofs.SequencesNamed.{same_named, sequence_transient}
use Rattle.tpm_completion_laws.specs.Objects.{save_buffer}
use Rattle.tpm_completion_laws.specs.Sequences.{IsSequenceSaved, SavesSequences}

-- ---- the reply

chosen : (t : Record) (c : Completion) (handle : Handle) (b : Bool) (found : Option Object)
    (other : Reply) → b ≡ true → found ≡ None
    → (if b then object_saved t c handle found else other)
    ≡ sequence_saved t c (sequence_of c handle)
chosen t c handle b found other holds none = rw (holds, none) refl

-- the reply that contains the context of a sequence object
abbrev saved_reply : Record → Completion → SequenceObject → Reply
saved_reply t c object =
    record {
      response = success (saved_sequence t c (c.count + 1) object);
      after =
          layer_with_count c (c.count + 1);
    }

saved_is : (t : Record) (c : Completion) (handle : Handle) (object : SequenceObject)
    → c.count < 2 ^ 64 - 1 → object_at t.objects handle ≡ None → sequence_of c handle ≡ Some object
    → save_reply t c handle ≡ saved_reply t c object
unfolding save_reply
saved_is t c handle object less none there =
    chosen t c handle (is_transient handle) (object_at t.objects handle) _
    (sequence_transient c handle object there) none
    ∙ ap (sequence_saved t c) there
    ∙ ap (sequence_numbered t c object) (numbered_next c less)

served_saves : (t : Record) (c : Completion) (handle : Handle) (object : SequenceObject)
    → handle.number < 2 ^ 32 → c.count < 2 ^ 64 - 1 → object_at t.objects handle ≡ None
    → sequence_of c handle ≡ Some object
    → served_reply t c (record { code = 0x162; parameters = to_be_bytes w32 handle.number })
    (refusal 0x143) ≡ saved_reply t c object
served_saves t c handle object small less none there =
    ap (save_asked t c (refusal 0x143)) (handle_read handle small)
    ∙ saved_is t c handle object less none there

-- ---- the effect

-- the layer keeps its sequence objects while the device is started
pub kept_sequences : (t : Record) (c : Completion) → t.fixed.started ≡ true
    → (forgotten t c).sequences ≡ c.sequences
unfolding forgotten
kept_sequences t c started = ap (λ (b : Bool). if b then c.sequences else no_sequences) started

saved_effect : (t : Record) (c : Completion) (handle : Handle) (object : SequenceObject)
    (locality drawn : ℕ) (random : List ℕ) → t.fixed.started ≡ true → handle.number < 2 ^ 32
    → (forgotten t c).count < 2 ^ 64 - 1 → object_at t.objects handle ≡ None
    → sequence_of (forgotten t c) handle ≡ Some object
    → completed_after (lacking_effect t c drawn) (save_buffer handle) locality random
    ≡ effect_with_reply (lacking_effect t c drawn) (saved_reply t (forgotten t c) object)
saved_effect t c handle object locality drawn random started small less none there =
    let first = lacking_effect t c drawn in
    ap (done_after first (save_buffer handle) locality random)
    (asked_again t 0x162 (to_be_bytes w32 handle.number) (omega arith) (omega arith) started)
    ∙ ap (sending_after first (save_buffer handle) locality random)
    (none_sent t (forgotten t c) 0x162 (to_be_bytes w32 handle.number) (omega arith))
    ∙ ap (effect_with_reply first)
    (reply_again t (forgotten t c) 0x162 (to_be_bytes w32 handle.number) false (omega arith)
    (omega arith) started refl
    ∙ served_saves t (forgotten t c) handle object small less none there)

-- the number of the last context does not change which sequence object a handle names
counted_named : (c : Completion) (number : ℕ) (handle : Handle)
    → sequence_of (layer_with_count c number) handle ≡ sequence_of c handle
unfolding slot_of
counted_named c number handle = refl

pub saves_sequences : SavesSequences
saves_sequences r c handle object locality elapsed random started small less none there =
    let t = after_tick r elapsed in
    let buffer = save_buffer handle in
    let lacks = step_lacks r buffer locality elapsed random
    (header_lacks 0x162 (to_be_bytes w32 handle.number) lacks_save (omega arith)) in
    let drawn = drawn_by r (Given buffer locality elapsed random) (lacking_step t).row.check in
    let own = same_named (forgotten t c) c handle (kept_sequences t c started) ∙ there in
    let effect = ap (λ (bytes : List ℕ). completed_with c r (Given bytes locality elapsed random))
    (plain_heard c 0x162 (to_be_bytes w32 handle.number) lacks_save save_handles)
    ∙ ap (λ (first : Seen). completed_after first buffer locality random)
    (passed_lacks r c buffer locality elapsed random lacks)
    ∙ saved_effect t c handle object locality drawn random started small
    (subst (λ (n : ℕ). n < 2 ^ 64 - 1) (sym (kept_count t c)) less) none own in
    subst (IsSequenceSaved t (forgotten t c) handle object) (sym effect)
    (record {
      response = refl;
      device = refl;
      layer = refl;
      stays =
          counted_named (forgotten t c) ((forgotten t c).count + 1) handle ∙ own;
    })
