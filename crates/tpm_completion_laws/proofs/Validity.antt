-- Every command except TPM2_Startup and TPM2_Clear leaves each context valid.
use Rattle.std.proofs.Common.{◌≡◌, ◌≢◌, ℕ, ◌==◌, Bool, true, false, List, Option, Some, None, Result, Ok, Err, IfOk, IfSome, refl, sym, ap, subst, ◌∙◌}
use Rattle.std.proofs.lemmas.Bool.{false≢true}
use Rattle.tpm_commands.specs.CommandCode.{code_number, part_of}
use Rattle.tpm_commands.specs.Part as part
use Rattle.tpm_commands.specs.Part.{Part}
use Rattle.tpm_commands.specs.declared.command_code.CommandCode.{CommandCode}
use Rattle.tpm_commands.specs.declared.command_code.CommandCode.TheVariants as command
use Rattle.tpm_record.specs.Hierarchy.{secrets_of}
use Rattle.tpm_record.specs.Record.{Record}
use Rattle.tpm_record.specs.declared.fixed.Fixed.{Fixed}
use Rattle.tpm_record.specs.declared.hierarchy.Hierarchies.{Hierarchies}
use Rattle.tpm_record.specs.declared.hierarchy.Secrets.{Secrets}
use Rattle.tpm_record.specs.rows.Rows.{Success}
use Rattle.tpm_types_common.specs.declared.handle.HierarchyHandle.TheVariants as hierarchy
use Rattle.tpm_step.proofs.rows.Acceptance.{accepted_is}
use Rattle.tpm_step.proofs.rows.Leaving.{success_leaves}
use Rattle.tpm_step.proofs.rows.Table.{row_touches}
use Rattle.tpm_step.specs.step.Table.{row_of}
use Rattle.tpm_step.specs.declared.refused_command.RefusedCommand.{RefusedCommand}
use Rattle.tpm_step.specs.rows.Acceptance.{IsAcceptance, LeavesEffect}
use Rattle.tpm_step.specs.rows.Footprint.{KeepsSecrets, Touches}
use Rattle.tpm_completion.specs.Completed.{completed_effect, device_effect, done_after, loaded_after, sending_after}
use Rattle.tpm_completion.specs.Completion.{forgotten}
use Rattle.tpm_completion.specs.Execution.{Seen, asked_after, opened_after, sent_after, sent_event}
use Rattle.tpm_completion.specs.Hiding.{heard_buffer, heard_if}
use Rattle.tpm_completion.specs.Loaded.{SequenceStaysValid, StaysValid}
use Rattle.tpm_completion.specs.Saving.{binding_of}
use Rattle.tpm_completion.specs.declared.completion.Completion.{Completion}
use Rattle.tpm_completion.specs.declared.sending.Sent.{Sent}
use Rattle.tpm_context.proofs.ContextLaws.{same_proof}
use Rattle.tpm_context.specs.Meaning.{restart_of}
use Rattle.tpm_context.specs.declared.binding.Binding.{Binding}
use Rattle.tpm_context.specs.declared.fault.ContextFault.{ContextFault}
use Rattle.tpm_object.specs.declared.object.Object.{Object}
use Rattle.tpm_record.specs.Objects.{next_handle}
use Rattle.tpm_record.specs.Tick.{after_tick}
use Rattle.tpm_step.specs.step.Events.{Given, PlainEvent}
use Rattle.tpm_step.specs.step.Step.{Accepted, acceptance_in, step, stepped_of, success_step}
use Rattle.tpm_completion_laws.proofs.SentCodes.{HasCode, accepted_code, sent_code}
use Rattle.tpm_completion_laws.proofs.Starts.{placed_starts, reply_starts, sent_starts}
use Rattle.tpm_completion_laws.specs.Objects.{StaysValidThrough}
use Rattle.tpm_completion_laws.specs.Sequences.{SequencesStayValidThrough}

-- The proofs of the hierarchies, and the counts of TPM Resets and TPM Restarts, are unchanged.
record Keeps (old new : Fixed) : Type 0 where
  secrets : KeepsSecrets old.hierarchies new.hierarchies
  reset_count : new.reset_count ≡ old.reset_count
  restart_count : new.restart_count ≡ old.restart_count

then_keeps : (a b c : Fixed) → Keeps a b → Keeps b c → Keeps a c
then_keeps a b c first second = record {
  secrets = λ h. second.secrets h ∙ first.secrets h;
  reset_count = second.reset_count ∙ first.reset_count;
  restart_count = second.restart_count ∙ first.restart_count;
}

-- if the hierarchies and both counts are equal, the proofs and the counts are unchanged
same_keeps : (old new : Fixed) → new.hierarchies ≡ old.hierarchies
    → new.reset_count ≡ old.reset_count → new.restart_count ≡ old.restart_count → Keeps old new
same_keeps old new same reset restart = record {
  secrets = λ h. ap (λ (x : Hierarchies). secrets_of x h) same;
  reset_count = reset;
  restart_count = restart;
}

-- ---- parts of the state

-- whether the proofs and the counts stay unchanged when a successful command changes this part of
-- the state
keeps_counts : Part → Bool
keeps_counts part.Beginning = false
keeps_counts part.Cleared = false
keeps_counts _ = true

abbrev Equal : Record → Record → Type 0
Equal old new = Keeps old.fixed new.fixed

by_record : (old new other : Record) → new ≡ other → Keeps old.fixed other.fixed → Equal old new
by_record old new other is keeps = subst (λ (r : Record). Keeps old.fixed r.fixed) (sym is) keeps

nothing_changed : (f : Fixed) → Keeps f f
nothing_changed f = same_keeps f f refl refl refl

touched_keeps : (p : Part) (old new : Record) → keeps_counts p ≡ true → Touches p old new
    → Equal old new
unfolding keeps_counts
touched_keeps part.Nothing old new holds is = by_record old new _ is (nothing_changed old.fixed)
touched_keeps part.Sessions old new holds is = by_record old new _ is (nothing_changed old.fixed)
touched_keeps part.Objects old new holds is = by_record old new _ is (nothing_changed old.fixed)
touched_keeps part.SessionsAndObjects old new holds is =
    by_record old new _ is (nothing_changed old.fixed)
touched_keeps part.Persistent old new holds is = by_record old new _ is (nothing_changed old.fixed)
touched_keeps part.NvData old new holds is = by_record old new _ is (nothing_changed old.fixed)
touched_keeps part.NvCounter old new holds is = by_record old new _ is (nothing_changed old.fixed)
touched_keeps part.NvAuthValue old new holds is = by_record old new _ is (nothing_changed old.fixed)
touched_keeps part.NvDefined old new holds is = by_record old new _ is (nothing_changed old.fixed)
touched_keeps part.NvUndefined old new holds is = by_record old new _ is (nothing_changed old.fixed)
touched_keeps part.AuthValues old new holds (is, secrets) =
    by_record old new _ is (record { secrets = secrets; reset_count = refl; restart_count = refl })
touched_keeps part.Lockout old new holds is = by_record old new _ is (same_keeps _ _ refl refl refl)
touched_keeps part.Banks old new holds is = by_record old new _ is (same_keeps _ _ refl refl refl)
touched_keeps part.Saved old new holds is = by_record old new _ is (same_keeps _ _ refl refl refl)
touched_keeps part.DisableClear old new holds is =
    by_record old new _ is (same_keeps _ _ refl refl refl)
touched_keeps part.Clock old new holds is = by_record old new _ is (same_keeps _ _ refl refl refl)
touched_keeps part.Beginning old new holds is = absurd (false≢true holds)
touched_keeps part.Cleared old new holds is = absurd (false≢true holds)

-- ---- commands

part_keeps : (c : CommandCode) → code_number c ≢ code_number command.Startup
    → code_number c ≢ code_number command.Clear → keeps_counts (part_of c) ≡ true
unfolding keeps_counts
part_keeps command.Startup no_startup no_clear = absurd (no_startup refl)
part_keeps command.Clear no_startup no_clear = absurd (no_clear refl)
part_keeps _ no_startup no_clear = refl

left_keeps : (old new : Record) → LeavesEffect old new → Equal old new
left_keeps old new is = by_record old new _ is (same_keeps _ _ refl refl refl)

row_keeps : (t : Record) (a : Accepted) → row_of t a.command.code a.request ≡ Ok a.success
    → keeps_counts (part_of a.command.code) ≡ true → Equal t a.success.after
row_keeps t a row keeps =
    touched_keeps (part_of a.command.code) t a.success.after keeps
    (subst (λ (x : Result Success _). IfOk x (λ s. Touches (part_of a.command.code) t s.after)) row
    (row_touches t a.command.code a.request))

stepped_keeps : (t : Record) (locality : ℕ) (random : List ℕ) (x : Result Accepted RefusedCommand)
    → IfOk x (IsAcceptance t locality random)
    → (stepped_of t random x).row.code ≢ code_number command.Startup
    → (stepped_of t random x).row.code ≢ code_number command.Clear
    → Equal t (stepped_of t random x).after
stepped_keeps t locality random (Ok a) is no_startup no_clear =
    then_keeps t.fixed a.success.after.fixed (success_step a random).after.fixed
    (row_keeps t a is.row (part_keeps a.command.code no_startup no_clear))
    (left_keeps a.success.after (success_step a random).after (success_leaves a random))
stepped_keeps t locality random (Err e) is no_startup no_clear = same_keeps _ _ refl refl refl

-- ---- the layer

-- An effect leaves contexts valid: the proofs, the counts and the layer's start number are
-- unchanged.
record Leaves (r : Record) (c : Completion) (seen : Seen) : Type 0 where
  fixed : Keeps r.fixed seen.step.after.fixed
  start : seen.layer.start ≡ c.start

loaded_leaves : (first : Seen) (opened : Result Object ContextFault)
    → Leaves first.step.after first.layer (loaded_after first opened)
loaded_leaves first (Ok object) = record {
  fixed = nothing_changed first.step.after.fixed;
  start = placed_starts first.layer (next_handle first.step.after.objects);
}
loaded_leaves first (Err fault) =
    record { fixed = nothing_changed first.step.after.fixed; start = refl }

passed_leaves : (r : Record) (c : Completion) (event : PlainEvent)
    → Keeps r.fixed (step r event).after.fixed → Leaves r c (device_effect c r event)
unfolding device_effect forgotten
passed_leaves r c event keeps = record { fixed = keeps; start = refl }

-- the command that the layer sends to the device keeps the proofs and the counts
sent_keeps : (t : Record) (locality : ℕ) (random buffer : List ℕ)
    → HasCode (λ c. keeps_counts (part_of c) ≡ true) buffer
    → Equal t (stepped_of t random (acceptance_in t buffer locality random)).after
sent_keeps t locality random buffer has =
    by (acceptance_in t buffer locality random) (accepted_is t buffer locality random)
    (accepted_code (λ c. keeps_counts (part_of c) ≡ true) t buffer locality random has)
  where
    by : (x : Result Accepted RefusedCommand) → IfOk x (IsAcceptance t locality random)
        → IfOk x (λ a. keeps_counts (part_of a.command.code) ≡ true)
        → Equal t (stepped_of t random x).after
    by (Ok a) is keeps =
        then_keeps t.fixed a.success.after.fixed (success_step a random).after.fixed
        (row_keeps t a is.row keeps)
        (left_keeps a.success.after (success_step a random).after (success_leaves a random))
    by (Err e) is keeps = same_keeps _ _ refl refl refl

sending_leaves : (first : Seen) (buffer : List ℕ) (locality : ℕ) (random : List ℕ)
    (sent : Option Sent)
    → IfSome sent (λ s. HasCode (λ c. keeps_counts (part_of c) ≡ true) s.command)
    → Leaves first.step.after first.layer (sending_after first buffer locality random sent)
sending_leaves first buffer locality random (Some sent) has =
    let t = after_tick first.step.after 0 in
    let keeps = sent_keeps t locality random sent.command has in
    let second = passed_leaves first.step.after first.layer (sent_event sent locality random)
    (record {
      secrets = keeps.secrets;
      reset_count = keeps.reset_count;
      restart_count =
          keeps.restart_count;
    }) in
    let effect : Seen = device_effect first.layer first.step.after
    (sent_event sent locality random) in
    record {
      fixed = second.fixed;
      start = sent_starts effect.layer (effect.step.row.check == 0) sent effect.step.response
          ∙ second.start;
    }
sending_leaves first buffer locality random None has = record {
  fixed = nothing_changed first.step.after.fixed;
  start = reply_starts first.step.after first.layer buffer first.step.response
      (first.step.row.check == 0);
}

hmac_keeps : keeps_counts (part_of command.Hmac) ≡ true
unfolding keeps_counts
hmac_keeps = refl

extend_keeps : keeps_counts (part_of command.PcrExtend) ≡ true
unfolding keeps_counts
extend_keeps = refl

random_keeps : keeps_counts (part_of command.GetRandom) ≡ true
unfolding keeps_counts
random_keeps = refl

done_leaves : (first : Seen) (buffer : List ℕ) (locality : ℕ) (random : List ℕ)
    (asked : Option (List ℕ))
    → Leaves first.step.after first.layer (done_after first buffer locality random asked)
done_leaves first buffer locality random (Some context) =
    loaded_leaves first (opened_after first context)
done_leaves first buffer locality random None =
    sending_leaves first buffer locality random (sent_after first buffer)
    (sent_code (λ c. keeps_counts (part_of c) ≡ true) hmac_keeps extend_keeps random_keeps
    first.step.after first.layer buffer first.step.response)

completed_leaves : (completes : Bool) (r : Record) (c : Completion) (buffer : List ℕ)
    (locality elapsed : ℕ) (random : List ℕ)
    → Keeps r.fixed
    (step r (heard_if completes c (Given buffer locality elapsed random))).after.fixed
    → Leaves r c (completed_effect completes c r (Given buffer locality elapsed random))
completed_leaves false r c buffer locality elapsed random keeps =
    passed_leaves r c (Given buffer locality elapsed random) keeps
completed_leaves true r c buffer locality elapsed random keeps =
    let heard : List ℕ = heard_buffer c buffer in
    let first = device_effect c r (Given heard locality elapsed random) in
    let one = passed_leaves r c (Given heard locality elapsed random) keeps in
    let two = done_leaves first heard locality random (asked_after first heard) in
    record {
      fixed = then_keeps r.fixed first.step.after.fixed _ one.fixed two.fixed;
      start = two.start ∙ one.start;
    }

same_binding : (r later : Record) (c d : Completion) → d.start ≡ c.start
    → later.fixed.reset_count ≡ r.fixed.reset_count
    → later.fixed.restart_count ≡ r.fixed.restart_count → binding_of later d ≡ binding_of r c
same_binding r later c d start reset restart = rw (start, reset, restart) refl

left_valid : (r : Record) (c : Completion) (object : Object) (seen : Seen) → Leaves r c seen
    → StaysValid r seen.step.after c seen.layer object
left_valid r c object seen leaves = record {
  proof = same_proof seen.step.after.fixed.hierarchies r.fixed.hierarchies leaves.fixed.secrets
      object.hierarchy;
  start = leaves.start;
  reset_count = leaves.fixed.reset_count;
  restart_count = ap (λ (b : Binding). restart_of b object)
      (same_binding r seen.step.after c seen.layer leaves.start leaves.fixed.reset_count
      leaves.fixed.restart_count);
}

-- every command of the device except TPM2_Startup and TPM2_Clear keeps the proofs and the counts
command_keeps : (r : Record) (buffer : List ℕ) (locality elapsed : ℕ) (random : List ℕ)
    → (step r (Given buffer locality elapsed random)).row.code ≢ code_number command.Startup
    → (step r (Given buffer locality elapsed random)).row.code ≢ code_number command.Clear
    → Keeps r.fixed (step r (Given buffer locality elapsed random)).after.fixed
command_keeps r buffer locality elapsed random no_startup no_clear =
    let t = after_tick r elapsed in
    let keeps = stepped_keeps t locality random (acceptance_in t buffer locality random)
    (accepted_is t buffer locality random) no_startup no_clear in
    record {
      secrets = keeps.secrets;
      reset_count = keeps.reset_count;
      restart_count =
          keeps.restart_count;
    }

-- every command except TPM2_Startup and TPM2_Clear leaves contexts valid
leaves_through : (completes : Bool) (r : Record) (c : Completion) (buffer : List ℕ)
    (locality elapsed : ℕ) (random : List ℕ)
    → (step r (heard_if completes c (Given buffer locality elapsed random))).row.code
    ≢ code_number command.Startup
    → (step r (heard_if completes c (Given buffer locality elapsed random))).row.code
    ≢ code_number command.Clear
    → Leaves r c (completed_effect completes c r (Given buffer locality elapsed random))
leaves_through false r c buffer locality elapsed random no_startup no_clear =
    completed_leaves false r c buffer locality elapsed random
    (command_keeps r buffer locality elapsed random no_startup no_clear)
leaves_through true r c buffer locality elapsed random no_startup no_clear =
    completed_leaves true r c buffer locality elapsed random
    (command_keeps r (heard_buffer c buffer) locality elapsed random no_startup no_clear)

pub stays_valid_through : StaysValidThrough
stays_valid_through completes r c object buffer locality elapsed random no_startup no_clear =
    left_valid r c object (completed_effect completes c r (Given buffer locality elapsed random))
    (leaves_through completes r c buffer locality elapsed random no_startup no_clear)

sequence_left_valid : (r : Record) (c : Completion) (seen : Seen) → Leaves r c seen
    → SequenceStaysValid r seen.step.after c seen.layer
sequence_left_valid r c seen leaves = record {
  proof = ap (λ (s : Secrets). s.proof) (leaves.fixed.secrets hierarchy.Null);
  start = leaves.start;
  reset_count = leaves.fixed.reset_count;
}

pub sequences_stay_valid_through : SequencesStayValidThrough
sequences_stay_valid_through completes r c buffer locality elapsed random no_startup no_clear =
    sequence_left_valid r c (completed_effect completes c r (Given buffer locality elapsed random))
    (leaves_through completes r c buffer locality elapsed random no_startup no_clear)
