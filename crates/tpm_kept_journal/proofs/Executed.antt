-- When a device executes a command, the effect is the one that the journal's functions define.
use Rattle.std.proofs.Common.{◌≡◌, ◌≤◌, ℕ, Bool, false, List, [], length, Option, Some, None, Result, Ok, refl, subst, sym, ap, ◌∙◌, arith}
use Rattle.tpm_completion.specs.Execution.{Seen}
use Rattle.tpm_completion.proofs.Exactly.{exactly}
use Rattle.tpm_image_text.specs.declared.fault.Malformed.{Malformed}
use Rattle.tpm_journal.specs.Command.{Command, Executed, command_at, command_event, elapsed_of, entry_of}
use Rattle.tpm_journal.specs.State.{journal_after}
use Rattle.tpm_journal.specs.declared.journal.Journal.{Journal}
use Rattle.tpm_journal_text.specs.Entry.{PlainEntry, entry_text, sum_after}
use Rattle.tpm_keeping.specs.Journal.{next_spot}
use Rattle.tpm_record.specs.Record.{Record}
use Rattle.tpm_kept_journal.specs.Command as kept
use Rattle.tpm_kept_journal.specs.Command.{KeptCommand, Moment, command_of}
use Rattle.tpm_kept_journal.specs.DeviceJournal.{device_journal}
use Rattle.tpm_kept_journal.specs.Effect.{answer, clock_at, command_on, effect, entry_at_spot, entry_if_any, left_by, report_and_response, state_after_command, sum_if, text_if, with_both}
use Rattle.tpm_kept_journal.specs.State.{DeviceState, IsDeviceState, bytes_of, spot_of, state_in, state_of_bytes}
use Rattle.tpm_kept_journal.proofs.Replay.{completed_few}
use Rattle.tpm_kept_journal.proofs.States.{state_told}
use Rattle.tpm_kept_journal.proofs.Walks.{spot_made}

module _ (j : Journal) (r : Record) (is : IsDeviceState (state_in j r)) (text : List ℕ)
    (c : KeptCommand) (read : command_of text ≡ Ok c) where
  abbrev s : DeviceState
  s = state_in j r

  -- `with_both` returns `f` applied to this state and this command, because both can be decoded.
  said : {X : Type 0} (other : X) (f : DeviceState → KeptCommand → X)
      → with_both (state_of_bytes (bytes_of s)) (command_of text) other f ≡ f s c
  said other f =
      ap (λ (o : Option DeviceState). with_both o (command_of text) other f) (state_told s is)
      ∙ ap (λ (x : Result KeptCommand Malformed). with_both (Some s) x other f) read

  pub after_is : bytes_of (state_after_command s c) ≡ device_journal.after (spot_of j r).state text
  after_is = sym (said (bytes_of s) (λ s c. bytes_of (state_after_command s c)))

  pub response_is : answer s c ≡ device_journal.response (spot_of j r).state text
  response_is = sym (said [] answer)

  pub entry_is : entry_if_any s c ≡ entry_at_spot (spot_of j r) text
  entry_is = sym (said None entry_if_any)

  pub step_is : spot_made (bytes_of (state_after_command s c)) (sum_if j.sum (entry_if_any s c))
      ≡ next_spot device_journal (spot_of j r) text
  step_is =
      ap (λ (b : List ℕ). spot_made b (sum_if j.sum (entry_if_any s c))) after_is
      ∙ ap (λ (o : Option PlainEntry). spot_made (device_journal.after (spot_of j r).state text)
      (sum_if j.sum o)) entry_is

-- ---- a TPM command

-- A TPM command arrived at this moment, and was executed when the host's clock showed `clock`.
module _ (j : Journal) (r : Record) (is : IsDeviceState (state_in j r)) (text : List ℕ)
    (moment : Moment) (locality : ℕ) (completes : Bool)
    (random buffer : List ℕ) (read : command_of text
    ≡ Ok (kept.Executes moment locality completes random buffer)) (seen : Seen) (clock : ℕ)
    (told : clock ≡ clock_at moment j.time)
    (done : Executed false j.layer r
    (command_at buffer locality (elapsed_of clock j.time) completes random) seen) where
  abbrev given_command : Command
  given_command = command_at buffer locality (elapsed_of clock j.time) completes random

  abbrev command : Command
  command = command_on (state_in j r) moment locality completes random buffer

  abbrev c : KeptCommand
  c = kept.Executes moment locality completes random buffer

  same : given_command ≡ command
  same = ap (λ (now : ℕ). command_at buffer locality (elapsed_of now j.time) completes random) told

  seen_is : seen ≡ effect (state_in j r) command
  seen_is =
      exactly false completes j.layer r (command_event command) seen
      (subst (λ (x : Command). Executed false j.layer r x seen) same done) refl

  pub executed_few : length random ≡ 256 → seen.drawn ≤ 256
  executed_few many =
      omega (
        arith,
        ap (λ (x : Seen). x.drawn) seen_is,
        completed_few j.layer r command.buffer locality command.elapsed random many completes,
        many,
      )

  pub executed_spot : (after : Journal)
      → after ≡ journal_after j (entry_of given_command seen) seen.layer
      → spot_of after seen.step.after ≡ next_spot device_journal (spot_of j r) text
  executed_spot after leads =
      ap (λ (k : Journal). spot_of k seen.step.after) leads
      ∙ ap (λ (x : Command). spot_of (journal_after j (entry_of x seen) seen.layer) seen.step.after)
      same
      ∙ ap (λ (x : Seen). spot_made (bytes_of (left_by (state_in j r) command.elapsed x))
      (sum_after j.sum (entry_of command x))) seen_is
      ∙ step_is j r is text c read

  pub executed_entry : entry_text j.sum (entry_of given_command seen)
      ≡ device_journal.entry (spot_of j r) text
  executed_entry =
      ap (λ (x : Command). entry_text j.sum (entry_of x seen)) same
      ∙ ap (λ (x : Seen). entry_text j.sum (entry_of command x)) seen_is
      ∙ ap (text_if j.sum) (entry_is j r is text c read)

  pub executed_response : report_and_response seen
      ≡ device_journal.response (spot_of j r).state text
  executed_response = ap report_and_response seen_is ∙ response_is j r is text c read
