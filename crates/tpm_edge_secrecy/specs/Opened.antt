-- What a device that was opened from a journal reveals about the data sealed in its objects.
use Rattle.std.specs.Prelude.{Bool, List, Ok, false, ℕ, ◌∷◌, ◌≡◌, ◌⊎◌}
use Rattle.tpm_journal.specs.Opening.{IsJournal, OpensJournal}
use Rattle.tpm_journal.specs.Replay.{run_of_all}
use Rattle.tpm_journal.specs.declared.opening.Opened.{Opened}
use Rattle.tpm_record.specs.Record.{Record}
use Rattle.tpm_secrecy.specs.SealedData.{ReadsSealed, TellsNothingSealed}
use Rattle.tpm_step.specs.step.Events.{PlainEvent}
use Rattle.tpm_step.specs.step.Execution.{Executes}
use Rattle.tpm_step.specs.history.Executions.{Execution, Leads, history_after}
use Rattle.tpm_step.specs.history.Follows.{Follows}
use Rattle.tpm_step.specs.history.History.{AcceptedCommand, Done, History, extended_history}
use Rattle.tpm_step.specs.step.Step.{Stepped}
use Rattle.tpm_types_object.specs.declared.public.Public.{Public}

-- the history of the device in a journal's head, extended by the executions of the journal's
-- entries
abbrev pub journal_history : (text : List ℕ) (opened : Opened) (new : Record)
    → IsJournal text opened new → History → History
journal_history text opened new is history =
    history_after history
    (run_of_all false is.reads.start.journal is.reads.start.device
    is.reads.replays.repeats.performances opened.journal new is.reads.replays.repeats.leads)

-- A journal was opened, and the device in its head follows a history. (For an image, this is the
-- device after a power cycle.) After any executions on the opened device, the next execution
-- reveals nothing about sealed data, or is recorded as an accepted command that reads such data
-- (`ReadsSealed`). Unless the hash is broken, a policy session of that command satisfied the
-- object's policy, if the object has no userWithAuth and its authPolicy is the digest of a policy.
-- The opened device's history begins with the history of the head's device.
abbrev pub OpenedDataNeedPolicy : Type 0
OpenedDataNeedPolicy =
    (objects : Public → Bool) (text : List ℕ) (opened : Opened) (new : Record)
    (is : OpensJournal text (Ok opened) new) (past : History) → Follows is.reads.start.device past
    → (can : Bool) (executions : List Execution) (old : Record) → Leads can new executions old
    → (event : PlainEvent) (x : Stepped) → Executes can old event x
    → let history : History = history_after (journal_history text opened new is past) executions in
    TellsNothingSealed objects can old event x
    ⊎ (c : AcceptedCommand) × (extended_history old event x.row.check history ≡ Done c ∷ history)
    × ReadsSealed objects history c
