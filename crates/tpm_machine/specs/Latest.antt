-- The latest execution of a machine, reconstructed from the machine and the outcome.
use Rattle.std.specs.Prelude.{◌≡◌, ℕ, Bool}
use Rattle.tpm_record.specs.Record.{Record}
use Rattle.tpm_step.specs.step.Events.{PlainEvent}
use Rattle.tpm_step.specs.step.Execution.{Executes}
use Rattle.tpm_step.specs.step.Step.{outcome_step}
use Rattle.tpm_step.specs.declared.event.Outcome.{Outcome}
use Rattle.tpm_step.specs.history.Executions.{Execution}
use Rattle.tpm_machine.specs.Drawn.{drawn_by}

-- `one` is the latest execution of a machine whose record is now `now`. The event had this outcome,
-- and `drawn` of its random bytes were drawn.
pub record IsLatest (now : Record) (drawn : ℕ) (event : PlainEvent) (outcome : Outcome)
    (one : Execution) : Type 0
  where
    pub can : Bool
    pub executes : Executes can one.before one.event one.seen
    pub event_is : one.event ≡ event
    pub seen_is : one.seen ≡ outcome_step now outcome
    pub drawn_is : drawn ≡ drawn_by one.before one.event one.seen.row.check
