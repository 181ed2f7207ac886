-- Each answer on a connection is an outcome of executing one of its buffers.
use Rattle.std.specs.Prelude.{Bool, List}
use Rattle.std.specs.List.{AllByRecursion}
use Rattle.tpm_containers.specs.Slots.{free}
use Rattle.tpm_record.specs.IsRecord.{IsRecord}
use Rattle.tpm_record.specs.Record.{Record}
use Rattle.tpm_step.specs.step.Events.{PlainEvent}
use Rattle.tpm_step.specs.step.Execution.{Executes}
use Rattle.tpm_step.specs.step.Step.{outcome_step}
use Rattle.tpm_step.specs.declared.event.Outcome.{Outcome}
use Rattle.tpm_wire.specs.Schedule.{Call, Event, Executed, PowerCycled, Schedules, events_in}
use Rattle.tpm_wire.specs.Wire.{Wire, new_wire}

-- The machine executed an event with this outcome, from one record to another.
pub record HasOutcome (can : Bool) (event : PlainEvent) (outcome : Outcome) : Type 0 where
  pub before : Record
  pub after : Record
  pub executes : Executes can before event (outcome_step after outcome)

abbrev pub IsExecuted : Bool → Event → Type 0
IsExecuted can (Executed event outcome) = HasOutcome can event outcome
IsExecuted can PowerCycled = Unit {0}

-- Each answer on a connection is the outcome of executing a buffer of that connection.
abbrev pub AnswersAreOutcomes : Type 0
AnswersAreOutcomes = (can : Bool) (r : Record) (calls : List Call) (new : Wire)
    → IsRecord r → Schedules can (new_wire r) calls new
    → AllByRecursion (IsExecuted can) (events_in (free 8) calls)
