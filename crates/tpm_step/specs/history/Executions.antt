-- Successive executions of events, and the history after them.
use Rattle.std.specs.Prelude.{◌≡◌, Bool, List, [], ◌∷◌}
use Rattle.tpm_record.specs.Record.{Record}
use Rattle.tpm_object.specs.declared.object.Object.{Object}
use Rattle.tpm_step.specs.step.Events.{PlainEvent, Cycled, Placed}
use Rattle.tpm_step.specs.step.Execution.{Executes}
use Rattle.tpm_step.specs.step.Step.{Stepped, step}
use Rattle.tpm_step.specs.history.History.{History, extended_history}

-- an executed event, with the record before it and its outcome
pub record Execution : Type 0 where
  pub before : Record
  pub event : PlainEvent
  pub seen : Stepped

-- Executing these events one after another led from the old record to the new one. `can` says
-- whether an allocation can fail.
abbrev pub Leads : Bool → Record → List Execution → Record → Type 0
Leads can old [] new = new ≡ old
Leads can old (one ∷ executions) new =
    (one.before ≡ old) × Executes can old one.event one.seen
    × Leads can one.seen.after executions new

-- the execution of a power cycle on this record
abbrev pub power_cycle : Record → Execution
power_cycle r = record { before = r; event = Cycled; seen = step r Cycled }

-- the execution that places an object in this record
abbrev pub placing_execution : Record → Object → Execution
placing_execution r object =
    record { before = r; event = Placed object; seen = step r (Placed object) }

-- the history after one more execution
abbrev pub with_execution : Execution → History → History
with_execution one history = extended_history one.before one.event one.seen.row.check history

-- the history after several executions, in order
abbrev pub history_after : History → List Execution → History
history_after history [] = history
history_after history (one ∷ executions) = history_after (with_execution one history) executions
