-- Each response on a connection belongs to an outcome of the machine.
use Rattle.std.proofs.Common.{◌≡◌, Bool, List, [], ◌∷◌, subst}
use Rattle.std.specs.List.{AllByRecursion, AllZip}
use Rattle.tpm_containers.specs.Slots.{free}
use Rattle.tpm_record.specs.Record.{Record}
use Rattle.tpm_step.specs.step.Execution.{Executes}
use Rattle.tpm_step.specs.step.Events.{PlainEvent}
use Rattle.tpm_step.specs.history.Executions.{Execution, Leads}
use Rattle.tpm_step.specs.step.Step.{Stepped, outcome_step}
use Rattle.tpm_wire.specs.Schedule.{Event, Executed, IsOf, PowerCycled, events_in}
use Rattle.tpm_wire.proofs.Living.{schedules_lead}
use Rattle.tpmsim_image_laws.specs.Answers.{AnswersAreOutcomes, IsExecuted}

event_executed : (can : Bool) (event : Event) (old : Record) (one : Execution) → IsOf event one
    → Executes can old one.event one.seen → IsExecuted can event
event_executed can (Executed event outcome) old one is executes = record {
  before = old;
  after = one.seen.after;
  executes =
      subst (λ (e : PlainEvent). Executes can old e (outcome_step one.seen.after outcome)) is.0
      (subst (λ (s : Stepped). Executes can old one.event s) is.1 executes);
}
event_executed can PowerCycled old one is executes = tt

all_executed : (can : Bool) (events : List Event) (executions : List Execution) (old new : Record)
    → AllZip IsOf events executions → Leads can old executions new
    → AllByRecursion (IsExecuted can) events
all_executed can [] executions old new are leads = tt
all_executed can (event ∷ events) [] old new are leads = absurd are
all_executed can (event ∷ events) (one ∷ executions) old new are leads = (
  event_executed can event old one are.0 leads.1,
  all_executed can events executions one.seen.after new are.1 leads.2,
)

pub answers_are_outcomes : AnswersAreOutcomes
answers_are_outcomes can r calls new is schedules =
    let lead = schedules_lead can r calls new is schedules in
    all_executed can (events_in (free 8) calls) lead.executions r new.machine lead.are lead.leads
