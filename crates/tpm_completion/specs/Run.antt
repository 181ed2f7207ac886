-- The device's executions for one event: the event itself and, with the layer, the placing of the
-- object whose context a command loads, or the command that the layer sends.
use Rattle.std.specs.Prelude.{ℕ, Bool, true, false, List, [], ◌∷◌, Option, Some, None, Result, Ok, Err}
use Rattle.tpm_machine.specs.Executions.{Execution}
use Rattle.tpm_machine.specs.Follows.{Follows, StretchFollows}
use Rattle.tpm_machine.specs.History.{History}
use Rattle.tpm_object.specs.declared.object.Object.{Object}
use Rattle.tpm_record.specs.Record.{Record}
use Rattle.tpm_step.specs.step.Events.{PlainEvent, Given, Cycled, Placed}
use Rattle.tpm_step.specs.step.Step.{Stepped}
use Rattle.tpm_context.specs.declared.fault.ContextFault.{ContextFault}
use Rattle.tpm_completion.specs.Execution.{AsksFirst, LoadsOrSends, Completes, CompletesIf, Loads, PlacesIf, Seen, Sends, asked_after, opened_after, sent_after, sent_event}
use Rattle.tpm_completion.specs.Hiding.{heard}
use Rattle.tpm_completion.specs.declared.completion.Completion.{Completion}
use Rattle.tpm_completion.specs.declared.sending.Sent.{Sent}

-- the device's execution of an event, with this step
abbrev pub execution_with : Record → PlainEvent → Stepped → Execution
execution_with old event seen = record { before = old; event = event; seen = seen }

-- the event that places an object on the device, or none if memory ran out
abbrev pub run_placing : (can refused : Bool) (first : Seen) (object : Object) (seen : Seen)
    → PlacesIf can refused first object seen → List Execution
run_placing can false first object seen (placing, places, is) =
    execution_with first.step.after (Placed object) placing ∷ []
run_placing can true first object seen is = []

-- the device's executions that load a context: none if the context is refused
abbrev pub run_loading : (can : Bool) (first : Seen) (opened : Result Object ContextFault)
    (seen : Seen) → Loads can first opened seen → List Execution
run_loading can first (Ok object) seen (refused, places) =
    run_placing can refused first object seen places
run_loading can first (Err fault) seen is = []

-- the device's execution of the command that the layer sends; none if the layer sends no command
abbrev pub run_sending : (can : Bool) (first : Seen) (buffer : List ℕ) (locality : ℕ)
    (random : List ℕ) (sent : Option Sent) (seen : Seen)
    → Sends can first buffer locality random sent seen → List Execution
run_sending can first buffer locality random (Some sent) seen (second, passes, is) =
    execution_with first.step.after (sent_event sent locality random) second.step ∷ []
run_sending can first buffer locality random None seen is = []

-- the device's executions after it executed the client's command
abbrev pub run_after : (can : Bool) (first : Seen) (buffer : List ℕ) (locality : ℕ)
    (random : List ℕ) (asked : Option (List ℕ)) (seen : Seen)
    → LoadsOrSends can first buffer locality random asked seen → List Execution
run_after can first buffer locality random (Some context) seen loads =
    run_loading can first (opened_after first context) seen loads
run_after can first buffer locality random None seen sends =
    run_sending can first buffer locality random (sent_after first buffer) seen sends

abbrev pub run_command : (can : Bool) (c : Completion) (old : Record) (buffer : List ℕ)
    (locality elapsed : ℕ) (random : List ℕ) (seen : Seen)
    → AsksFirst can c old buffer locality elapsed random seen → List Execution
run_command can c old buffer locality elapsed random seen (first, passes, rest) =
    execution_with old (Given buffer locality elapsed random) first.step
    ∷ run_after can first buffer locality random (asked_after first buffer) seen rest

abbrev pub run_with : (can : Bool) (c : Completion) (old : Record) (event : PlainEvent)
    (seen : Seen) → Completes can c old event seen → List Execution
run_with can c old (Given buffer locality elapsed random) seen completes =
    run_command can c old buffer locality elapsed random seen completes
run_with can c old Cycled seen passes = execution_with old Cycled seen.step ∷ []
run_with can c old (Placed object) seen passes = execution_with old (Placed object) seen.step ∷ []

-- the device's executions for an event, with or without the layer
abbrev pub run_of : (can completes : Bool) (c : Completion) (old : Record) (event : PlainEvent)
    (seen : Seen) → CompletesIf can completes c old event seen → List Execution
run_of can false c old event seen passes = execution_with old event seen.step ∷ []
run_of can true c old event seen completes = run_with can c old (heard c event) seen completes

-- If a device follows a history and executes an event, it then follows that history extended by all
-- executions that belong to the event.
abbrev pub RunsFollow : Type 0
RunsFollow =
    (can completes : Bool) (c : Completion) (old : Record) (event : PlainEvent) (seen : Seen)
    (history : History) (is : CompletesIf can completes c old event seen) → Follows old history
    → StretchFollows can old (run_of can completes c old event seen is) seen.step.after history
