-- What the answers of a device reveal about its secrets: nothing, until an event reads the secrets.
use Rattle.std.specs.Prelude.{Bool, Err, IfOk, List, Ok, Option, Result, [], false, true, ℕ, ◌∷◌, ◌≡◌, ◌≢◌, ◌≤◌}
use Rattle.tpm_auth.specs.Grant.{authorize}
use Rattle.tpm_auth.specs.declared.session_grant.Grant.{Grant}
use Rattle.tpm_record.specs.Record.{Record}
use Rattle.tpm_record.specs.Tick.{after_tick}
use Rattle.tpm_step.specs.step.Events.{Cycled, Given, Placed, PlainEvent}
use Rattle.tpm_step.specs.history.Executions.{Execution, Leads, history_after}
use Rattle.tpm_step.specs.step.General.{general}
use Rattle.tpm_step.specs.history.Potential.{IsForgiving}
use Rattle.tpm_step.specs.step.Step.{Stepped, request_in, step_where}
use Rattle.tpm_step.specs.history.Tries.{HasNoReset, failures_in, tries_within}
use Rattle.tpm_step.specs.declared.event.Row.{Row}
use Rattle.tpm_step.specs.declared.refused_command.RefusedCommand.{RefusedCommand}
use Rattle.tpm_types_common.specs.declared.refused.Refused.{Refused}
use Rattle.tpm_types_command.specs.Command.{Whole}
use Rattle.tpm_types_object.specs.declared.public.Public.{Public}
use Rattle.tpm_row_secrecy.specs.Reads.{reads_secret}
use Rattle.tpm_row_secrecy.specs.Secrecy.{CoversKeys, DifferInSecrets, Secrecy, bare_object, of_data}
use Rattle.tpm_secrecy.specs.Guesses.{BindingsHold, GuessesFail}

-- ---- single events

-- whether a command with these grants reads secret data; a command whose authorization is refused
-- reads no secret data
abbrev pub granted_reads : Secrecy → Record → Whole → (locality : ℕ) → (random : List ℕ)
    → Result (List (Option Grant)) Refused → Bool
granted_reads secrecy device command locality random (Ok grants) =
    reads_secret secrecy device command.code (request_in device command grants locality random)
granted_reads secrecy device command locality random (Err e) = false

-- whether a command is authorized and reads secret data
abbrev pub command_reads : Secrecy → Record → (locality : ℕ) → (random : List ℕ) → Whole → Bool
command_reads secrecy device locality random command =
    granted_reads secrecy device command locality random (authorize device command locality)

-- whether a buffer contains a command that passes the general checks, is authorized, and reads
-- secret data
abbrev pub decoded_reads : Secrecy → Record → (locality : ℕ) → (random : List ℕ)
    → Result Whole RefusedCommand → Bool
decoded_reads secrecy device locality random (Ok command) =
    command_reads secrecy device locality random command
decoded_reads secrecy device locality random (Err e) = false

-- whether an event reads secret data; a power cycle does not, nor does placing an object
abbrev pub is_reading : Secrecy → Record → PlainEvent → Bool
is_reading s r (Given buffer locality elapsed random) =
    decoded_reads s (after_tick r elapsed) locality random (general (after_tick r elapsed) buffer)
is_reading s r Cycled = false
is_reading s r (Placed object) = false

-- an event with the secrets of a placed object erased
abbrev pub bare_event : Secrecy → PlainEvent → PlainEvent
bare_event s (Given buffer locality elapsed random) = Given buffer locality elapsed random
bare_event s Cycled = Cycled
bare_event s (Placed object) = Placed (bare_object s object)

-- Two events are the same, except that objects that they place may differ in secrets.
abbrev pub EventsAlike : Secrecy → PlainEvent → PlainEvent → Type 0
EventsAlike s event also = bare_event s event ≡ bare_event s also

-- Two steps return the same response, report the same row, and leave two devices that differ only
-- in secrets.
pub record TellsNothing (s : Secrecy) (x y : Stepped) : Type 0 where
  pub response : x.response ≡ y.response
  pub row : x.row ≡ y.row
  pub after : DifferInSecrets s x.after y.after

-- Suppose that only the data of objects and NV indices is secret, and that two devices differ only
-- in this data. If an event does not read the data on one of the devices, it reveals nothing about
-- the data. If the event places an object, the data of the object that the other device places may
-- differ too. Allocations may fail on both devices, or on neither.
abbrev pub EventTellsNothing : Type 0
EventTellsNothing =
    (indices : ℕ → Bool) (objects : Public → Bool) (one other : Record) (refused : Bool)
    (event also : PlainEvent)
    → let s : Secrecy = of_data indices objects in
    DifferInSecrets s one other → EventsAlike s event also → is_reading s one event ≡ false
    → TellsNothing s (step_where refused one event) (step_where refused other also)

-- Suppose that two devices differ only in secret data. An event reads secret data on both devices,
-- or on neither.
abbrev pub ReadOnBoth : Type 0
ReadOnBoth =
    (indices : ℕ → Bool) (objects : Public → Bool) (one other : Record) (event : PlainEvent)
    → let s : Secrecy = of_data indices objects in
    DifferInSecrets s one other → is_reading s one event ≡ is_reading s other event

-- ---- lists of events

-- events in order, each with a flag that says whether an allocation fails during the event
abbrev pub Attempts : Type 0
Attempts = List (Bool × PlainEvent)

-- a device's responses to these events, and the rows that it reports
abbrev pub answers_to : Record → Attempts → List (List ℕ × Row)
answers_to r [] = []
answers_to r (e ∷ es) =
    let x : Stepped = step_where e.0 r e.1 in
    (x.response, x.row) ∷ answers_to x.after es

-- the record after these events
abbrev pub after_all : Record → Attempts → Record
after_all r [] = r
after_all r (e ∷ es) = after_all (step_where e.0 r e.1).after es

-- None of these events reads secret data when it is executed.
abbrev pub NoneReads : Secrecy → Record → Attempts → Type 0
NoneReads s r [] = Unit {0}
NoneReads s r (e ∷ es) =
    (is_reading s r e.1 ≡ false) × NoneReads s (step_where e.0 r e.1).after es

-- Two lists contain the same events, with the same failed allocations, except that placed objects
-- may differ in secrets.
abbrev pub AttemptsAlike : Secrecy → Attempts → Attempts → Type 0
AttemptsAlike s [] [] = Unit {0}
AttemptsAlike s (e ∷ es) (f ∷ fs) =
    (e.0 ≡ f.0) × EventsAlike s e.1 f.1 × AttemptsAlike s es fs
AttemptsAlike s [] (f ∷ fs) = ⊥
AttemptsAlike s (e ∷ es) [] = ⊥

-- Two devices return the same responses and report the same rows, the first for `events` and the
-- second for `others`, and afterwards differ only in secrets.
pub record RunsAlike (secrecy : Secrecy) (one other : Record) (events others : Attempts) : Type 0
  where
    pub answers : answers_to one events ≡ answers_to other others
    pub after : DifferInSecrets secrecy (after_all one events) (after_all other others)

-- Two devices that differ only in secret data return the same responses and report the same rows
-- for all events before the first event that reads the data.
abbrev pub RunTellsNothing : Type 0
RunTellsNothing =
    (indices : ℕ → Bool) (objects : Public → Bool) (one other : Record) (events others : Attempts)
    → let s : Secrecy = of_data indices objects in
    DifferInSecrets s one other → AttemptsAlike s events others → NoneReads s one events
    → RunsAlike s one other events others

-- ---- wrong guesses

-- In a command that passed the general checks, all guesses fail, and the command reads no secret
-- data. The bindings of the device's sessions satisfy `BindingHolds`.
pub record KeepsSecrets (secrecy : Secrecy) (device : Record) (command : Whole) (locality : ℕ)
    (random : List ℕ) : Type 0
  where
    pub reads : command_reads secrecy device locality random command ≡ false
    pub guesses : GuessesFail secrecy device command locality
    pub bindings : BindingsHold secrecy device

abbrev pub EventKeepsSecrets : Secrecy → Record → PlainEvent → Type 0
EventKeepsSecrets s r (Given buffer locality elapsed random) =
    IfOk (general (after_tick r elapsed) buffer) (λ c.
    KeepsSecrets s (after_tick r elapsed) c locality random)
EventKeepsSecrets s r Cycled = Unit {0}
EventKeepsSecrets s r (Placed object) = Unit {0}

-- Suppose that two devices differ only in secrets. An event reveals nothing about the secrets if
-- all guesses of an authorization value fail on both devices, and neither reads secret data. The
-- condition names both devices because a guess that is wrong on one device may be right on the
-- other device. Objects that the two devices place may differ in secrets.
abbrev pub WrongGuessesTellNothing : Type 0
WrongGuessesTellNothing =
    (s : Secrecy) → CoversKeys s → (one other : Record) (refused : Bool) (event also : PlainEvent)
    → DifferInSecrets s one other → EventsAlike s event also → EventKeepsSecrets s one event
    → EventKeepsSecrets s other also
    → TellsNothing s (step_where refused one event) (step_where refused other also)

-- Each of these events reveals no secrets when it is executed: all its guesses fail, and it reads
-- no secret data.
abbrev pub AllKeepSecrets : Secrecy → Record → Attempts → Type 0
AllKeepSecrets s r [] = Unit {0}
AllKeepSecrets s r (e ∷ es) =
    EventKeepsSecrets s r e.1 × AllKeepSecrets s (step_where e.0 r e.1).after es

-- Two devices that differ only in secrets return the same responses and report the same rows for
-- all events. This holds as long as every guess fails on both devices and no event reads secret
-- data.
abbrev pub RunOfWrongGuessesTellsNothing : Type 0
RunOfWrongGuessesTellsNothing =
    (s : Secrecy) → CoversKeys s → (one other : Record) (events others : Attempts)
    → DifferInSecrets s one other → AttemptsAlike s events others → AllKeepSecrets s one events
    → AllKeepSecrets s other others → RunsAlike s one other events others

-- ---- guesses and failed tries

-- the executions of these events on a device
abbrev pub executions_of : Record → Attempts → List Execution
executions_of r [] = []
executions_of r (e ∷ es) =
    let x : Stepped = step_where e.0 r e.1 in
    record { before = r; event = e.1; seen = x } ∷ executions_of x.after es

-- Two devices that differ only in secrets, such as a PIN, return the same responses as long as
-- every guess fails on both. If recoveryTime is not 0 and no event resets failedTries, at most
-- maxTries tries fail, plus one for each recoveryTime that passes. Guesses that do not count as
-- tries, such as an entry that encrypts, are not limited in number.
abbrev pub WrongTriesAreFew : Type 0
WrongTriesAreFew =
    (s : Secrecy) → CoversKeys s → (one other : Record) (events others : Attempts)
    → DifferInSecrets s one other → AttemptsAlike s events others → AllKeepSecrets s one events
    → AllKeepSecrets s other others → IsForgiving one.fixed.lockout
    → one.fixed.lockout.fields.recovery_time ≢ 0
    → let executions : List Execution = executions_of one events in
    Leads true one executions (after_all one events) → HasNoReset (history_after [] executions)
    → RunsAlike s one other events others × (failures_in executions ≤ tries_within one executions)
