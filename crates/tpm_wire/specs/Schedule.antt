-- Schedules of calls, and their effects: the buffers that are executed on each connection, and
-- the record of the machine after them.
use Rattle.std.specs.Prelude.{◌≡◌, ℕ, Bool, false, List, [], ◌∷◌, ◌++◌, length, take, map, slice_set, slice_get}
use Rattle.std.specs.Prelude.{Option, Some, None, option_map, unwrap_or, Result, Ok}
use Rattle.std.specs.List.{AllZip, FoldsTo}
use Rattle.tpm_containers.specs.Slots.{at_place, free}
use Rattle.tpm_record.specs.Cycle.{after_cycle}
use Rattle.tpm_record.specs.IsRecord.{IsRecord}
use Rattle.tpm_record.specs.Record.{Record}
use Rattle.tpm_step.specs.step.Events.{PlainEvent, Cycled}
use Rattle.tpm_step.specs.step.Run.{after_all}
use Rattle.tpm_step.specs.step.Step.{outcome_step}
use Rattle.tpm_step.specs.declared.event.Outcome.{Outcome}
use Rattle.tpm_machine.specs.Executions.{Execution, Leads}
use Rattle.tpm_machine.specs.Follows.{Follows, StretchFollows}
use Rattle.tpm_machine.specs.History.{History}
use Rattle.tpm_wire.specs.Number.{number_of}
use Rattle.tpm_wire.specs.Stream.{Stream, cut_of, cut_with}
use Rattle.tpm_wire.specs.Wire.{Closes, Feeds, Opens, Turns, Wire, given_event, new_wire}
use Rattle.tpm_wire.specs.declared.fault.Full.{Full}
use Rattle.tpm_wire.specs.declared.fault.NoConnection.{NoConnection}
use Rattle.tpm_wire.specs.declared.host.Host.{Host}
use Rattle.tpm_wire.specs.declared.number.ConnectionNumber.{ConnectionNumber}
use Rattle.tpm_wire.specs.declared.turn.Turn.{Turn}
use Rattle.tpm_wire.specs.declared.turn.Turn.TheVariants.{Answer}

-- a call and its result
pub data Call : Type 0 where
  Opening : (result : Result ConnectionNumber Full) → Call
  Feeding : (connection : ConnectionNumber) (piece : List ℕ) (result : Result ℕ NoConnection) → Call
  Turning : (connection : ConnectionNumber) (host : Host) (result : Result Turn NoConnection) → Call
  PowerCycling : Call
  Closing : (connection : ConnectionNumber) (result : Result (Unit {0}) NoConnection) → Call

-- The effect of a call. `can` says whether an allocation can fail.
abbrev pub Does : Bool → Wire → Call → Wire → Type 0
Does can old (Opening result) new = Opens old result new
Does can old (Feeding connection piece result) new =
    Feeds old (number_of connection) piece result new
Does can old (Turning connection host result) new =
    Turns can old (number_of connection) host result new
Does can old PowerCycling new = new ≡ record old { machine = after_cycle old.machine }
Does can old (Closing connection result) new = Closes old (number_of connection) result new

-- Making these calls in this order changed `old` to `new`.
abbrev pub Schedules : Bool → Wire → List Call → Wire → Type 0
Schedules can old calls new = FoldsTo (Does can) old calls new

-- ---- facts that depend only on the calls and their results

-- the life of a connection: all bytes that it has received since it was opened, and all outcomes
-- that its turns have returned, in order
pub record Life : Type 0 where
  pub bytes : List ℕ
  pub answers : List Outcome

abbrev pub new_life : Life
new_life = record { bytes = []; answers = [] }

-- the lives of the connections, with `change` applied to the life of the connection with this
-- number
abbrev pub with_life : List (Option Life) → ℕ → (Life → Life) → List (Option Life)
with_life lives number change = slice_set lives number (option_map change (at_place lives number))

-- the lives of the open connections, by number, after a call; a call that is refused, takes no
-- bytes or finds no complete buffer leaves them unchanged
abbrev pub lives_after : List (Option Life) → Call → List (Option Life)
lives_after lives (Opening (Ok connection)) = slice_set lives (number_of connection) (Some new_life)
lives_after lives (Feeding connection piece (Ok count)) =
    with_life lives (number_of connection) (λ l. record l { bytes = l.bytes ++ take count piece })
lives_after lives (Turning connection host (Ok (Answer outcome))) =
    with_life lives (number_of connection) (λ l. record l { answers = l.answers ++ outcome ∷ [] })
lives_after lives (Closing connection (Ok done)) = slice_set lives (number_of connection) None
lives_after lives call = lives

-- the lives of the open connections after a list of calls
abbrev pub lives_after_all : List (Option Life) → List Call → List (Option Life)
lives_after_all lives [] = lives
lives_after_all lives (call ∷ calls) = lives_after_all (lives_after lives call) calls

-- the buffer that the connection executes next: the first buffer in its bytes that has no answer
-- yet
abbrev pub buffer_due : Life → List ℕ
buffer_due l = unwrap_or (slice_get (cut_of l.bytes).buffers (length l.answers)) []

-- what happened to the machine: a buffer was executed with this outcome, or power was cycled
pub data Event : Type 0 where
  Executed : (plain_event : PlainEvent) (outcome : Outcome) → Event
  PowerCycled : Event

-- the event of a turn that returned an answer: the connection's due buffer was executed
abbrev pub executed_events : Option Life → Host → Outcome → List Event
executed_events None host outcome = []
executed_events (Some l) host outcome = Executed (given_event (buffer_due l) host) outcome ∷ []

abbrev pub events_of : List (Option Life) → Call → List Event
events_of lives (Turning connection host (Ok (Answer outcome))) =
    executed_events (at_place lives (number_of connection)) host outcome
events_of lives PowerCycling = PowerCycled ∷ []
events_of lives call = []

-- the events of a schedule, in order
abbrev pub events_in : List (Option Life) → List Call → List Event
events_in lives [] = []
events_in lives (call ∷ calls) = events_of lives call ++ events_in (lives_after lives call) calls

-- ---- claims about every schedule

-- An execution belongs to an event if it executed the event's buffer with the event's outcome, or
-- if both are power cycles.
abbrev pub IsOf : Event → Execution → Type 0
IsOf (Executed plain_event outcome) one =
    (one.event ≡ plain_event) × (one.seen ≡ outcome_step one.seen.after outcome)
IsOf PowerCycled one = one.event ≡ Cycled

-- These events were executed in order, and led from the old record to the new one. If the old
-- record follows a history, the executions satisfy `StretchFollows` after that history.
pub record EventsLead (can : Bool) (old : Record) (events : List Event) (new : Record) : Type 0
  where
    pub executions : List Execution
    pub are : AllZip IsOf events executions
    pub leads : Leads can old executions new
    pub stretch : (history : History) → Follows old history
        → StretchFollows can old executions new history

-- After every schedule of calls on a new mux, the machine's record is the result of the schedule's
-- events.
abbrev pub SchedulesLead : Type 0
SchedulesLead = (can : Bool) (r : Record) (calls : List Call) (new : Wire)
    → IsRecord r → Schedules can (new_wire r) calls new
    → EventsLead can r (events_in (free 8) calls) new.machine

-- A connection's buffers were executed in order. Their number is the number of answers so far. The
-- connection stores the bytes that follow the executed buffers.
abbrev pub IsServed : Option Stream → Option Life → Type 0
IsServed None None = Unit {0}
IsServed (Some s) (Some l) =
    (done : List (List ℕ)) × (length done ≡ length l.answers) × (cut_of l.bytes ≡ cut_with done s)
IsServed None (Some l) = ⊥
IsServed (Some s) None = ⊥

-- After every schedule, each connection has executed its buffers in order. The number of executed
-- buffers is the number of answers that its turns returned.
abbrev pub SchedulesAreServed : Type 0
SchedulesAreServed = (can : Bool) (r : Record) (calls : List Call) (new : Wire)
    → Schedules can (new_wire r) calls new → (number : ℕ)
    → IsServed (at_place new.streams number) (at_place (lives_after_all (free 8) calls) number)

abbrev pub plain_event_of : Event → PlainEvent
plain_event_of (Executed plain_event outcome) = plain_event
plain_event_of PowerCycled = Cycled

-- If no allocation can fail, running the schedule's events one after another results in the
-- machine's record.
abbrev pub SchedulesAreRuns : Type 0
SchedulesAreRuns = (r : Record) (calls : List Call) (new : Wire)
    → Schedules false (new_wire r) calls new
    → new.machine ≡ after_all r (map plain_event_of (events_in (free 8) calls))
