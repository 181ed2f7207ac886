-- A machine with its connections, and the effect of each call on them.
use Rattle.std.specs.Prelude.{◌≡◌, ℕ, Bool, List, length, take, slice_set, if◌then◌else◌}
use Rattle.std.specs.Prelude.{Option, Some, None, Result, Ok, Err}
use Rattle.tpm_types_common.specs.Locality.{locality_number}
use Rattle.tpm_containers.specs.Slots.{at_place, free, lowest_free}
use Rattle.tpm_record.specs.Record.{Record}
use Rattle.tpm_step.specs.step.Events.{PlainEvent, Given}
use Rattle.tpm_step.specs.step.Execution.{Executes}
use Rattle.tpm_step.specs.step.Step.{outcome_step}
use Rattle.tpm_step.specs.declared.event.Outcome.{Outcome}
use Rattle.tpm_machine.specs.Executions.{Execution}
use Rattle.tpm_machine.specs.State.{state_of}
use Rattle.tpm_wire.specs.Number.{number_of}
use Rattle.tpm_wire.specs.Stream.{Cut, Stream, fed_stream, fitting_count, new_stream, next_of}
use Rattle.tpm_wire.specs.declared.fault.Full.{Full}
use Rattle.tpm_wire.specs.declared.fault.NoConnection.{NoConnection}
use Rattle.tpm_wire.specs.declared.host.Host.{Host}
use Rattle.tpm_wire.specs.declared.mux.Mux.{Mux}
use Rattle.tpm_wire.specs.declared.number.ConnectionNumber.{ConnectionNumber}
use Rattle.tpm_wire.specs.declared.turn.Turn.{Turn}
use Rattle.tpm_wire.specs.declared.turn.Turn.TheVariants.{Wants, Answer, Ended}

-- a machine and its connections: the machine's record, and for each of eight numbers the stream of
-- the open connection with that number, if any
pub record Wire : Type 0 where
  pub machine : Record
  pub streams : List (Option Stream)

-- the record and the streams of a `Mux`; `record_of` returns the record of its machine's state
abbrev pub wire_of : {K S O P N : Type 0} → (K → Record) → Mux K S O P N → Wire
wire_of record_of mux = record {
  machine = state_of record_of mux.machine;
  streams = mux.connections;
}

-- a machine without open connections
abbrev pub new_wire : Record → Wire
new_wire r = record { machine = r; streams = free 8 }

-- a machine and its connections, after the stream with this number is replaced; None removes the
-- stream
abbrev pub with_stream : Wire → ℕ → Option Stream → Wire
with_stream w number stream = record w { streams = slice_set w.streams number stream }

-- A connection was opened with the lowest free number, or all eight numbers are in use.
abbrev pub Opens : Wire → Result ConnectionNumber Full → Wire → Type 0
Opens old (Ok connection) new =
    (lowest_free old.streams ≡ Some (number_of connection))
    × (new ≡ with_stream old (number_of connection) (Some new_stream))
Opens old (Err full) new = (lowest_free old.streams ≡ None) × (new ≡ old)

-- No connection with this number is open, and nothing changed.
abbrev pub Refuses : {X : Type 0} → Wire → Result X NoConnection → Wire → Type 0
Refuses old (Ok x) new = ⊥
Refuses old (Err e) new = new ≡ old

-- The stream received as many bytes of a piece as fit, and the call returned their number; or no
-- connection with this number is open.
abbrev pub FeedsAt : Option Stream → Wire → ℕ → List ℕ → Result ℕ NoConnection → Wire → Type 0
FeedsAt None old number piece result new = Refuses old result new
FeedsAt (Some s) old number piece result new =
    (result ≡ Ok (fitting_count s (length piece)))
    × (new
    ≡ with_stream old number (Some (fed_stream s (take (fitting_count s (length piece)) piece))))

abbrev pub Feeds : Wire → ℕ → List ℕ → Result ℕ NoConnection → Wire → Type 0
Feeds old number piece result new =
    FeedsAt (at_place old.streams number) old number piece result new

-- the event that executes a buffer with the host's values
abbrev pub given_event : List ℕ → Host → PlainEvent
given_event buffer host = Given buffer (locality_number host.locality) host.elapsed_ms host.random

-- the execution of a buffer with the host's values, from one record to another
abbrev pub execution_of : Record → List ℕ → Host → Record → Outcome → Execution
execution_of old buffer host new outcome =
    record { before = old; event = given_event buffer host; seen = outcome_step new outcome }

-- The stream contains no complete buffer, and nothing changed.
abbrev pub Waits : Stream → Wire → Result Turn NoConnection → Wire → Type 0
Waits s old result new = (result ≡ Ok (if s.ended then Ended else Wants)) × (new ≡ old)

-- The command buffer at the beginning of the stream was executed with the host's values, and only
-- the bytes after it are left in the stream. `can` says whether an allocation can fail.
abbrev pub AnswersTurn : Bool → Cut → Wire → ℕ → Host → Result Turn NoConnection → Wire → Type 0
AnswersTurn can c old number host (Ok (Answer outcome)) new =
    Executes can old.machine (given_event c.buffer host) (outcome_step new.machine outcome)
    × (new.streams ≡ slice_set old.streams number (Some c.after))
AnswersTurn can c old number host result new = ⊥

-- The connection's next buffer was executed, if it was complete. Otherwise, nothing changed.
abbrev pub TurnsBy : Bool → Option Cut → Stream
    → Wire → ℕ → Host → Result Turn NoConnection → Wire → Type 0
TurnsBy can None s old number host result new = Waits s old result new
TurnsBy can (Some c) s old number host result new = AnswersTurn can c old number host result new

abbrev pub TurnsAt : Bool → Option Stream
    → Wire → ℕ → Host → Result Turn NoConnection → Wire → Type 0
TurnsAt can None old number host result new = Refuses old result new
TurnsAt can (Some s) old number host result new =
    TurnsBy can (next_of s) s old number host result new

abbrev pub Turns : Bool → Wire → ℕ → Host → Result Turn NoConnection → Wire → Type 0
Turns can old number host result new =
    TurnsAt can (at_place old.streams number) old number host result new

-- The connection was closed, or no connection with this number is open.
abbrev pub ClosesAt : Option Stream → Wire → ℕ → Result (Unit {0}) NoConnection → Wire → Type 0
ClosesAt None old number result new = Refuses old result new
ClosesAt (Some s) old number result new = (result ≡ Ok tt) × (new ≡ with_stream old number None)

abbrev pub Closes : Wire → ℕ → Result (Unit {0}) NoConnection → Wire → Type 0
Closes old number result new = ClosesAt (at_place old.streams number) old number result new
