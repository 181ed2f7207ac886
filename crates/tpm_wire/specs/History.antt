-- The histories of a machine with connections.
use Rattle.std.specs.Prelude.{ℕ, Option, Some, None, Result, Ok}
use Rattle.tpm_containers.specs.Slots.{at_place}
use Rattle.tpm_record.specs.Record.{Record}
use Rattle.tpm_machine.specs.History.{History, extended_history}
use Rattle.tpm_wire.specs.Stream.{Cut, Stream, next_of}
use Rattle.tpm_wire.specs.Wire.{Wire, given_event}
use Rattle.tpm_wire.specs.declared.fault.NoConnection.{NoConnection}
use Rattle.tpm_wire.specs.declared.host.Host.{Host}
use Rattle.tpm_wire.specs.declared.turn.Turn.{Turn}
use Rattle.tpm_wire.specs.declared.turn.Turn.TheVariants.{Answer}

-- the history after a buffer was cut off a stream, and executed with the host's values; the command
-- is added to the history if it was accepted
abbrev pub answered_history : Cut → Record → Host → Result Turn NoConnection → History → History
answered_history c r host (Ok (Answer outcome)) history =
    extended_history r (given_event c.buffer host) outcome.row.check history
answered_history c r host result history = history

abbrev pub cut_history : Option Cut → Record → Host → Result Turn NoConnection → History → History
cut_history (Some c) r host result history = answered_history c r host result history
cut_history None r host result history = history

abbrev pub stream_history : Option Stream → Record → Host → Result Turn NoConnection
    → History → History
stream_history (Some s) r host result history = cut_history (next_of s) r host result history
stream_history None r host result history = history

-- the history after a turn of the connection with this number; the command in the connection's next
-- buffer is added, if the buffer was complete and the command was accepted
abbrev pub turn_history : Wire → ℕ → Host → Result Turn NoConnection → History → History
turn_history old number host result history =
    stream_history (at_place old.streams number) old.machine host result history
