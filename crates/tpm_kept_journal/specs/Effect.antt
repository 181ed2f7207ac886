-- The effect of a command on a kept device.
use Rattle.std.specs.Prelude.{ℕ, Bool, true, List, [], ◌∷◌, ◌++◌, is_some, Option, Some, None, Result, Ok, Err}
use Rattle.std.specs.Int.{w16, w32, to_be_bytes}
use Rattle.tpm_completion.specs.Completed.{completed_effect}
use Rattle.tpm_completion.specs.Execution.{Seen}
use Rattle.tpm_image_text.specs.Fields.{yes_no_text}
use Rattle.tpm_image_text.specs.declared.fault.Malformed.{Malformed}
use Rattle.tpm_journal.specs.Command.{Command, command_at, command_event, elapsed_of, entry_of}
use Rattle.tpm_journal.specs.State.{time_after}
use Rattle.tpm_journal_text.specs.Entry.{PlainEntry, entry_text, sum_after}
use Rattle.tpm_keeping.specs.Journal.{Spot}
use Rattle.tpm_step.specs.step.Events.{Cycled}
use Rattle.tpm_kept_journal.specs.Command.{After, At, Begins, Cycles, Executes, KeptCommand, Moment, command_of}
use Rattle.tpm_kept_journal.specs.Seed.{begun_in}
use Rattle.tpm_kept_journal.specs.State.{DeviceState, bytes_of, state_of_bytes}

-- ---- the effect of a command on a state

-- the time on the host's clock when a command arrives, if the previous command arrived at `time`.
-- It fits in 64 bits
abbrev pub clock_at : Moment → (time : ℕ) → ℕ
clock_at (At now) time = now
clock_at (After elapsed) time = time_after time elapsed

-- the command that a device in this state executes when this buffer arrives at this moment
abbrev pub command_on : DeviceState → Moment → (locality : ℕ) → (completes : Bool)
    → (random buffer : List ℕ) → Command
command_on s moment locality completes random buffer =
    command_at buffer locality (elapsed_of (clock_at moment s.time) s.time) completes random

-- the effect of a TPM command, with or without the completing layer, if no allocation fails
abbrev pub effect : DeviceState → Command → Seen
effect s c = completed_effect c.completes s.layer s.device (command_event c)

-- the state after a command with this effect, `elapsed` milliseconds after the previous command
abbrev pub left_by : DeviceState → (elapsed : ℕ) → Seen → DeviceState
left_by s elapsed seen =
    record { time = time_after s.time elapsed; layer = seen.layer; device = seen.step.after }

-- the state after a power cycle. The completing layer keeps its start number and its count. It
-- forgets its sequence objects, and the contexts of all sessions, since the sessions end; the
-- contexts of objects end with a TPM Reset
abbrev pub cycled_at : DeviceState → (now : ℕ) → DeviceState
cycled_at s now =
    let seen : Seen = completed_effect true s.layer s.device Cycled in
    record { time = now; layer = seen.layer; device = seen.step.after }

-- the new state of a device, or the old state if there is no new state
abbrev pub begun_or : Option DeviceState → DeviceState → DeviceState
begun_or (Some begun) s = begun
begun_or None s = s

-- the state after a TPM command, a power cycle, or the replacement of the device. If the
-- replacement is refused, the state stays the same
abbrev pub state_after_command : DeviceState → KeptCommand → DeviceState
state_after_command s (Executes moment locality completes random buffer) =
    let c = command_on s moment locality completes random buffer in
    left_by s c.elapsed (effect s c)
state_after_command s (Cycles now start) = cycled_at s now
state_after_command s (Begins seed) = begun_or (begun_in seed) s

-- the report of an effect: the command code in four bytes, the number of the check that refused the
-- command in one byte, and the number of random bytes drawn in two bytes
abbrev pub report_of : Seen → List ℕ
report_of seen =
    to_be_bytes w32 seen.step.row.code ++ (seen.step.row.check ∷ to_be_bytes w16 seen.drawn)

abbrev pub report_and_response : Seen → List ℕ
report_and_response seen = report_of seen ++ seen.step.response

-- the response: for a TPM command, its report and the device's response; for a power cycle,
-- nothing; for the replacement of the device, one byte, which is 1 if it succeeded
abbrev pub answer : DeviceState → KeptCommand → List ℕ
answer s (Executes moment locality completes random buffer) =
    report_and_response (effect s (command_on s moment locality completes random buffer))
answer s (Cycles now start) = []
answer s (Begins seed) = yes_no_text (is_some (begun_in seed))

-- the entry of a command; None if the command gets no entry
abbrev pub entry_if_any : DeviceState → KeptCommand → Option PlainEntry
entry_if_any s (Executes moment locality completes random buffer) =
    let c = command_on s moment locality completes random buffer in
    Some (entry_of c (effect s c))
entry_if_any s c = None

-- ---- the effect of a command, as functions of bytes

-- the result of a function of the decoded state and command; `other` if either of them could not be
-- decoded
abbrev pub with_both : {X : Type 0} → Option DeviceState → Result KeptCommand Malformed → (other : X)
    → (DeviceState → KeptCommand → X) → X
with_both (Some s) (Ok c) other said = said s c
with_both (Some s) (Err why) other said = other
with_both None c other said = other

abbrev pub after_command : (state command : List ℕ) → List ℕ
after_command state command =
    with_both (state_of_bytes state) (command_of command) state
    (λ s c. bytes_of (state_after_command s c))

abbrev pub response_to : (state command : List ℕ) → List ℕ
response_to state command = with_both (state_of_bytes state) (command_of command) [] answer

abbrev pub entry_at_spot : Spot → (command : List ℕ) → Option PlainEntry
entry_at_spot p command = with_both (state_of_bytes p.state) (command_of command) None entry_if_any

-- the encoding of an entry; empty if there is no entry
abbrev pub text_if : (sum : ℕ) → Option PlainEntry → List ℕ
text_if sum (Some e) = entry_text sum e
text_if sum None = []

-- the checksum after an entry; unchanged if there is no entry
abbrev pub sum_if : (sum : ℕ) → Option PlainEntry → ℕ
sum_if sum (Some e) = sum_after sum e
sum_if sum None = sum
