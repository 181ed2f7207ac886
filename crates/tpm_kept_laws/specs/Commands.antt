-- What the device gets of a command to a kept device, and what its client gets of the answer.
use Rattle.std.specs.Prelude.{◌≡◌, ℕ, ◌+◌, ◌-◌, ◌^◌, ◌<◌, ◌≤◌, Bool, List, [], length, min, Ok}
use Rattle.tpm_completion.specs.Completed.{completed_effect}
use Rattle.tpm_completion.specs.Execution.{Seen}
use Rattle.tpm_completion.specs.declared.completion.Completion.{Completion}
use Rattle.tpm_step.specs.step.Events.{Cycled, Given}
use Rattle.tpm_step.specs.step.Step.{step}
use Rattle.tpm_types_common.specs.Limits.{buffer_limit}
use Rattle.tpm_kept_device.specs.Answer.{answer_of}
use Rattle.tpm_kept_journal.specs.Command.{After, At, Cycles, Executes, Moment, command_of}
use Rattle.tpm_kept_journal.specs.DeviceJournal.{device_journal}
use Rattle.tpm_kept_journal.specs.Effect.{report_and_response}
use Rattle.tpm_kept_journal.specs.State.{DeviceState, IsDeviceState, bytes_of}

-- the milliseconds between the previous command, which arrived at `time`, and a command that arrives
-- at this moment, limited to 2^32 - 1
abbrev pub waited : Moment → (time : ℕ) → ℕ
waited (At now) time = min (now - time) (2 ^ 32 - 1)
waited (After elapsed) time = elapsed

-- the effect of a TPM command: the device gets the client's buffer, locality and random bytes, and
-- the milliseconds since the previous command
abbrev pub told_effect : DeviceState → Moment → (locality : ℕ) → (completes : Bool)
    → (random buffer : List ℕ) → Seen
told_effect s moment locality completes random buffer =
    completed_effect completes s.layer s.device
    (Given buffer locality (waited moment s.time) random)

-- The bytes of a TPM command have the effect of the command that they encode. The response begins
-- with the report on this effect. The journal's time advances by the milliseconds that the device
-- gets.
abbrev pub ExecutesAsTold : Type 0
ExecutesAsTold = (s : DeviceState) (moment : Moment) (locality : ℕ) (completes : Bool)
    (random buffer text : List ℕ) → IsDeviceState s
    → command_of text ≡ Ok (Executes moment locality completes random buffer)
    → length buffer ≤ buffer_limit → waited moment s.time < 2 ^ 32
    → s.time + waited moment s.time < 2 ^ 64
    → let seen = told_effect s moment locality completes random buffer in
    (device_journal.after (bytes_of s) text ≡ bytes_of (record {
      time = s.time + waited moment s.time;
      layer = seen.layer;
      device = seen.step.after;
    })) × (device_journal.response (bytes_of s) text ≡ report_and_response seen)

-- Each number of an effect fits its field in the report, and the response fits in a buffer.
pub record IsReportable (seen : Seen) : Type 0 where
  pub code : seen.step.row.code < 2 ^ 32
  pub check : seen.step.row.check < 2 ^ 8
  pub drawn : seen.drawn < 2 ^ 16
  pub response : length seen.step.response ≤ buffer_limit

-- Decoding the answer gives the row's command code, the row's check, the number of random bytes
-- that the command drew, and the device's response.
abbrev pub ReportsTheRow : Type 0
ReportsTheRow = (seen : Seen) → IsReportable seen → answer_of (report_and_response seen)
    ≡ Ok (record {
      code = seen.step.row.code;
      check = seen.step.row.check;
      drawn = seen.drawn;
      response = seen.step.response;
    })

-- A power cycle at `now` has no response, and is the power cycle of the device. The journal's time is
-- then `now`: the device gets no millisecond of the time without power. The layer keeps its start
-- number.
abbrev pub ClockStands : Type 0
ClockStands = (s : DeviceState) (now start : ℕ) (text : List ℕ) → IsDeviceState s
    → command_of text ≡ Ok (Cycles now start)
    → (layer : Completion) × (layer.start ≡ s.layer.start)
    × (device_journal.after (bytes_of s) text ≡ bytes_of (record {
      time = now;
      layer = layer;
      device = (step s.device Cycled).after;
    })) × (device_journal.response (bytes_of s) text ≡ [])
