-- How many of its random bytes an event draws. It draws these bytes in order, starting with the
-- first.
use Rattle.std.specs.Prelude.{ℕ, zero, suc, ◌-◌, List, drop, length, Result, Ok, Err}
use Rattle.tpm_types_command.specs.AuthEntry.{Entry}
use Rattle.tpm_record.specs.Record.{Record}
use Rattle.tpm_record.specs.Tick.{after_tick}
use Rattle.tpm_step.specs.step.Entries.{entries_rolled}
use Rattle.tpm_step.specs.step.Events.{PlainEvent, Given, Cycled, Placed}
use Rattle.tpm_step.specs.step.Step.{Accepted, acceptance_in}

-- the total number of random bytes that a command draws: `drawn` bytes for its row, and then the
-- bytes for the new nonces of its entries
abbrev pub bytes_drawn : List ℕ → Record → List Entry → (drawn : ℕ) → ℕ
bytes_drawn random r entries drawn =
    length random - length (entries_rolled r entries (drop drawn random)).left

-- the number of random bytes that a command draws, given the check that its row reports. If a check
-- failed, or if the response is MEMORY, the command draws none
abbrev pub drawn_by_command : {E : Type 0} → List ℕ → Result Accepted E → (check : ℕ) → ℕ
drawn_by_command random (Ok a) zero =
    bytes_drawn random a.success.after a.command.entries a.success.answer.drawn
drawn_by_command random (Ok a) (suc check) = 0
drawn_by_command random (Err e) check = 0

-- the number of random bytes that an event draws on this record
abbrev pub drawn_by : Record → PlainEvent → (check : ℕ) → ℕ
drawn_by r (Given buffer locality elapsed random) check =
    drawn_by_command random (acceptance_in (after_tick r elapsed) buffer locality random) check
drawn_by r Cycled check = 0
drawn_by r (Placed object) check = 0
