-- The time of a journal follows the host's clock.
use Rattle.std.proofs.Common.{◌≡◌, ℕ, ◌+◌, ◌-◌, ◌^◌, ◌<◌, ◌≤◌, [], ◌∷◌, refl, arith}
use Rattle.tpm_journal.specs.Command.{elapsed_of}
use Rattle.tpm_journal.specs.State.{time_after}
use Rattle.tpm_journal_laws.specs.Times.{BeginsAtClock, GoesWithClock, TellsNoTimeTwice, told_together}

pub begins_at_clock : BeginsAtClock
begins_at_clock clock image = refl

reaches : (time now : ℕ) → time ≤ now → now - time < 2 ^ 32 → now < 2 ^ 64
    → time_after time (elapsed_of now time) ≡ now
reaches time now ahead near small = omega (arith, ahead, near, small)

pub goes_with_clock : GoesWithClock
goes_with_clock j now buffer locality completes random seen ahead near small =
    reaches j.time now ahead near small

-- the journal's time after a command is at most the latest time of the host's clock
within : (time now latest : ℕ) → time ≤ latest → latest < 2 ^ 64 → now ≤ latest
    → time_after time (elapsed_of now time) ≤ latest
within time now latest before small is = omega (arith, before, small, is)

carried : (time now latest : ℕ) → time ≤ latest → latest < 2 ^ 64 → now ≤ latest
    → time_after time (elapsed_of now time) ≡ time + elapsed_of now time
carried time now latest before small is = omega (arith, before, small, is)

pub tells_no_time_twice : TellsNoTimeTwice
tells_no_time_twice time latest [] before small are = omega (arith, before)
tells_no_time_twice time latest (now ∷ clocks) before small are =
    let after = time_after time (elapsed_of now time) in
    let rest = tells_no_time_twice after latest clocks (within time now latest before small are.0)
    small are.1 in
    let is : after ≡ time + elapsed_of now time = carried time now latest before small are.0 in
    sum time (elapsed_of now time) after (told_together after clocks) latest is rest
  where
    sum : (time elapsed after more latest : ℕ) → after ≡ time + elapsed → after + more ≤ latest
        → time + (elapsed + more) ≤ latest
    sum time elapsed after more latest is rest = omega (arith, is, rest)
