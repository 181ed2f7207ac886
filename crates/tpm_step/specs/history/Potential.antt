-- An inequality about failed tries and the time that counts towards the next decrement of
-- failedTries. TPM 2.0 Library, Part 1, section 19.8 (failedTries, maxTries, recoveryTime).
use Rattle.std.specs.Prelude.{◌≡◌, ◌≢◌, ◌⊎◌, ◌≤◌, ◌<◌, ◌+◌, ◌*◌, ◌==◌, ℕ, if◌then◌else◌}
use Rattle.tpm_lockout.specs.Lockout.{LockoutState, milliseconds}

-- recoveryTime in milliseconds: the time after which failedTries goes down by one
abbrev pub period : LockoutState → ℕ
period s = milliseconds s.fields.recovery_time

-- the milliseconds that count towards the next decrement of failedTries, or 0 if failedTries is 0
abbrev pub credit : LockoutState → ℕ
credit s = if s.fields.failed_tries == 0 then 0 else s.forgiving_time

-- If recoveryTime is not 0, no decrement of failedTries is overdue: the time that counts towards
-- the next decrement is less than one recoveryTime.
abbrev pub IsForgiving : LockoutState → Type 0
IsForgiving s = s.fields.recovery_time ≢ 0 → s.forgiving_time < period s

-- Between the old and the new state, this many tries failed, this many milliseconds passed, and the
-- parameters did not change. Each try that was counted in the old state, or has failed since, is
-- still counted or has been forgiven. Each forgiven try consumed one recoveryTime of the available
-- milliseconds: the elapsed milliseconds, and the milliseconds credited in the old state. If a try
-- failed, failedTries is at most maxTries now.
pub record Pays (old new : LockoutState) (failed elapsed : ℕ) : Type 0 where
  pub recovery_time : new.fields.recovery_time ≡ old.fields.recovery_time
  pub max_tries : new.fields.max_tries ≡ old.fields.max_tries
  pub balance : period old * old.fields.failed_tries + period old * failed + credit new
      ≤ period old * new.fields.failed_tries + credit old + elapsed
  pub within : (failed ≡ 0) ⊎ (new.fields.failed_tries ≤ old.fields.max_tries)
