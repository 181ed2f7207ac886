-- Failed tries: how they are counted, when they lock out the protected entities, and how they are
-- forgiven. TPM 2.0 Library, Part 1, section 19.8 (failedTries, maxTries, recoveryTime). Two rules
-- are choices of this implementation. With a recoveryTime of 0, no failed try counts or locks out
-- anything. With any other recoveryTime, a maxTries of 0 locks out all protected entities.
use Rattle.std.specs.Prelude.{ℕ, ◌+◌, ◌-◌, ◌/◌, ◌%◌, ◌==◌, ◌&&◌, ◌||◌, not, nat_le, Bool, if◌then◌else◌}
use Rattle.tpm_lockout.specs.Lockout.{LockoutState, milliseconds}
use Rattle.tpm_lockout.specs.declared.fields.LockoutFields.{LockoutFields}

-- whether failed tries are counted at all
abbrev pub counts_tries : LockoutFields → Bool
counts_tries f = not (f.recovery_time == 0)

-- whether failed tries lock out the protected entities
abbrev pub is_locked : LockoutFields → Bool
is_locked f = counts_tries f && nat_le f.max_tries f.failed_tries

abbrev pub with_tries : ℕ → LockoutState → LockoutState
with_tries tries s = record s { fields = record s.fields { failed_tries = tries } }

-- the lockout state after a failed try: failedTries is incremented, and the time that counts
-- towards forgiving a failed try restarts at zero. Nothing changes if failed tries are not counted,
-- or if the protected entities are locked out
unfoldable pub after_failure : LockoutState → LockoutState
after_failure s =
    if counts_tries s.fields && not (is_locked s.fields)
    then record (with_tries (s.fields.failed_tries + 1) s) { forgiving_time = 0 }
    else s

-- the number of failed tries left after this time: each full recoveryTime forgives one failed try,
-- down to zero
abbrev pub tries_left : LockoutFields → (time : ℕ) → ℕ
tries_left f time = f.failed_tries - time / milliseconds f.recovery_time

-- the lockout state after this time was counted towards forgiving failed tries. Each full
-- recoveryTime forgives one failed try. If failed tries are left, the remaining time counts towards
-- forgiving the next failed try
abbrev pub forgiven_at : (time : ℕ) → LockoutState → LockoutState
forgiven_at time s =
    let left = tries_left s.fields time in
    record (with_tries left s) {
      forgiving_time = if left == 0 then 0 else time % milliseconds s.fields.recovery_time;
    }

-- the lockout state after some milliseconds: each full recoveryTime forgives a failed try. If
-- recoveryTime is 0, no try is forgiven, and `forgiving_time` becomes 0
unfoldable pub forgiven_after : (elapsed : ℕ) → LockoutState → LockoutState
forgiven_after elapsed s =
    if counts_tries s.fields then forgiven_at (s.forgiving_time + elapsed) s
    else record s { forgiving_time = 0 }
