-- lockoutAuth: how it is disabled by a failed attempt to authorize with it, and when it is enabled
-- again. TPM 2.0 Library, Part 1, section 19.8 (dictionary attack protection: lockoutAuth and
-- lockoutRecovery).
use Rattle.std.specs.Prelude.{ℕ, ◌+◌, ◌==◌, ◌&&◌, not, nat_le, Bool, true, false, if◌then◌else◌}
use Rattle.tpm_lockout.specs.Lockout.{LockoutState, milliseconds}
use Rattle.tpm_lockout.specs.Tries.{forgiven_after}
use Rattle.tpm_lockout.specs.declared.fields.LockoutFields.{LockoutFields}

abbrev pub with_closed : Bool → LockoutState → LockoutState
with_closed closed s = record s { fields = record s.fields { closed = closed } }

-- the lockout state after a failed attempt to authorize with lockoutAuth, which then becomes
-- disabled; nothing changes if it is already disabled
abbrev pub closed_by_failure : LockoutState → LockoutState
closed_by_failure s =
    if s.fields.closed then s else record (with_closed true s) { closed_time = 0 }

-- whether lockoutAuth will be enabled again after some time: it is disabled, and lockoutRecovery is
-- not 0. If lockoutRecovery is 0, a TPM Reset enables lockoutAuth
abbrev pub opens_by_time : LockoutFields → Bool
opens_by_time f = f.closed && not (f.lockout_recovery == 0)

-- the lockout state after lockoutAuth has been disabled for this time. If the time is at least
-- lockoutRecovery, lockoutAuth is enabled again
abbrev pub opened_at : (time : ℕ) → LockoutState → LockoutState
opened_at time s =
    if nat_le (milliseconds s.fields.lockout_recovery) time
    then record (with_closed false s) { closed_time = 0 }
    else record s { closed_time = time }

-- the lockout state after some milliseconds. If lockoutAuth is disabled and lockoutRecovery is not
-- 0, the milliseconds count towards lockoutRecovery, after which lockoutAuth is enabled again.
-- Otherwise, `closed_time` becomes 0
unfoldable pub opened_after : (elapsed : ℕ) → LockoutState → LockoutState
opened_after elapsed s =
    if opens_by_time s.fields then opened_at (s.closed_time + elapsed) s
    else record s { closed_time = 0 }

-- the lockout state after some milliseconds: failed tries are forgiven, and lockoutAuth may be
-- enabled again
abbrev pub lockout_ticked : (elapsed : ℕ) → LockoutState → LockoutState
lockout_ticked elapsed s = opened_after elapsed (forgiven_after elapsed s)
