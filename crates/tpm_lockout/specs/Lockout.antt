-- Protection against dictionary attacks. TPM 2.0 Library, Part 1, section 19.8.
use Rattle.std.specs.Prelude.{ℕ, ◌<◌, ◌*◌, ◌^◌, false}
use Rattle.tpm_lockout.specs.declared.fields.LockoutFields.{LockoutFields}

-- the lockout state
pub record LockoutState : Type 0 where
  -- the part that survives a power cycle: failedTries, the parameters of dictionary attack
  -- protection, and whether lockoutAuth is disabled
  pub fields : LockoutFields
  -- the milliseconds that already count towards forgiving the next failed try
  pub forgiving_time : ℕ
  -- the milliseconds that already count towards enabling lockoutAuth again
  pub closed_time : ℕ

-- this number of seconds, converted to milliseconds
abbrev pub milliseconds : ℕ → ℕ
milliseconds seconds = 1000 * seconds

-- the lockout state of a newly manufactured device: maxTries is 3, and both recovery times are
-- 1,000 seconds
abbrev pub new_lockout : LockoutState
new_lockout = record {
  fields = record {
    failed_tries = 0;
    max_tries = 3;
    recovery_time = 1000;
    lockout_recovery = 1000;
    closed = false;
  };
  forgiving_time = 0;
  closed_time = 0;
}

-- the lockout state with both times restarted at zero
abbrev pub times_restarted : LockoutState → LockoutState
times_restarted s = record s { forgiving_time = 0; closed_time = 0 }

-- the lockout state at power-on: the saved fields, with both times at zero
abbrev pub restored_lockout : LockoutFields → LockoutState
restored_lockout fields = record { fields = fields; forgiving_time = 0; closed_time = 0 }

-- the lockout state after TPM2_DictionaryAttackParameters has set these parameters; both times are
-- zero
abbrev pub with_parameters : (max_tries recovery_time lockout_recovery : ℕ)
    → LockoutState → LockoutState
with_parameters max_tries recovery_time lockout_recovery s = restored_lockout (record s.fields {
  max_tries = max_tries;
  recovery_time = recovery_time;
  lockout_recovery = lockout_recovery;
})

-- The conditions that every lockout state satisfies: each number fits its integer type, and each of
-- the two times is less than 2^32 seconds.
pub record IsLockout (s : LockoutState) : Type 0 where
  pub failed_tries : s.fields.failed_tries < 2 ^ 32
  pub max_tries : s.fields.max_tries < 2 ^ 32
  pub recovery_time : s.fields.recovery_time < 2 ^ 32
  pub lockout_recovery : s.fields.lockout_recovery < 2 ^ 32
  pub forgiving_time : s.forgiving_time < milliseconds (2 ^ 32)
  pub closed_time : s.closed_time < milliseconds (2 ^ 32)
