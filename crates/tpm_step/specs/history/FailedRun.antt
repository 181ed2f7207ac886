-- An example of a run with the maximum possible number of failed tries. TPM 2.0 Library, Part 1,
-- section 19.8 (dictionary attacks).
use Rattle.std.specs.Prelude.{◌≡◌, ◌≢◌, ℕ, true, false, List, [], ◌∷◌, replicate}
use Rattle.tpm_lockout.specs.Lockout.{LockoutState, new_lockout}
use Rattle.tpm_mac.specs.declared.algorithm.HashAlg.TheVariants as alg
use Rattle.tpm_nv.specs.Index.{NvIndex}
use Rattle.tpm_types_common.specs.Handle.{numbered_handle}
use Rattle.tpm_record.specs.Record.{Record, manufactured}
use Rattle.tpm_step.specs.step.Events.{PlainEvent, Given}
use Rattle.tpm_step.specs.step.Step.{step}
use Rattle.tpm_step.specs.history.Executions.{Execution, Leads, history_after}
use Rattle.tpm_step.specs.history.Tries.{HasNoReset, failures_in, tries_within}

abbrev pub zeros : List ℕ
zeros = replicate 256 0

-- an NV index of eight bytes with TPMA_NV_AUTHWRITE, TPMA_NV_AUTHREAD and the authorization value
-- "a"
abbrev pub protected_index : NvIndex
protected_index = record {
  public = record {
    nv_index = numbered_handle 0x01000001;
    name_alg = alg.Sha256;
    attributes = record { bits = 0x00040004 };
    auth_policy = [];
    data_size = 8;
  };
  auth_value = 0x61 ∷ [];
  bytes = [];
}

-- a started device with `protected_index`, after `failed` failed tries, when its Time is `time`.
-- `forgiving` is the number of milliseconds that already count towards the next decrement of
-- failedTries. The device's maxTries is 3, and its recoveryTime is 1,000 seconds.
abbrev pub tried_device : (failed forgiving time : ℕ) → Record
tried_device failed forgiving time =
    let r : Record = manufactured zeros in
    let lockout : LockoutState = new_lockout in
    record r {
      fixed = record r.fixed {
        started = true;
        lockout = record lockout {
          fields = record lockout.fields { failed_tries = failed };
          forgiving_time = forgiving;
        };
        time = time;
        clock = time;
      };
      nv = record { indices = (0x01000001, protected_index) ∷ []; max_count = 0 };
    }

-- TPM2_NV_Read of the index, authorized by the index itself, with the password "b"
abbrev pub wrong_read : List ℕ
wrong_read =
    0x80 ∷ 0x02 ∷ 0x00 ∷ 0x00 ∷ 0x00 ∷ 0x24 ∷ 0x00 ∷ 0x00 ∷ 0x01 ∷ 0x4e
    ∷ 0x01 ∷ 0x00 ∷ 0x00 ∷ 0x01 ∷ 0x01 ∷ 0x00 ∷ 0x00 ∷ 0x01
    ∷ 0x00 ∷ 0x00 ∷ 0x00 ∷ 0x0a ∷ 0x40 ∷ 0x00 ∷ 0x00 ∷ 0x09 ∷ 0x00 ∷ 0x00 ∷ 0x01 ∷ 0x00 ∷ 0x01 ∷ 0x62
    ∷ 0x00 ∷ 0x08 ∷ 0x00 ∷ 0x00 ∷ []

abbrev pub wrong_after : (elapsed : ℕ) → PlainEvent
wrong_after elapsed = Given wrong_read 0 elapsed zeros

abbrev pub stepped_at : Record → PlainEvent → Execution
stepped_at r event = record { before = r; event = event; seen = step r event }

-- three wrong passwords without a pause; a fourth, 999,999 milliseconds later, while the device is
-- in lockout; and a fifth, 1 millisecond after the fourth, when failedTries goes down by one
abbrev pub failed_run : List Execution
failed_run =
    stepped_at (tried_device 0 0 0) (wrong_after 0)
    ∷ stepped_at (tried_device 1 0 0) (wrong_after 0)
    ∷ stepped_at (tried_device 2 0 0) (wrong_after 0)
    ∷ stepped_at (tried_device 3 0 0) (wrong_after 999999)
    ∷ stepped_at (tried_device 3 999999 999999) (wrong_after 1)
    ∷ []

-- The failed run is a sequence of events without a reset of failedTries, and the device's
-- recoveryTime is not 0. Four tries fail in this run, and no more than four may fail.
pub record IsFailedRun : Type 0 where
  pub leads : Leads false (tried_device 0 0 0) failed_run (tried_device 3 0 1000000)
  pub quiet : HasNoReset (history_after [] failed_run)
  pub counts : (tried_device 0 0 0).fixed.lockout.fields.recovery_time ≢ 0
  pub failures : failures_in failed_run ≡ 4
  pub within : tries_within (tried_device 0 0 0) failed_run ≡ 4
