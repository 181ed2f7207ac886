-- TPM2_Startup. TPM 2.0 Library, Part 3, section 9.3, and Part 1, section 12.2.3 (startup state).
use Rattle.tpm_types_common.specs.declared.action_check.ActionCheck.TheVariants as action
use Rattle.std.specs.Prelude.{ℕ, ◌+◌, ◌-◌, ◌^◌, ◌==◌, min, true, false, List, [], take, drop, if◌then◌else◌, Result, Ok, Err}
use Rattle.tpm_lockout.specs.Lockout.{LockoutState}
use Rattle.tpm_lockout.specs.Recovery.{with_closed}
use Rattle.tpm_nv.specs.Startup.{contents_after_startup}
use Rattle.tpm_bytes.specs.Reading.{◌>>=◌}
use Rattle.tpm_types_common.specs.declared.rc.ResponseCode.TheVariants as code
use Rattle.tpm_types_common.specs.declared.startup_type.StartupType.{StartupType}
use Rattle.tpm_types_common.specs.declared.startup_type.StartupType.TheVariants as type
use Rattle.tpm_types_common.specs.StartupType.{startup_type_at}
use Rattle.tpm_types_common.specs.declared.handle.HierarchyAuth.TheVariants as auth
use Rattle.tpm_pcr.specs.Values.{BankValues}
use Rattle.tpm_record.specs.declared.fixed.Fixed.{Fixed}
use Rattle.tpm_record.specs.declared.hierarchy.Hierarchies.{Hierarchies}
use Rattle.tpm_record.specs.Entity.{with_hierarchy_auth}
use Rattle.tpm_record.specs.Record.{Record}
use Rattle.tpm_record.specs.Saved.{kind_of, restored_from}
use Rattle.tpm_record.specs.declared.saved.SavedKind.{SavedKind}
use Rattle.tpm_record.specs.declared.saved.SavedKind.TheVariants as saved
use Rattle.tpm_types_common.specs.declared.refused.Refused.{Refused}
use Rattle.tpm_record.specs.rows.Answer.{nothing}
use Rattle.tpm_record.specs.rows.Refusals.{parameter_refusal}
use Rattle.tpm_record.specs.rows.Request.{Request}
use Rattle.tpm_record.specs.rows.Rows.{Success, only}
use Rattle.tpm_actions_device.specs.declared.startup.Start.{Start}
use Rattle.tpm_actions_device.specs.declared.startup.Start.TheVariants.{Reset, Restart, Resume}

-- the kind of a startup. If TPM2_Shutdown(STATE) saved a state, CLEAR is a TPM Restart, and STATE
-- is a TPM Resume. If not, CLEAR is a TPM Reset, and check A1 refuses STATE
abbrev pub start_of : StartupType → SavedKind → Result Start Refused
start_of type.Clear saved.Nothing = Ok Reset
start_of type.Clear saved.Clear = Ok Reset
start_of type.Clear saved.State = Ok Restart
start_of type.State saved.Nothing = Err (parameter_refusal action.First 1 code.Value)
start_of type.State saved.Clear = Err (parameter_refusal action.First 1 code.Value)
start_of type.State saved.State = Ok Resume

-- ---- the effects of every startup

-- a count of startups, incremented by one, but never above 2^32 - 1
abbrev pub counted_up : ℕ → ℕ
counted_up count = min (count + 1) (2 ^ 32 - 1)

-- the fixed part after every startup: the device is started, and its PCR update counter is 0
abbrev pub begun_with : BankValues → Fixed → Fixed
begun_with banks f = record f { started = true; banks = record banks { update_count = 0 } }

-- ---- the effects of a TPM Reset, a TPM Restart and a TPM Resume

-- the hierarchies after a startup with CLEAR: platformAuth is empty (Part 1, section 14.3)
abbrev pub without_platform_auth : Hierarchies → Hierarchies
without_platform_auth h = with_hierarchy_auth h auth.Platform []

-- the hierarchies after a TPM Reset: platformAuth is empty, and the null hierarchy has a new seed
-- and a new proof, which are the first 64 random bytes (Part 1, sections 14.3 and 14.4)
abbrev pub reset_hierarchies : Hierarchies → List ℕ → Hierarchies
reset_hierarchies h random = record (without_platform_auth h) {
  null = record { seed = take 32 random; proof = take 32 (drop 32 random) };
}

-- the lockout state after a TPM Reset: lockoutAuth is enabled if lockoutRecovery is 0, because then
-- no elapsed time would enable it
abbrev pub reset_lockout : LockoutState → LockoutState
reset_lockout s = if s.fields.lockout_recovery == 0 then with_closed false s else s

-- the fixed part after a TPM Reset: the reset count is incremented, and the restart count becomes 0
abbrev pub reset_fixed : Fixed → List ℕ → Fixed
reset_fixed f random = record (begun_with f.banks f) {
  hierarchies = reset_hierarchies f.hierarchies random;
  lockout = reset_lockout f.lockout;
  reset_count = counted_up f.reset_count;
  restart_count = 0;
}

-- the fixed part after a TPM Restart: the restart count is incremented
abbrev pub restart_fixed : Fixed → Fixed
restart_fixed f = record (begun_with f.banks f) {
  hierarchies = without_platform_auth f.hierarchies;
  restart_count = counted_up f.restart_count;
}

-- the fixed part after a TPM Resume: the restart count is incremented, and the PCRs have their
-- saved values
abbrev pub resume_fixed : Fixed → Fixed
resume_fixed f = record (begun_with (restored_from f.saved f.banks) f) {
  restart_count = counted_up f.restart_count;
}

-- ---- the row of TPM2_Startup

-- the record after a startup; a startup with CLEAR changes NV indices, and a TPM Resume does not
abbrev pub started_record : Start → Record → List ℕ → Record
started_record Reset r random =
    record r { fixed = reset_fixed r.fixed random; nv = contents_after_startup r.nv }
started_record Restart r random =
    record r { fixed = restart_fixed r.fixed; nv = contents_after_startup r.nv }
started_record Resume r random = record r { fixed = resume_fixed r.fixed }

-- the number of random bytes that a startup draws; only a TPM Reset draws some, for a seed and a
-- proof
abbrev pub start_draws : Start → ℕ
start_draws Reset = 64
start_draws Restart = 0
start_draws Resume = 0

-- the row of TPM2_Startup. Parameter: startupType, from any locality. Refused by check A1 if STATE
-- is requested, but TPM2_Shutdown(STATE) saved no state. Effect: starts the device. Like every
-- successful command that does not preserve the saved state, a successful TPM2_Startup discards it
unfoldable pub startup_row : Record → Request → Result Success Refused
startup_row r q = do
  type ← only (startup_type_at q.parameters)
  start ← start_of type (kind_of r.fixed.saved)
  Ok (record {
    answer = record nothing { drawn = start_draws start };
    after = started_record start r q.random;
  })
