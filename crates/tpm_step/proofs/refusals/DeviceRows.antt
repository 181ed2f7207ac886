-- The rows of the commands for the whole device refuse by their own checks only as `own_refusals`
-- lists.
use Rattle.std.proofs.Common.{Err, IfErr, None, Ok, Option, Result, Some, inl, inr, refl, ℕ}
use Rattle.tpm_types_common.specs.Rc.{plain}
use Rattle.tpm_types_common.specs.declared.action_check.ActionCheck.TheVariants as action
use Rattle.tpm_types_common.specs.declared.rc.ResponseCode.TheVariants as code
use Rattle.tpm_types_common.specs.declared.startup_type.StartupType.{StartupType}
use Rattle.tpm_types_common.specs.declared.startup_type.StartupType.TheVariants as type
use Rattle.tpm_commands.specs.declared.command_code.CommandCode.TheVariants as command
use Rattle.tpm_pcr.specs.Values.{BankValues}
use Rattle.tpm_pcr.specs.declared.changes.ChangeFault.{ChangeFault}
use Rattle.tpm_pcr.specs.declared.changes.ChangeFault.TheVariants as change_fault
use Rattle.tpm_record.specs.Record.{Record}
use Rattle.tpm_record.specs.declared.saved.SavedKind.{SavedKind}
use Rattle.tpm_record.specs.declared.saved.SavedKind.TheVariants as saved
use Rattle.tpm_record.specs.rows.Refusals.{action_refusal, or_refusal}
use Rattle.tpm_record.specs.rows.Request.{Request}
use Rattle.tpm_actions_device.specs.Clear.{clear_row}
use Rattle.tpm_actions_device.specs.ClearControl.{clear_control_row}
use Rattle.tpm_actions_device.specs.ClockRateAdjust.{clock_rate_adjust_row}
use Rattle.tpm_actions_device.specs.ClockSet.{clock_set_row}
use Rattle.tpm_actions_device.specs.DictionaryAttackLockReset.{dictionary_attack_lock_reset_row}
use Rattle.tpm_actions_device.specs.DictionaryAttackParameters.{dictionary_attack_parameters_row}
use Rattle.tpm_actions_device.specs.DictionaryAttackParameters.{lockout_parameters}
use Rattle.tpm_actions_device.specs.FlushContext.{flush_context_row}
use Rattle.tpm_actions_device.specs.GetRandom.{get_random_row}
use Rattle.tpm_actions_device.specs.GetTestResult.{get_test_result_row}
use Rattle.tpm_actions_device.specs.Hash.{hash_parameters_in, hash_row}
use Rattle.tpm_actions_device.specs.HierarchyChangeAuth.{hierarchy_change_auth_row}
use Rattle.tpm_actions_device.specs.IncrementalSelfTest.{incremental_self_test_row}
use Rattle.tpm_actions_device.specs.PcrChange.{change_row, on_pcr}
use Rattle.tpm_actions_device.specs.PcrEvent.{pcr_event_row}
use Rattle.tpm_actions_device.specs.PcrExtend.{pcr_extend_row}
use Rattle.tpm_actions_device.specs.PcrRead.{pcr_read_row}
use Rattle.tpm_actions_device.specs.PcrReset.{pcr_reset_row}
use Rattle.tpm_actions_device.specs.ReadClock.{read_clock_row}
use Rattle.tpm_actions_device.specs.SelfTest.{self_test_row}
use Rattle.tpm_actions_device.specs.Shutdown.{shutdown_row}
use Rattle.tpm_actions_device.specs.StartAuthSession.{parameters_in, parameters_pass}
use Rattle.tpm_actions_device.specs.StartAuthSession.{start_auth_session_row}
use Rattle.tpm_actions_device.specs.Startup.{start_of, startup_row}
use Rattle.tpm_actions_device.specs.StirRandom.{stir_random_row}
use Rattle.tpm_actions_device.specs.TestParms.{test_parms_row}
use Rattle.tpm_step.specs.rows.OwnRefusals.{IsListed, RefusesAsListed, own_refusals, pcr_refusals, value_refusals}
use Rattle.tpm_step.proofs.refusals.Steps.{own_steps}

-- ---- TPM2_Startup, TPM2_Shutdown and the self-test

own_start : (type : StartupType) (kind : SavedKind)
    → IfErr (start_of type kind) (IsListed value_refusals)
own_start type.Clear saved.Nothing = tt
own_start type.Clear saved.Clear = tt
own_start type.Clear saved.State = tt
own_start type.State saved.Nothing = inl refl
own_start type.State saved.Clear = inl refl
own_start type.State saved.State = tt

pub startup_own : (r : Record) (q : Request) → RefusesAsListed command.Startup (startup_row r q)
unfolding startup_row own_refusals
startup_own r q = search (own_steps, own_start) depth 16

pub shutdown_own : (r : Record) (q : Request) → RefusesAsListed command.Shutdown (shutdown_row r q)
unfolding shutdown_row
shutdown_own r q = search own_steps depth 16

pub self_test_own : (r : Record) (q : Request) → RefusesAsListed command.SelfTest (self_test_row r q)
unfolding self_test_row
self_test_own r q = search own_steps depth 16

pub incremental_self_test_own : (r : Record) (q : Request)
    → RefusesAsListed command.IncrementalSelfTest (incremental_self_test_row r q)
unfolding incremental_self_test_row own_refusals
incremental_self_test_own r q = search own_steps depth 16

pub get_test_result_own : (r : Record) (q : Request)
    → RefusesAsListed command.GetTestResult (get_test_result_row r q)
unfolding get_test_result_row
get_test_result_own r q = search own_steps depth 16

pub test_parms_own : (r : Record) (q : Request)
    → RefusesAsListed command.TestParms (test_parms_row r q)
unfolding test_parms_row
test_parms_own r q = search own_steps depth 16

-- ---- hashes

pub hash_own : (r : Record) (q : Request) → RefusesAsListed command.Hash (hash_row r q)
unfolding hash_row hash_parameters_in
hash_own r q = search own_steps depth 16

-- ---- clocks and random bytes

pub read_clock_own : (r : Record) (q : Request)
    → RefusesAsListed command.ReadClock (read_clock_row r q)
unfolding read_clock_row
read_clock_own r q = search own_steps depth 16

pub clock_set_own : (r : Record) (q : Request)
    → RefusesAsListed command.ClockSet (clock_set_row r q)
unfolding clock_set_row own_refusals
clock_set_own r q = search own_steps depth 16

pub clock_rate_adjust_own : (r : Record) (q : Request)
    → RefusesAsListed command.ClockRateAdjust (clock_rate_adjust_row r q)
unfolding clock_rate_adjust_row own_refusals
clock_rate_adjust_own r q = search own_steps depth 16

pub get_random_own : (r : Record) (q : Request)
    → RefusesAsListed command.GetRandom (get_random_row r q)
unfolding get_random_row
get_random_own r q = search own_steps depth 16

pub stir_random_own : (r : Record) (q : Request)
    → RefusesAsListed command.StirRandom (stir_random_row r q)
unfolding stir_random_row
stir_random_own r q = search own_steps depth 16

-- ---- PCRs

own_change : {X : Type 0} (x : Result X ChangeFault) → IfErr (change_row x) (IsListed pcr_refusals)
own_change (Ok x) = tt
own_change (Err change_fault.Locality) = inl refl
own_change (Err change_fault.Failure) = inr (inl refl)

own_pcr : (o : Option ℕ) (change : ℕ → BankValues → Result BankValues ChangeFault)
    (banks : BankValues) → IfErr (on_pcr o change banks) (IsListed pcr_refusals)
own_pcr None change banks = tt
own_pcr (Some pcr) change banks = own_change (change pcr banks)

pub pcr_read_own : (r : Record) (q : Request) → RefusesAsListed command.PcrRead (pcr_read_row r q)
unfolding pcr_read_row
pcr_read_own r q = search own_steps depth 16

pub pcr_extend_own : (r : Record) (q : Request)
    → RefusesAsListed command.PcrExtend (pcr_extend_row r q)
unfolding pcr_extend_row own_refusals
pcr_extend_own r q = search (own_steps, own_pcr) depth 16

pub pcr_event_own : (r : Record) (q : Request)
    → RefusesAsListed command.PcrEvent (pcr_event_row r q)
unfolding pcr_event_row own_refusals
pcr_event_own r q = search (own_steps, own_pcr) depth 16

pub pcr_reset_own : (r : Record) (q : Request)
    → RefusesAsListed command.PcrReset (pcr_reset_row r q)
unfolding pcr_reset_row own_refusals
pcr_reset_own r q = search (own_steps, own_pcr) depth 16

-- ---- sessions

pub start_auth_session_own : (r : Record) (q : Request)
    → RefusesAsListed command.StartAuthSession (start_auth_session_row r q)
unfolding start_auth_session_row parameters_in parameters_pass own_refusals
start_auth_session_own r q = search own_steps depth 16

pub flush_context_own : (r : Record) (q : Request)
    → RefusesAsListed command.FlushContext (flush_context_row r q)
unfolding flush_context_row own_refusals
flush_context_own r q = search own_steps depth 16

-- ---- hierarchies and lockout

pub hierarchy_change_auth_own : (r : Record) (q : Request)
    → RefusesAsListed command.HierarchyChangeAuth (hierarchy_change_auth_row r q)
unfolding hierarchy_change_auth_row
hierarchy_change_auth_own r q = search own_steps depth 16

pub dictionary_attack_lock_reset_own : (r : Record) (q : Request)
    → RefusesAsListed command.DictionaryAttackLockReset (dictionary_attack_lock_reset_row r q)
unfolding dictionary_attack_lock_reset_row
dictionary_attack_lock_reset_own r q = search own_steps depth 16

pub dictionary_attack_parameters_own : (r : Record) (q : Request)
    → RefusesAsListed command.DictionaryAttackParameters (dictionary_attack_parameters_row r q)
unfolding dictionary_attack_parameters_row lockout_parameters
dictionary_attack_parameters_own r q = search own_steps depth 16

own_update : (x : Result BankValues ChangeFault)
    → IfErr (or_refusal (λ fault. action_refusal action.Second (plain code.Failure)) x)
    (IsListed (own_refusals command.Clear))
unfolding own_refusals
own_update (Ok x) = tt
own_update (Err fault) = inr (inl refl)

pub clear_own : (r : Record) (q : Request) → RefusesAsListed command.Clear (clear_row r q)
unfolding clear_row own_refusals
clear_own r q = search (own_update, own_steps) depth 16

pub clear_control_own : (r : Record) (q : Request)
    → RefusesAsListed command.ClearControl (clear_control_row r q)
unfolding clear_control_row own_refusals
clear_control_own r q = search own_steps depth 16
