-- The row of every command refuses by the command's own checks only as `own_refusals` lists.
use Rattle.std.specs.Prelude.{◌/◌}
use Rattle.std.proofs.Common.{IfErr, ◌^◌, ℕ}
use Rattle.tpm_commands.specs.declared.command_code.CommandCode.{CommandCode}
use Rattle.tpm_commands.specs.declared.command_code.CommandCode.TheVariants as command
use Rattle.tpm_commands.specs.declared.profile.Profile.{Profile}
use Rattle.tpm_commands.specs.declared.profile.Profile.TheVariants.{Complete, Symmetric}
use Rattle.tpm_record.specs.Record.{Record}
use Rattle.tpm_record.specs.rows.Request.{Request}
use Rattle.tpm_actions_capability.specs.GetCapability.{capability_of, capability_parameters}
use Rattle.tpm_actions_capability.specs.GetCapability.{get_capability_row, handle_elements, told_of}
use Rattle.tpm_actions_capability.specs.declared.get_capability.Capability.{Capability}
use Rattle.tpm_actions_capability.specs.declared.get_capability.Capability.TheVariants as capability
use Rattle.tpm_actions_capability.specs.declared.get_capability.CapabilityParameters.{CapabilityParameters}
use Rattle.tpm_step.specs.step.Table.{row_of}
use Rattle.tpm_step.specs.rows.OwnRefusals.{IsListed, RefusesAsListed, own_refusals}
use Rattle.tpm_step.proofs.rows.Binding.{err_bind}
use Rattle.tpm_step.proofs.refusals.DeviceRows as device
use Rattle.tpm_step.proofs.refusals.IndexRows as nv
use Rattle.tpm_step.proofs.refusals.ObjectRows as object
use Rattle.tpm_step.proofs.refusals.PolicyRows as policy
use Rattle.tpm_step.proofs.refusals.Steps.{own_steps}

own_capability : (profile : Profile) (number : ℕ)
    → IfErr (capability_of profile number) (IsListed (own_refusals command.GetCapability))
unfolding own_refusals
own_capability Symmetric number = search own_steps depth 16
own_capability Complete number = search own_steps depth 16

own_told : (r : Record) (asked : CapabilityParameters) (c : Capability)
    → IfErr (told_of r asked c) (IsListed (own_refusals command.GetCapability))
unfolding own_refusals
own_told r asked capability.Handles =
    err_bind _ (handle_elements r (asked.property / 2 ^ 24)) _ (search own_steps depth 16)
    (λ elements. tt)
own_told r asked _ = tt

get_capability_own : (r : Record) (q : Request)
    → RefusesAsListed command.GetCapability (get_capability_row r q)
unfolding get_capability_row capability_parameters own_refusals
get_capability_own r q = search (own_capability, own_told, own_steps) depth 20

-- the row of every command refuses by the command's own checks only as listed
pub row_own : (r : Record) (c : CommandCode) (q : Request) → RefusesAsListed c (row_of r c q)
unfolding row_of
row_own r command.EvictControl q = object.evict_control_own r q
row_own r command.NvUndefineSpace q = nv.nv_undefine_space_own r q
row_own r command.Clear q = device.clear_own r q
row_own r command.ClearControl q = device.clear_control_own r q
row_own r command.ClockSet q = device.clock_set_own r q
row_own r command.ClockRateAdjust q = device.clock_rate_adjust_own r q
row_own r command.HierarchyChangeAuth q = device.hierarchy_change_auth_own r q
row_own r command.NvDefineSpace q = nv.nv_define_space_own r q
row_own r command.CreatePrimary q = object.create_primary_own r q
row_own r command.NvIncrement q = nv.nv_increment_own r q
row_own r command.NvSetBits q = nv.nv_set_bits_own r q
row_own r command.NvExtend q = nv.nv_extend_own r q
row_own r command.NvWrite q = nv.nv_write_own r q
row_own r command.NvWriteLock q = nv.nv_write_lock_own r q
row_own r command.DictionaryAttackLockReset q = device.dictionary_attack_lock_reset_own r q
row_own r command.DictionaryAttackParameters q = device.dictionary_attack_parameters_own r q
row_own r command.NvChangeAuth q = nv.nv_change_auth_own r q
row_own r command.PcrEvent q = device.pcr_event_own r q
row_own r command.PcrReset q = device.pcr_reset_own r q
row_own r command.IncrementalSelfTest q = device.incremental_self_test_own r q
row_own r command.SelfTest q = device.self_test_own r q
row_own r command.Startup q = device.startup_own r q
row_own r command.Shutdown q = device.shutdown_own r q
row_own r command.StirRandom q = device.stir_random_own r q
row_own r command.PolicyNv q = policy.policy_nv_own r q
row_own r command.NvRead q = nv.nv_read_own r q
row_own r command.NvReadLock q = nv.nv_read_lock_own r q
row_own r command.PolicySecret q = policy.policy_secret_own r q
row_own r command.Create q = object.create_own r q
row_own r command.Hmac q = object.hmac_own r q
row_own r command.Load q = object.load_own r q
row_own r command.Unseal q = object.unseal_own r q
row_own r command.FlushContext q = device.flush_context_own r q
row_own r command.NvReadPublic q = nv.nv_read_public_own r q
row_own r command.PolicyAuthValue q = policy.policy_auth_value_own r q
row_own r command.PolicyCommandCode q = policy.policy_command_code_own r q
row_own r command.PolicyCpHash q = policy.policy_cp_hash_own r q
row_own r command.PolicyNvWritten q = policy.policy_nv_written_own r q
row_own r command.PolicyLocality q = policy.policy_locality_own r q
row_own r command.PolicyOr q = policy.policy_or_own r q
row_own r command.ReadPublic q = object.read_public_own r q
row_own r command.StartAuthSession q = device.start_auth_session_own r q
row_own r command.GetCapability q = get_capability_own r q
row_own r command.GetRandom q = device.get_random_own r q
row_own r command.GetTestResult q = device.get_test_result_own r q
row_own r command.Hash q = device.hash_own r q
row_own r command.PcrRead q = device.pcr_read_own r q
row_own r command.PolicyPcr q = policy.policy_pcr_own r q
row_own r command.PolicyRestart q = policy.policy_restart_own r q
row_own r command.ReadClock q = device.read_clock_own r q
row_own r command.PcrExtend q = device.pcr_extend_own r q
row_own r command.PolicyGetDigest q = policy.policy_get_digest_own r q
row_own r command.TestParms q = device.test_parms_own r q
row_own r command.PolicyPassword q = policy.policy_password_own r q
