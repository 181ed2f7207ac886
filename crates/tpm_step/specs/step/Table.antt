-- The table: the row of each command.
use Rattle.std.specs.Prelude.{Result}
use Rattle.tpm_commands.specs.declared.command_code.CommandCode.{CommandCode}
use Rattle.tpm_commands.specs.declared.command_code.CommandCode.TheVariants as command
use Rattle.tpm_record.specs.Record.{Record}
use Rattle.tpm_types_common.specs.declared.refused.Refused.{Refused}
use Rattle.tpm_record.specs.rows.Request.{Request}
use Rattle.tpm_record.specs.rows.Rows.{Success}
use Rattle.tpm_actions_device.specs.Startup.{startup_row}
use Rattle.tpm_actions_device.specs.Shutdown.{shutdown_row}
use Rattle.tpm_actions_device.specs.SelfTest.{self_test_row}
use Rattle.tpm_actions_device.specs.IncrementalSelfTest.{incremental_self_test_row}
use Rattle.tpm_actions_device.specs.TestParms.{test_parms_row}
use Rattle.tpm_actions_device.specs.Hash.{hash_row}
use Rattle.tpm_actions_device.specs.ReadClock.{read_clock_row}
use Rattle.tpm_actions_device.specs.ClearControl.{clear_control_row}
use Rattle.tpm_actions_device.specs.ClockRateAdjust.{clock_rate_adjust_row}
use Rattle.tpm_actions_device.specs.ClockSet.{clock_set_row}
use Rattle.tpm_actions_device.specs.GetRandom.{get_random_row}
use Rattle.tpm_actions_device.specs.GetTestResult.{get_test_result_row}
use Rattle.tpm_actions_device.specs.StirRandom.{stir_random_row}
use Rattle.tpm_actions_device.specs.PcrRead.{pcr_read_row}
use Rattle.tpm_actions_device.specs.PcrExtend.{pcr_extend_row}
use Rattle.tpm_actions_device.specs.PcrEvent.{pcr_event_row}
use Rattle.tpm_actions_device.specs.PcrReset.{pcr_reset_row}
use Rattle.tpm_actions_device.specs.FlushContext.{flush_context_row}
use Rattle.tpm_actions_device.specs.DictionaryAttackLockReset.{dictionary_attack_lock_reset_row}
use Rattle.tpm_actions_device.specs.DictionaryAttackParameters.{dictionary_attack_parameters_row}
use Rattle.tpm_actions_device.specs.HierarchyChangeAuth.{hierarchy_change_auth_row}
use Rattle.tpm_actions_device.specs.StartAuthSession.{start_auth_session_row}
use Rattle.tpm_actions_device.specs.Clear.{clear_row}
use Rattle.tpm_actions_capability.specs.GetCapability.{get_capability_row}
use Rattle.tpm_actions_object.specs.Create.{create_row}
use Rattle.tpm_actions_object.specs.CreatePrimary.{create_primary_row}
use Rattle.tpm_actions_object.specs.EvictControl.{evict_control_row}
use Rattle.tpm_actions_object.specs.Hmac.{hmac_row}
use Rattle.tpm_actions_object.specs.Load.{load_row}
use Rattle.tpm_actions_object.specs.ReadPublic.{read_public_row}
use Rattle.tpm_actions_object.specs.Unseal.{unseal_row}
use Rattle.tpm_actions_policy.specs.Assertions.{assertion_row}
use Rattle.tpm_actions_policy.specs.PolicyGetDigest.{policy_get_digest_row}
use Rattle.tpm_actions_policy.specs.PolicyRestart.{policy_restart_row}
use Rattle.tpm_nvactions.specs.NvChangeAuth.{nv_change_auth_row}
use Rattle.tpm_nvactions.specs.NvDefineSpace.{nv_define_space_row}
use Rattle.tpm_nvactions.specs.NvExtend.{nv_extend_row}
use Rattle.tpm_nvactions.specs.NvIncrement.{nv_increment_row}
use Rattle.tpm_nvactions.specs.NvRead.{nv_read_row}
use Rattle.tpm_nvactions.specs.NvReadLock.{nv_read_lock_row}
use Rattle.tpm_nvactions.specs.NvReadPublic.{nv_read_public_row}
use Rattle.tpm_nvactions.specs.NvSetBits.{nv_set_bits_row}
use Rattle.tpm_nvactions.specs.NvUndefineSpace.{nv_undefine_space_row}
use Rattle.tpm_nvactions.specs.NvWrite.{nv_write_row}
use Rattle.tpm_nvactions.specs.NvWriteLock.{nv_write_lock_row}

-- the row of each command, which says what the command refuses, returns and changes
unfoldable pub row_of : Record → CommandCode → Request → Result Success Refused
row_of r command.EvictControl q = evict_control_row r q
row_of r command.NvUndefineSpace q = nv_undefine_space_row r q
row_of r command.Clear q = clear_row r q
row_of r command.ClearControl q = clear_control_row r q
row_of r command.ClockSet q = clock_set_row r q
row_of r command.ClockRateAdjust q = clock_rate_adjust_row r q
row_of r command.HierarchyChangeAuth q = hierarchy_change_auth_row r q
row_of r command.NvDefineSpace q = nv_define_space_row r q
row_of r command.CreatePrimary q = create_primary_row r q
row_of r command.NvIncrement q = nv_increment_row r q
row_of r command.NvSetBits q = nv_set_bits_row r q
row_of r command.NvExtend q = nv_extend_row r q
row_of r command.NvWrite q = nv_write_row r q
row_of r command.NvWriteLock q = nv_write_lock_row r q
row_of r command.DictionaryAttackLockReset q = dictionary_attack_lock_reset_row r q
row_of r command.DictionaryAttackParameters q = dictionary_attack_parameters_row r q
row_of r command.NvChangeAuth q = nv_change_auth_row r q
row_of r command.PcrEvent q = pcr_event_row r q
row_of r command.PcrReset q = pcr_reset_row r q
row_of r command.IncrementalSelfTest q = incremental_self_test_row r q
row_of r command.SelfTest q = self_test_row r q
row_of r command.Startup q = startup_row r q
row_of r command.Shutdown q = shutdown_row r q
row_of r command.StirRandom q = stir_random_row r q
row_of r command.PolicyNv q = assertion_row command.PolicyNv r q
row_of r command.NvRead q = nv_read_row r q
row_of r command.NvReadLock q = nv_read_lock_row r q
row_of r command.PolicySecret q = assertion_row command.PolicySecret r q
row_of r command.Create q = create_row r q
row_of r command.Hmac q = hmac_row r q
row_of r command.Load q = load_row r q
row_of r command.Unseal q = unseal_row r q
row_of r command.FlushContext q = flush_context_row r q
row_of r command.NvReadPublic q = nv_read_public_row r q
row_of r command.PolicyAuthValue q = assertion_row command.PolicyAuthValue r q
row_of r command.PolicyCommandCode q = assertion_row command.PolicyCommandCode r q
row_of r command.PolicyCpHash q = assertion_row command.PolicyCpHash r q
row_of r command.PolicyNvWritten q = assertion_row command.PolicyNvWritten r q
row_of r command.PolicyLocality q = assertion_row command.PolicyLocality r q
row_of r command.PolicyOr q = assertion_row command.PolicyOr r q
row_of r command.ReadPublic q = read_public_row r q
row_of r command.StartAuthSession q = start_auth_session_row r q
row_of r command.GetCapability q = get_capability_row r q
row_of r command.GetRandom q = get_random_row r q
row_of r command.GetTestResult q = get_test_result_row r q
row_of r command.Hash q = hash_row r q
row_of r command.PcrRead q = pcr_read_row r q
row_of r command.PolicyPcr q = assertion_row command.PolicyPcr r q
row_of r command.PolicyRestart q = policy_restart_row r q
row_of r command.ReadClock q = read_clock_row r q
row_of r command.PcrExtend q = pcr_extend_row r q
row_of r command.PolicyGetDigest q = policy_get_digest_row r q
row_of r command.TestParms q = test_parms_row r q
row_of r command.PolicyPassword q = assertion_row command.PolicyPassword r q
