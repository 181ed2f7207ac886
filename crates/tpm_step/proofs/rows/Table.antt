-- The row of every command satisfies the laws about rows. Therefore each law holds for all
-- commands.
use Rattle.std.proofs.Common.{◌≡◌, ◌≤◌, IfOk, false, length, true}
use Rattle.tpm_types_common.specs.declared.check.Check.TheVariants as check
use Rattle.tpm_commands.specs.CommandCode.{part_of, shape_of}
use Rattle.tpm_commands.specs.declared.command_code.CommandCode.{CommandCode}
use Rattle.tpm_commands.specs.declared.command_code.CommandCode.TheVariants as command
use Rattle.tpm_record.specs.Record.{Record}
use Rattle.tpm_record.specs.rows.Request.{Request}
use Rattle.tpm_record.specs.rows.Rows.{Success}
use Rattle.tpm_row_secrecy.specs.Alike.{Same}
use Rattle.tpm_row_secrecy.specs.Reads.{reads_secret}
use Rattle.tpm_row_secrecy.specs.Secrecy.{CoversKeys, Secrecy, without_secrets}
use Rattle.tpm_step.specs.step.General.{is_startup}
use Rattle.tpm_step.specs.step.Table.{row_of}
use Rattle.tpm_step.specs.rows.Draws.{draws_of}
use Rattle.tpm_step.specs.rows.Footprint.{Touches}
use Rattle.tpm_step.specs.rows.Handles.{HandlesFit}
use Rattle.tpm_step.specs.rows.IndexChanges.{ChangesIndices}
use Rattle.tpm_step.specs.rows.Order.{Plain}
use Rattle.tpm_step.specs.rows.Refusals.{Passes}
use Rattle.tpm_step.specs.rows.RowLaws.{RowLaws, SuccessLaws}
use Rattle.tpm_step.specs.rows.Sessions.{SessionsStay}
use Rattle.tpm_step.specs.rows.Shapes.{AnswersItsShape, GrowsAsShaped, ReadsParameters, parameters_check}
use Rattle.tpm_step.specs.rows.Sizes.{AreSized}
use Rattle.tpm_step.proofs.rows.Binding.{ok_weaker}
use Rattle.tpm_step.proofs.rows.CapabilityRows as capability
use Rattle.tpm_step.proofs.rows.DeviceRows as device
use Rattle.tpm_step.proofs.rows.IndexRows as nv
use Rattle.tpm_step.proofs.rows.ObjectRows as object
use Rattle.tpm_step.proofs.rows.Order.{in_order_passes, in_order_reads, in_order_wants}
use Rattle.tpm_step.proofs.rows.Order.{spelled_faults}
use Rattle.tpm_step.proofs.rows.Parts.{leaves_sessions, touched_same}
use Rattle.tpm_step.proofs.rows.PolicyRows as policy

-- the row of each command satisfies the laws about rows
pub laws_of : (c : CommandCode) → RowLaws c (λ r q. row_of r c q)
unfolding row_of
laws_of command.EvictControl = object.evict_control_laws
laws_of command.NvUndefineSpace = nv.nv_undefine_space_laws
laws_of command.Clear = device.clear_laws
laws_of command.ClearControl = device.clear_control_laws
laws_of command.ClockSet = device.clock_set_laws
laws_of command.ClockRateAdjust = device.clock_rate_adjust_laws
laws_of command.HierarchyChangeAuth = device.hierarchy_change_auth_laws
laws_of command.NvDefineSpace = nv.nv_define_space_laws
laws_of command.CreatePrimary = object.create_primary_laws
laws_of command.NvIncrement = nv.nv_increment_laws
laws_of command.NvSetBits = nv.nv_set_bits_laws
laws_of command.NvExtend = nv.nv_extend_laws
laws_of command.NvWrite = nv.nv_write_laws
laws_of command.NvWriteLock = nv.nv_write_lock_laws
laws_of command.DictionaryAttackLockReset = device.dictionary_attack_lock_reset_laws
laws_of command.DictionaryAttackParameters = device.dictionary_attack_parameters_laws
laws_of command.NvChangeAuth = nv.nv_change_auth_laws
laws_of command.PcrEvent = device.pcr_event_laws
laws_of command.PcrReset = device.pcr_reset_laws
laws_of command.IncrementalSelfTest = device.incremental_self_test_laws
laws_of command.SelfTest = device.self_test_laws
laws_of command.Startup = device.startup_laws
laws_of command.Shutdown = device.shutdown_laws
laws_of command.StirRandom = device.stir_random_laws
laws_of command.PolicyNv = policy.policy_nv_laws
laws_of command.NvRead = nv.nv_read_laws
laws_of command.NvReadLock = nv.nv_read_lock_laws
laws_of command.PolicySecret = policy.policy_secret_laws
laws_of command.Create = object.create_laws
laws_of command.Hmac = object.hmac_laws
laws_of command.Load = object.load_laws
laws_of command.Unseal = object.unseal_laws
laws_of command.FlushContext = device.flush_context_laws
laws_of command.NvReadPublic = nv.nv_read_public_laws
laws_of command.PolicyAuthValue = policy.policy_auth_value_laws
laws_of command.PolicyCommandCode = policy.policy_command_code_laws
laws_of command.PolicyCpHash = policy.policy_cp_hash_laws
laws_of command.PolicyNvWritten = policy.policy_nv_written_laws
laws_of command.PolicyLocality = policy.policy_locality_laws
laws_of command.PolicyOr = policy.policy_or_laws
laws_of command.ReadPublic = object.read_public_laws
laws_of command.StartAuthSession = device.start_auth_session_laws
laws_of command.GetCapability = capability.get_capability_laws
laws_of command.GetRandom = device.get_random_laws
laws_of command.GetTestResult = device.get_test_result_laws
laws_of command.Hash = device.hash_laws
laws_of command.PcrRead = device.pcr_read_laws
laws_of command.PolicyPcr = policy.policy_pcr_laws
laws_of command.PolicyRestart = policy.policy_restart_laws
laws_of command.ReadClock = device.read_clock_laws
laws_of command.PcrExtend = device.pcr_extend_laws
laws_of command.PolicyGetDigest = policy.policy_get_digest_laws
laws_of command.TestParms = device.test_parms_laws
laws_of command.PolicyPassword = policy.policy_password_laws

-- ---- the laws of each success

pub of_success : (P : Success → Type 0) (r : Record) (c : CommandCode) (q : Request)
    → ((s : Success) → SuccessLaws c r q s → P s) → IfOk (row_of r c q) P
of_success P r c q law = ok_weaker (SuccessLaws c r q) P (row_of r c q) ((laws_of c).success r q)
    law

pub row_touches : (r : Record) (c : CommandCode) (q : Request)
    → IfOk (row_of r c q) (λ s. Touches (part_of c) r s.after)
row_touches r c q = of_success _ r c q (λ s laws. laws.touches)

-- each success changes the NV indices only as `ChangesIndices` allows for its command
pub row_changes : (r : Record) (c : CommandCode) (q : Request)
    → IfOk (row_of r c q) (λ s. ChangesIndices (part_of c) q r.nv s.after.nv)
row_changes r c q = of_success _ r c q (λ s laws. laws.changes)

pub row_grows : (r : Record) (c : CommandCode) (q : Request)
    → IfOk (row_of r c q) (λ s. GrowsAsShaped c r s.after)
row_grows r c q = of_success _ r c q (λ s laws. laws.grows)

pub row_answers : (r : Record) (c : CommandCode) (q : Request)
    → IfOk (row_of r c q) (AnswersItsShape c)
row_answers r c q = of_success _ r c q (λ s laws. laws.answers)

pub row_draws : (r : Record) (c : CommandCode) (q : Request)
    → IfOk (row_of r c q) (λ s. s.answer.drawn ≤ 96)
row_draws r c q = of_success _ r c q (λ s laws. laws.draws.0)

pub row_draws_so : (r : Record) (c : CommandCode) (q : Request) → is_startup c ≡ false
    → IfOk (row_of r c q) (λ s. s.answer.drawn ≡ draws_of c q)
row_draws_so r c q apart = of_success _ r c q (λ s laws. laws.draws.1 apart)

pub row_stays : (r : Record) (c : CommandCode) (q : Request) → (shape_of c).forbids_sessions ≡ false
    → IfOk (row_of r c q) (λ s. SessionsStay r s.after)
row_stays r c q may = of_success _ r c q (λ s laws. laws.stays may)

pub row_sized : (r : Record) (c : CommandCode) (q : Request) → 32 ≤ length q.random → AreSized r
    → IfOk (row_of r c q) (λ s. AreSized s.after)
row_sized r c q enough sized = of_success _ r c q (λ s laws. laws.sized enough sized)

-- a success leaves the sessions unchanged, if the part that its command changes contains no session
pub row_same : (r : Record) (c : CommandCode) (q : Request) → leaves_sessions (part_of c) ≡ true
    → IfOk (row_of r c q) (λ s. s.after.sessions ≡ r.sessions)
row_same r c q leaves =
    of_success _ r c q (λ s laws. touched_same (part_of c) r s.after leaves laws.touches)

-- ---- how each row refuses

pub row_plain : (r : Record) (c : CommandCode) (q : Request) → Plain (row_of r c q)
row_plain r c q = (laws_of c).plain r q

pub row_reads : (r : Record) (c : CommandCode) (q : Request)
    → ReadsParameters (parameters_check 1 (shape_of c).parameters q.parameters) (row_of r c q)
row_reads r c q = in_order_reads _ _ _ ((laws_of c).order r q).order

pub row_passes : (r : Record) (c : CommandCode) (q : Request)
    → HandlesFit r (shape_of c).handles q.handles → Passes check.Handles (row_of r c q)
row_passes r c q fit =
    in_order_passes _ _ _ (spelled_faults 1 (shape_of c).parameters q.parameters)
    ((laws_of c).order r q).order fit

pub row_wants : (r : Record) (c : CommandCode) (q : Request) → Passes check.Memory (row_of r c q)
row_wants r c q =
    in_order_wants _ _ _ (spelled_faults 1 (shape_of c).parameters q.parameters)
    ((laws_of c).order r q).order

-- ---- what each row reveals

pub row_tells : (s : Secrecy) → CoversKeys s → (r : Record) (c : CommandCode) (q : Request)
    → reads_secret s r c q ≡ false → Same s (row_of (without_secrets s r) c q) (row_of r c q)
row_tells s covers r c q free = (laws_of c).tells s covers r q free
