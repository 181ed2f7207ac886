-- Authorization values, computed from the history alone. TPM 2.0 Library, Part 1, section 19.6.4,
-- and Part 3, sections 9.3, 12.2, 24.1, 24.6, 24.8, 28.3, 28.5, 31.3 and 31.15 (the commands that
-- set an authorization value).
use Rattle.std.specs.Prelude.{ℕ, List, [], ◌∷◌, Option, Result, Ok, Err, ok_or}
use Rattle.tpm_bytes.specs.Reading.{◌>>=◌}
use Rattle.tpm_types_common.specs.AuthValue.{auth_value_at, trimmed}
use Rattle.tpm_types_common.specs.Handle.{endorsement_handle, lockout_handle, owner_handle, platform_handle}
use Rattle.tpm_types_common.specs.PersistentHandle.{persistent_handle_at}
use Rattle.tpm_types_common.specs.StartupType.{startup_type_at}
use Rattle.tpm_types_common.specs.declared.handle.Handle.{Handle}
use Rattle.tpm_types_common.specs.declared.refused.Refused.{Refused}
use Rattle.tpm_types_common.specs.declared.startup_type.StartupType.{StartupType}
use Rattle.tpm_types_common.specs.declared.startup_type.StartupType.TheVariants as type
use Rattle.tpm_commands.specs.declared.command_code.CommandCode.{CommandCode}
use Rattle.tpm_commands.specs.declared.command_code.CommandCode.TheVariants as command
use Rattle.tpm_types_object.specs.declared.sensitive.Sensitive.{Sensitive}
use Rattle.tpm_record.specs.rows.Refusals.{handle_refusal}
use Rattle.tpm_record.specs.rows.Request.{Request, first_handle, second_handle}
use Rattle.tpm_record.specs.rows.Rows.{only}
use Rattle.tpm_actions_object.specs.Creation as creation
use Rattle.tpm_nvactions.specs.NvDefineSpace as definition
use Rattle.tpm_step.specs.history.HandleMap.{with_at}
use Rattle.tpm_step.specs.history.History.{Done, History, ObjectPlaced, PowerCycled}

-- an authorization value for each handle
abbrev pub AuthValues : Type 0
AuthValues = Handle → List ℕ

-- ---- the value that a command sets, and its handle

-- newAuth, without trailing zeros, becomes the authorization value of the handle that
-- TPM2_HierarchyChangeAuth or TPM2_NV_ChangeAuth names.
abbrev pub changed_value : Request → Result (Handle × List ℕ) Refused
changed_value q = do
  handle ← first_handle q.handles
  value ← only (auth_value_at q.parameters)
  Ok (handle, value)

-- auth, without trailing zeros, becomes the authorization value of the index that
-- TPM2_NV_DefineSpace defines.
abbrev pub defined_value : Request → Result (Handle × List ℕ) Refused
defined_value q = do
  p ← definition.parameters_in q.parameters
  Ok (p.public.nv_index, p.auth_value)

-- userAuth, without trailing zeros, becomes the authorization value of the handle that
-- TPM2_CreatePrimary returns.
abbrev pub created_value : Request → (made : Option Handle) → Result (Handle × List ℕ) Refused
created_value q made = do
  handle ← ok_or made handle_refusal
  p ← creation.parameters_in q.parameters
  Ok (handle, trimmed p.given.user_auth)

-- The authorization value in the sensitive area, without trailing zeros, becomes the authorization
-- value of the handle that TPM2_Load returns.
abbrev pub loaded_value : Option Sensitive → (made : Option Handle)
    → Result (Handle × List ℕ) Refused
loaded_value area made = do
  handle ← ok_or made handle_refusal
  sensitive ← ok_or area handle_refusal
  Ok (handle, trimmed sensitive.auth_value)

-- TPM2_EvictControl copies the authorization value of objectHandle to persistentHandle. If it
-- removes a persistent object, both handles are the same, and nothing changes.
abbrev pub copied_value : Request → AuthValues → Result (Handle × List ℕ) Refused
copied_value q values = do
  handle ← second_handle q.handles
  wanted ← only (persistent_handle_at q.parameters)
  Ok (wanted, values handle)

abbrev pub with_value : Result (Handle × List ℕ) Refused → AuthValues → AuthValues
with_value (Ok set) values = with_at set.0 set.1 values
with_value (Err e) values = values

-- the authorization values after TPM2_Startup; with CLEAR, platformAuth becomes empty
abbrev pub started_values : Result StartupType Refused → AuthValues → AuthValues
started_values (Ok type.Clear) values = with_at platform_handle [] values
started_values (Ok type.State) values = values
started_values (Err e) values = values

-- the authorization values after TPM2_Clear, which makes ownerAuth, endorsementAuth and lockoutAuth
-- empty
abbrev pub cleared_values : AuthValues → AuthValues
cleared_values values =
    with_at owner_handle [] (with_at endorsement_handle [] (with_at lockout_handle [] values))

-- ---- the values after a history

-- the authorization values after an accepted command, given its request, the handle that it
-- returned, and the sensitive area that it loaded. A command that removes an object or an index
-- does not change the value at its handle. The handle then names no entity, and the next entity
-- with this handle gets a value of its own
abbrev pub values_by : CommandCode → Request → (made : Option Handle) → Option Sensitive
    → AuthValues → AuthValues
values_by command.HierarchyChangeAuth request made area values =
    with_value (changed_value request) values
values_by command.NvChangeAuth request made area values = with_value (changed_value request) values
values_by command.NvDefineSpace request made area values = with_value (defined_value request) values
values_by command.CreatePrimary request made area values =
    with_value (created_value request made) values
values_by command.Load request made area values = with_value (loaded_value area made) values
values_by command.EvictControl request made area values =
    with_value (copied_value request values) values
values_by command.Startup request made area values =
    started_values (only (startup_type_at request.parameters)) values
values_by command.Clear request made area values = cleared_values values
values_by _ request made area values = values

-- the authorization value of each handle after a history. At first all values are empty, and a
-- power cycle changes none of them. An object from a saved context has its own value, without
-- trailing zeros
abbrev pub auth_of : History → AuthValues
auth_of [] handle = []
auth_of (Done c ∷ history) handle =
    values_by c.command.code c.request c.answer.handle c.sensitive (auth_of history) handle
auth_of (PowerCycled ∷ history) handle = auth_of history handle
auth_of (ObjectPlaced at object ∷ history) handle =
    with_at at (trimmed object.auth_value) (auth_of history) handle
