-- TPM2_NV_DefineSpace. TPM 2.0 Library, Part 3, section 31.3.
use Rattle.tpm_types_common.specs.declared.action_check.ActionCheck.TheVariants as action
use Rattle.std.specs.Prelude.{ℕ, ◌==◌, not, List, length, is_some, Result, Ok}
use Rattle.tpm_bytes.specs.Reading.{◌>>=◌, refused_if}
use Rattle.tpm_types_common.specs.AuthValue.{auth_value_at}
use Rattle.tpm_types_common.specs.Handle.{platform_handle}
use Rattle.tpm_types_common.specs.Rc.{plain}
use Rattle.tpm_types_common.specs.declared.rc.ResponseCode.TheVariants as code
use Rattle.tpm_types_common.specs.declared.refused.Refused.{Refused}
use Rattle.tpm_types_nv.specs.NvPublic.{nv_public_at}
use Rattle.tpm_types_nv.specs.declared.nv_public.NvPublic.{NvPublic}
use Rattle.tpm_types_common.specs.Filled.{filled_by}
use Rattle.tpm_nv.specs.Definition.{defined_index, definition_passes}
use Rattle.tpm_nv.specs.Index.{has_room, index_at, with_index}
use Rattle.tpm_nv.specs.declared.definition.DefinitionFault.{DefinitionFault}
use Rattle.tpm_nv.specs.declared.definition.DefinitionFault.TheVariants as fault
use Rattle.tpm_record.specs.Record.{Record}
use Rattle.tpm_record.specs.rows.Refusals.{action_refusal, or_refusal, parameter_refusal}
use Rattle.tpm_record.specs.rows.Request.{Request, first_handle}
use Rattle.tpm_record.specs.rows.Rows.{Success, all_read, parameter}
use Rattle.tpm_nvactions.specs.declared.nv_define_space.DefinitionParameters.{DefinitionParameters}
use Rattle.tpm_nvactions.specs.Access.{changed_nv}

-- the parameters auth (at most 32 bytes, without its trailing zeros) and publicInfo
pub record Parameters : Type 0 where
  pub auth_value : List ℕ
  pub public : NvPublic

unfoldable pub parameters_in : List ℕ → Result Parameters Refused
parameters_in text = do
  auth_value ← parameter 1 (auth_value_at text)
  public ← parameter 2 (filled_by nv_public_at auth_value.1)
  ended ← all_read public.1
  Ok (record { auth_value = auth_value.0; public = public.0 })

abbrev pub parameters_of : DefinitionParameters → Parameters
parameters_of asked = record { auth_value = asked.auth_value; public = asked.public }

-- the refusals of a definition by checks A1 to A4
abbrev pub definition_refusal : DefinitionFault → Refused
definition_refusal fault.AuthValueSize = parameter_refusal action.First 1 code.Size
definition_refusal fault.AuthPolicySize = parameter_refusal action.Second 2 code.Size
definition_refusal fault.Attributes = parameter_refusal action.Third 2 code.Attributes
definition_refusal fault.DataSize = parameter_refusal action.Fourth 2 code.Size

-- the row of TPM2_NV_DefineSpace. Handle: authHandle (the owner or the platform), with
-- authorization. Refused by check A1 if auth is longer than a digest of nameAlg; by A2 if
-- authPolicy is neither empty nor as long as a digest; by A3 if the attributes are not allowed; by
-- A4 if the type does not allow the size; by A5 if the index already exists; by A6 if no further
-- index can be stored
unfoldable pub nv_define_space_row : Record → Request → Result Success Refused
nv_define_space_row r q = do
  auth_handle ← first_handle q.handles
  p ← parameters_in q.parameters
  passed ← or_refusal definition_refusal (definition_passes
      (auth_handle.number == platform_handle.number) p.public (length p.auth_value))
  a5 ← refused_if (is_some (index_at r.nv p.public.nv_index))
      (action_refusal action.Fifth (plain code.NvDefined))
  a6 ← refused_if (not (has_room r.nv p.public.data_size)) (action_refusal action.Sixth (plain code.NvSpace))
  Ok (changed_nv r (with_index r.nv p.public.nv_index (defined_index p.public p.auth_value)))
