-- TPM2_PolicyNV. TPM 2.0 Library, Part 3, section 23.9. The order of the checks is a choice of this
-- implementation.
use Rattle.std.specs.Prelude.{ℕ, List, length, Result, Ok}
use Rattle.std.specs.Int.{w16}
use Rattle.tpm_bytes.specs.Reading.{◌>>=◌, number_at, or_fault}
use Rattle.tpm_nv.specs.Access.{read_at}
use Rattle.tpm_policy.specs.Assertion.{Assertion, Nv, NvParts}
use Rattle.tpm_session.specs.declared.session.Session.{Session}
use Rattle.tpm_types_common.specs.ActionFault.{plain_fault}
use Rattle.tpm_types_common.specs.declared.action_fault.ActionFault.{ActionFault}
use Rattle.tpm_types_common.specs.Buffer.{buffer_at}
use Rattle.tpm_types_common.specs.Operation.{operation_at}
use Rattle.tpm_types_common.specs.Rc.{plain}
use Rattle.tpm_types_common.specs.declared.action_check.ActionCheck.TheVariants as action
use Rattle.tpm_types_common.specs.declared.operation.Operation.{Operation}
use Rattle.tpm_types_common.specs.declared.rc.ResponseCode.TheVariants as code
use Rattle.tpm_types_common.specs.declared.refused.Refused.{Refused}
use Rattle.tpm_record.specs.Entity.{name_of}
use Rattle.tpm_record.specs.Record.{Record}
use Rattle.tpm_record.specs.rows.Request.{Request}
use Rattle.tpm_record.specs.rows.Rows.{all_read, parameter}
use Rattle.tpm_record.specs.rows.Target.{reading_passes, target_of}
use Rattle.tpm_record.specs.declared.rows.target.Target.{Target}

-- the parameters operandB (at most 32 bytes), offset and operation
pub record Parameters : Type 0 where
  pub operand : List ℕ
  pub offset : ℕ
  pub operation : Operation

unfoldable pub nv_parameters : List ℕ → Result Parameters Refused
nv_parameters text = do
  operand ← parameter 1 (buffer_at 32 text)
  offset ← parameter 2 (or_fault (number_at w16 operand.1) (plain code.Insufficient))
  operation ← parameter 3 (operation_at offset.1)
  ended ← all_read operation.1
  Ok (record { operand = operand.0; offset = offset.0; operation = operation.0 })

-- the bytes that are compared with the operand: as many bytes as the operand has, from the offset
-- in the index's data. Refused by A1 to A3, the checks of every command that reads an index; by A4
-- if the bytes extend past the end of the data. Once checks A1 to A3 have passed, the read can fail
-- for no other reason (reading_laws of tpm_record)
abbrev pub compared : Record → Target → Parameters → Result (List ℕ) ActionFault
compared r target p = do
  readable ← reading_passes target
  or_fault (read_at r.nv target.handle p.offset (length p.operand))
      (plain_fault action.Fourth code.NvRange)

-- the data of the assertion on an index, which is identified by its Name
abbrev pub nv_parts_of : Record → Target → Parameters → NvParts
nv_parts_of r target p = record {
  name = name_of r target.handle;
  operand = p.operand;
  offset = p.offset;
  operation = p.operation;
  compared = compared r target p;
}

-- the assertion of TPM2_PolicyNV. Handles: authHandle, nvIndex and policySession. The checks A1 to
-- A5 are part of the assertion, and are skipped in a trial session. Refused by check A1 if
-- authHandle may not read the index; by A2 if the index is locked; by A3 if it is not written; by
-- A4 if the bytes extend past the end of its data; by A5 if the comparison with the operand does
-- not hold
abbrev pub nv_assertion : Record → Request → Result (Session → Assertion) Refused
nv_assertion r q = do
  target ← target_of r q
  p ← nv_parameters q.parameters
  Ok (λ s. Nv (nv_parts_of r target p))
