-- What the commands on NV indices have in common: how they are refused if authHandle may not read
-- or write an index, or if an index cannot be written or locked. TPM 2.0 Library, Part 3, section
-- 31 (non-volatile storage). The response codes and the order of the checks are choices of this
-- implementation.
use Rattle.tpm_types_common.specs.declared.action_check.ActionCheck.TheVariants as action
use Rattle.std.specs.Prelude.{not, Result, Ok}
use Rattle.tpm_bytes.specs.Reading.{◌>>=◌, refused_if}
use Rattle.tpm_types_common.specs.Rc.{at, plain}
use Rattle.tpm_types_common.specs.declared.handle.Handle.{Handle}
use Rattle.tpm_types_common.specs.declared.rc.Place.TheVariants as place
use Rattle.tpm_types_common.specs.declared.rc.ResponseCode.TheVariants as code
use Rattle.tpm_types_common.specs.declared.refused.Refused.{Refused}
use Rattle.tpm_nv.specs.Index.{NvContents}
use Rattle.tpm_nv.specs.declared.fault.LockFault.{LockFault}
use Rattle.tpm_nv.specs.declared.fault.LockFault.TheVariants as lock_fault
use Rattle.tpm_nv.specs.declared.fault.WriteFault.{WriteFault}
use Rattle.tpm_nv.specs.declared.fault.WriteFault.TheVariants as write_fault
use Rattle.tpm_record.specs.Record.{Record}
use Rattle.tpm_record.specs.rows.Answer.{nothing}
use Rattle.tpm_record.specs.rows.Refusals.{action_refusal, handle_refusal, or_refusal}
use Rattle.tpm_record.specs.rows.Request.{Request}
use Rattle.tpm_record.specs.rows.Rows.{Success}
use Rattle.tpm_record.specs.rows.Target.{may_read, may_write, target_of}
use Rattle.tpm_record.specs.declared.rows.target.Target.{Target}

-- check A1 of the commands that write, and of TPM2_NV_WriteLock: refuses an authHandle that may not
-- write the index
abbrev pub writer_passes : Target → Result (Unit {0}) Refused
writer_passes target =
    refused_if (not (may_write target)) (action_refusal action.First (plain code.NvAuthorization))

-- check A1 of TPM2_NV_ReadLock: refuses an authHandle that may not read the index
abbrev pub reader_passes : Target → Result (Unit {0}) Refused
reader_passes target =
    refused_if (not (may_read target)) (action_refusal action.First (plain code.NvAuthorization))

-- the refusal of a write after check A1: by A2 if the index is locked against writing; by A3 if its
-- type does not match the command. A4 refuses a write that extends past the end of the data, or
-- does not cover all of it although WRITEALL is set. A4 also refuses an increment if the new value
-- would exceed 2^64 - 1. At this point, the index always exists
abbrev pub writing_refusal : WriteFault → Refused
writing_refusal write_fault.Locked = action_refusal action.Second (plain code.NvLocked)
writing_refusal write_fault.Attributes =
    action_refusal action.Third (at (place.Handle 2) (plain code.Attributes))
writing_refusal write_fault.PastData = action_refusal action.Fourth (plain code.NvRange)
writing_refusal write_fault.Partial = action_refusal action.Fourth (plain code.NvRange)
writing_refusal write_fault.Exhausted = action_refusal action.Fourth (plain code.NvRange)
writing_refusal write_fault.Undefined = handle_refusal

-- the refusal of a lock after check A1: by A2 if no attribute of the index allows this kind of
-- lock. At this point, the index always exists
abbrev pub lock_refusal : LockFault → Refused
lock_refusal lock_fault.Attributes =
    action_refusal action.Second (at (place.Handle 2) (plain code.Attributes))
lock_refusal lock_fault.Undefined = handle_refusal

-- a successful command that changes only NV indices
abbrev pub changed_nv : Record → NvContents → Success
changed_nv r nv = record { answer = nothing; after = record r { nv = nv } }

-- the row of a command that changes an index as its parameters say: check A1 comes first, and then
-- the checks that belong to the change
abbrev pub write_row : {P : Type 0} → Record → Request → Result P Refused
    → (P → Handle → Result NvContents WriteFault) → Result Success Refused
write_row r q read change = do
  target ← target_of r q
  p ← read
  a1 ← writer_passes target
  nv ← or_refusal writing_refusal (change p target.handle)
  Ok (changed_nv r nv)
