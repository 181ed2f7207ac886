-- The NV index that a command acts on, the entity that authorizes the command, and whether this
-- entity may write or read the index. TPM 2.0 Library, Part 3, section 31 (non-volatile storage),
-- and Part 2, section 13.4 (TPMA_NV).
use Rattle.std.specs.Prelude.{◌==◌, not, Bool, Result, Ok, ok_or, if◌then◌else◌}
use Rattle.tpm_bytes.specs.Reading.{◌>>=◌, refused_if}
use Rattle.tpm_types_common.specs.Handle.{owner_handle, platform_handle}
use Rattle.tpm_types_common.specs.ActionFault.{plain_fault}
use Rattle.tpm_types_common.specs.declared.action_fault.ActionFault.{ActionFault}
use Rattle.tpm_types_common.specs.declared.action_check.ActionCheck.TheVariants as action
use Rattle.tpm_types_common.specs.declared.handle.Handle.{Handle}
use Rattle.tpm_types_common.specs.declared.rc.ResponseCode.TheVariants as code
use Rattle.tpm_types_common.specs.declared.refused.Refused.{Refused}
use Rattle.tpm_types_nv.specs.NvAttributes.{has}
use Rattle.tpm_types_nv.specs.declared.nv_attributes.NvAttribute.{NvAttribute}
use Rattle.tpm_types_nv.specs.declared.nv_attributes.NvAttribute.TheVariants as attribute
use Rattle.tpm_types_nv.specs.declared.nv_attributes.NvAttributes.{NvAttributes}
use Rattle.tpm_nv.specs.Index.{NvIndex, index_at}
use Rattle.tpm_record.specs.Record.{Record}
use Rattle.tpm_record.specs.rows.Refusals.{handle_refusal}
use Rattle.tpm_record.specs.rows.Request.{Request, first_handle, second_handle}
use Rattle.tpm_record.specs.declared.rows.target.Target.{Target}

-- the NV index with this handle, which exists because the general checks have found it
abbrev pub index_or_refusal : Record → Handle → Result NvIndex Refused
index_or_refusal r handle = ok_or (index_at r.nv handle) handle_refusal

-- the attributes of the NV index with this handle
abbrev pub attributes_of : Record → Handle → Result NvAttributes Refused
attributes_of r handle = do
  index ← index_or_refusal r handle
  Ok index.public.attributes

-- the target of a command: authHandle, nvIndex, and the attributes of that index
abbrev pub target_of : Record → Request → Result Target Refused
target_of r q = do
  auth_handle ← first_handle q.handles
  handle ← second_handle q.handles
  attributes ← attributes_of r handle
  Ok (record { auth_handle = auth_handle; handle = handle; attributes = attributes })

-- whether authHandle may use the index. The owner and the platform may use it if the index has the
-- attribute that allows this use; any other authHandle must be the index itself
abbrev pub may : (owner platform : NvAttribute) → Target → Bool
may owner platform target =
    if target.auth_handle.number == owner_handle.number then has target.attributes owner
    else (if target.auth_handle.number == platform_handle.number then has target.attributes platform
    else target.auth_handle.number == target.handle.number)

-- whether authHandle may write the index
abbrev pub may_write : Target → Bool
may_write target = may attribute.OwnerWrite attribute.PpWrite target

-- whether authHandle may read the index
abbrev pub may_read : Target → Bool
may_read target = may attribute.OwnerRead attribute.PpRead target

-- ---- the checks of a read of an index

-- the checks A1 to A3 of each command that reads an NV index (Part 3, sections 23.9 and 31.13). A1
-- refuses the command if authHandle may not read the index, A2 if the index is locked against
-- reading, and A3 if the index is not written
abbrev pub reading_passes : Target → Result (Unit {0}) ActionFault
reading_passes target = do
  a1 ← refused_if (not (may_read target)) (plain_fault action.First code.NvAuthorization)
  a2 ← refused_if (has target.attributes attribute.ReadLocked)
      (plain_fault action.Second code.NvLocked)
  refused_if (not (has target.attributes attribute.Written))
      (plain_fault action.Third code.NvUninitialized)
