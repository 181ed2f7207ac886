-- The refusals that rows use, except those of parameters, which are defined in Rows. TPM 2.0
-- Library, Part 3: the response codes of each command.
use Rattle.std.specs.Prelude.{ℕ, Result, Ok, Err}
use Rattle.tpm_types_common.specs.declared.action_check.ActionCheck.{ActionCheck}
use Rattle.tpm_types_common.specs.declared.action_fault.ActionFault.{ActionFault}
use Rattle.tpm_types_common.specs.Rc.{at, plain}
use Rattle.tpm_types_common.specs.Refused.{refusal}
use Rattle.tpm_types_common.specs.declared.check.Check.TheVariants as check
use Rattle.tpm_types_common.specs.declared.rc.Place.TheVariants as place
use Rattle.tpm_types_common.specs.declared.rc.Rc.{Rc}
use Rattle.tpm_types_common.specs.declared.rc.ResponseCode.{ResponseCode}
use Rattle.tpm_types_common.specs.declared.rc.ResponseCode.TheVariants as code
use Rattle.tpm_types_common.specs.declared.refused.Refused.{Refused}

-- the refusal if a handle names no entity. It never occurs, because the general checks have found
-- an entity (later_handle_laws of tpm_step)
abbrev pub handle_refusal : Refused
handle_refusal = refusal check.Handles (plain code.Failure)

-- the refusal by one of the command's own checks, of which A1 is the first
abbrev pub action_refusal : ActionCheck → Rc → Refused
action_refusal action rc = refusal (check.Action action) rc

-- the refusal of a parameter by one of the command's own checks
abbrev pub parameter_refusal : ActionCheck → (parameter : ℕ) → ResponseCode → Refused
parameter_refusal action parameter fault = action_refusal action (at (place.Parameter parameter) (plain fault))

-- the refusal for a fault that one of the command's own checks found
abbrev pub fault_refusal : ActionFault → Refused
fault_refusal fault = action_refusal fault.check fault.rc

-- the refusal by check M, because memory ran out
abbrev pub memory_refusal : Refused
memory_refusal = refusal check.Memory (plain code.Memory)

-- the result of a call to a part of the device, whose fault becomes the command's refusal
abbrev pub or_refusal : {X F : Type 0} → (F → Refused) → Result X F → Result X Refused
or_refusal refusal (Ok x) = Ok x
or_refusal refusal (Err fault) = Err (refusal fault)
