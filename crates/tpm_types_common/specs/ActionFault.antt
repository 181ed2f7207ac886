-- The refusal of a command by one of its own checks. TPM 2.0 Library, Part 3: the response codes
-- of each command.
use Rattle.std.specs.Prelude.{ℕ}
use Rattle.tpm_types_common.specs.declared.action_check.ActionCheck.{ActionCheck}
use Rattle.tpm_types_common.specs.declared.action_fault.ActionFault.{ActionFault}
use Rattle.tpm_types_common.specs.declared.rc.Place.TheVariants as place
use Rattle.tpm_types_common.specs.declared.rc.ResponseCode.{ResponseCode}
use Rattle.tpm_types_common.specs.Rc.{at, plain}

-- a fault whose response code names no handle, parameter or session
abbrev pub plain_fault : ActionCheck → ResponseCode → ActionFault
plain_fault check code = record { check = check; rc = plain code }

-- a fault in the parameter with this number
abbrev pub parameter_fault : ActionCheck → (parameter : ℕ) → ResponseCode → ActionFault
parameter_fault check parameter code =
    record { check = check; rc = at (place.Parameter parameter) (plain code) }
