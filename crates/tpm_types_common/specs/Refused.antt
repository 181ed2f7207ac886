-- Refusals by any part of the device.
use Rattle.std.specs.Prelude.{Result, Ok, Err}
use Rattle.tpm_types_common.specs.declared.rc.Rc.{Rc}
use Rattle.tpm_types_common.specs.declared.check.Check.{Check}
use Rattle.tpm_types_common.specs.declared.refused.Counted.TheVariants as counted
use Rattle.tpm_types_common.specs.declared.refused.Refused.{Refused}

-- the refusal by this check with this response code, which neither counts as a failed try nor
-- disables lockoutAuth
abbrev pub refusal : Check → Rc → Refused
refusal check rc = record { rc = rc; check = check; counted = counted.None }

-- the result of a read or of an entry's checks, with any fault turned into a refusal by this check
abbrev pub checked_result : {X : Type 0} → Check → Result X Rc → Result X Refused
checked_result check (Ok x) = Ok x
checked_result check (Err rc) = Err (refusal check rc)
