-- The common part of the commands that change a PCR. With TPM_RH_NULL instead of a PCR, these
-- commands neither check nor change any PCR.
use Rattle.tpm_types_common.specs.declared.action_check.ActionCheck.TheVariants as action
use Rattle.std.specs.Prelude.{ℕ, Option, Some, None, Result, Ok, Err}
use Rattle.tpm_pcr.specs.Values.{BankValues}
use Rattle.tpm_pcr.specs.declared.changes.ChangeFault.{ChangeFault}
use Rattle.tpm_pcr.specs.declared.changes.ChangeFault.TheVariants.{Locality, Failure}
use Rattle.tpm_types_common.specs.declared.rc.ResponseCode.TheVariants as code
use Rattle.tpm_types_common.specs.Rc.{plain}
use Rattle.tpm_record.specs.Record.{Record}
use Rattle.tpm_types_common.specs.declared.refused.Refused.{Refused}
use Rattle.tpm_record.specs.rows.Refusals.{action_refusal}

-- the refusal of a command that changes a PCR: by check A1 if the PCR does not allow this change
-- from this locality; by A2 if the PCR update counter would exceed its maximum
abbrev pub change_refusal : ChangeFault → Refused
change_refusal Locality = action_refusal action.First (plain code.Locality)
change_refusal Failure = action_refusal action.Second (plain code.Failure)

abbrev pub change_row : {X : Type 0} → Result X ChangeFault → Result X Refused
change_row (Ok banks) = Ok banks
change_row (Err fault) = Err (change_refusal fault)

abbrev pub on_pcr : Option ℕ → (ℕ → BankValues → Result BankValues ChangeFault)
    → BankValues → Result BankValues Refused
on_pcr None change banks = Ok banks
on_pcr (Some pcr) change banks = change_row (change pcr banks)

-- the record with its banks replaced
abbrev pub with_banks : Record → BankValues → Record
with_banks r banks = record r { fixed = record r.fixed { banks = banks } }
