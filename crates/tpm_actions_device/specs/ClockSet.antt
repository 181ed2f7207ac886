-- TPM2_ClockSet. TPM 2.0 Library, Part 3, section 29.2.
use Rattle.tpm_types_common.specs.declared.action_check.ActionCheck.TheVariants as action
use Rattle.std.specs.Prelude.{ℕ, ◌||◌, nat_lt, Result, Ok}
use Rattle.std.specs.Int.{w64}
use Rattle.tpm_bytes.specs.Reading.{◌>>=◌, number_at, or_fault, refused_if}
use Rattle.tpm_types_common.specs.Rc.{at, plain}
use Rattle.tpm_types_common.specs.declared.rc.Place.TheVariants as place
use Rattle.tpm_types_common.specs.declared.rc.ResponseCode.TheVariants as code
use Rattle.tpm_types_common.specs.declared.refused.Refused.{Refused}
use Rattle.tpm_record.specs.Record.{Record}
use Rattle.tpm_record.specs.rows.Answer.{nothing}
use Rattle.tpm_record.specs.rows.Refusals.{action_refusal}
use Rattle.tpm_record.specs.rows.Request.{Request}
use Rattle.tpm_record.specs.rows.Rows.{Success, only}

-- the largest value, in milliseconds, to which the command sets Clock
abbrev pub clock_limit : ℕ
clock_limit = 0xffff_0000_0000_0000

-- the record with this value of Clock
abbrev pub with_clock : Record → ℕ → Record
with_clock r clock = record r { fixed = record r.fixed { clock = clock } }

-- the row of TPM2_ClockSet. Handle: auth (the owner or the platform), with authorization.
-- Parameter: newTime. Refused by check A1 if Clock would go back, or would exceed the limit
unfoldable pub clock_set_row : Record → Request → Result Success Refused
clock_set_row r q = do
  clock ← only (or_fault (number_at w64 q.parameters) (plain code.Insufficient))
  a1 ← refused_if (nat_lt clock r.fixed.clock || nat_lt clock_limit clock)
      (action_refusal action.First (at (place.Parameter 1) (plain code.Value)))
  Ok (record { answer = nothing; after = with_clock r clock })
