-- TPM2_ClockRateAdjust. TPM 2.0 Library, Part 3, section 29.3, and Part 2, section 6.7
-- (TPM_CLOCK_ADJUST).
use Rattle.tpm_types_common.specs.declared.action_check.ActionCheck.TheVariants as action
use Rattle.std.specs.Prelude.{ℕ, ◌&&◌, nat_lt, Bool, Result, Ok}
use Rattle.std.specs.Int.{w8}
use Rattle.tpm_bytes.specs.Reading.{◌>>=◌, number_at, or_fault, refused_if}
use Rattle.tpm_types_common.specs.Rc.{at, plain}
use Rattle.tpm_types_common.specs.declared.rc.Place.TheVariants as place
use Rattle.tpm_types_common.specs.declared.rc.ResponseCode.TheVariants as code
use Rattle.tpm_types_common.specs.declared.refused.Refused.{Refused}
use Rattle.tpm_record.specs.Record.{Record}
use Rattle.tpm_record.specs.rows.Answer.{nothing}
use Rattle.tpm_record.specs.rows.Refusals.{action_refusal}
use Rattle.tpm_record.specs.rows.Request.{Request}
use Rattle.tpm_record.specs.rows.Rows.{Success, only, unchanged_success}

-- whether a byte, as a signed number, is outside the adjustments, which are from -3 (FD) to 3
abbrev pub is_no_adjustment : ℕ → Bool
is_no_adjustment rate = nat_lt 3 rate && nat_lt rate 0xfd

-- the row of TPM2_ClockRateAdjust. Handle: auth (the owner or the platform), with authorization.
-- Parameter: rateAdjust. Refused by check A1 if it is no adjustment. The host's clock determines the
-- rate, so the command does nothing
unfoldable pub clock_rate_adjust_row : Record → Request → Result Success Refused
clock_rate_adjust_row r q = do
  rate ← only (or_fault (number_at w8 q.parameters) (plain code.Insufficient))
  a1 ← refused_if (is_no_adjustment rate)
      (action_refusal action.First (at (place.Parameter 1) (plain code.Value)))
  Ok (unchanged_success r nothing)
