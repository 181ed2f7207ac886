-- TPM2_GetRandom. TPM 2.0 Library, Part 3, section 16.1.
use Rattle.std.specs.Prelude.{ℕ, List, take, min, None, Result, Ok}
use Rattle.std.specs.Int.{w16}
use Rattle.tpm_bytes.specs.Reading.{◌>>=◌, number_at, or_fault}
use Rattle.tpm_types_common.specs.declared.rc.ResponseCode.TheVariants as code
use Rattle.tpm_types_common.specs.Rc.{plain}
use Rattle.tpm_record.specs.Record.{Record}
use Rattle.tpm_types_common.specs.declared.refused.Refused.{Refused}
use Rattle.tpm_record.specs.rows.Answer.{AnswerParts, Sized}
use Rattle.tpm_record.specs.rows.Request.{Request}
use Rattle.tpm_record.specs.rows.Rows.{Success, only, unchanged_success}

-- an answer that contains the first `count` of the event's random bytes, as a sized buffer
abbrev pub random_answer : ℕ → List ℕ → AnswerParts
random_answer count random =
    record { handle = None; body = Sized (take count random); drawn = count }

-- the row of TPM2_GetRandom. Parameter: bytesRequested. Answer: as many of the event's first random
-- bytes as are requested, but at most 32
unfoldable pub get_random_row : Record → Request → Result Success Refused
get_random_row r q = do
  requested ← only (or_fault (number_at w16 q.parameters) (plain code.Insufficient))
  Ok (unchanged_success r (random_answer (min requested 32) q.random))
