-- TPM2_ReadClock. TPM 2.0 Library, Part 3, section 29.1, and Part 2, sections 10.11.1
-- (TPMS_CLOCK_INFO) and 10.11.6 (TPMS_TIME_INFO).
use Rattle.std.specs.Prelude.{ℕ, ◌++◌, List, [], ◌∷◌, Result, Ok}
use Rattle.std.specs.Int.{w32, w64, to_be_bytes}
use Rattle.tpm_bytes.specs.Reading.{◌>>=◌}
use Rattle.tpm_types_common.specs.declared.refused.Refused.{Refused}
use Rattle.tpm_record.specs.Record.{Record}
use Rattle.tpm_record.specs.declared.fixed.Fixed.{Fixed}
use Rattle.tpm_record.specs.rows.Answer.{Plain, answer_of}
use Rattle.tpm_record.specs.rows.Request.{Request}
use Rattle.tpm_record.specs.rows.Rows.{Success, all_read, unchanged_success}

-- the answer of TPM2_ReadClock: Time; Clock; the numbers of resets and restarts; and the field
-- safe, which is always yes because Clock never goes back
abbrev pub time_text : Fixed → List ℕ
time_text f =
    to_be_bytes w64 f.time
    ++ to_be_bytes w64 f.clock
    ++ to_be_bytes w32 f.reset_count
    ++ to_be_bytes w32 f.restart_count
    ++ 1 ∷ []

-- the row of TPM2_ReadClock. Parameters: none. Answer: Time and the clock's values
unfoldable pub read_clock_row : Record → Request → Result Success Refused
read_clock_row r q = do
  ended ← all_read q.parameters
  Ok (unchanged_success r (answer_of (Plain (time_text r.fixed))))
