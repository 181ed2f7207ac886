-- TPM2_TestParms. TPM 2.0 Library, Part 3, section 30.3, and Part 2, section 12.2.3.8
-- (TPMT_PUBLIC_PARMS).
use Rattle.std.specs.Prelude.{ℕ, List, Result, Ok}
use Rattle.tpm_bytes.specs.Reading.{◌>>=◌}
use Rattle.tpm_types_common.specs.declared.rc.Rc.{Rc}
use Rattle.tpm_types_common.specs.declared.refused.Refused.{Refused}
use Rattle.tpm_types_object.specs.Public.{object_type_at, parameters_at}
use Rattle.tpm_types_object.specs.declared.public.PublicParameters.{PublicParameters}
use Rattle.tpm_record.specs.Record.{Record}
use Rattle.tpm_record.specs.rows.Answer.{nothing}
use Rattle.tpm_record.specs.rows.Request.{Request}
use Rattle.tpm_record.specs.rows.Rows.{Success, only, unchanged_success}

-- the type of an object and the parameters of its public area, at the start of the bytes, and the
-- remaining bytes
unfoldable pub typed_parameters_at : List ℕ → Result (PublicParameters × List ℕ) Rc
typed_parameters_at text = do
  type ← object_type_at text
  parameters_at type.0 type.1

-- the row of TPM2_TestParms. Parameter: parameters. The command succeeds if the device supports them
-- in a public area, and does nothing
unfoldable pub test_parms_row : Record → Request → Result Success Refused
test_parms_row r q = do
  supported ← only (typed_parameters_at q.parameters)
  Ok (unchanged_success r nothing)
