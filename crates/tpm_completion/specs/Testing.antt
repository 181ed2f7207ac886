-- The commands of the completing layer that test the device. TPM 2.0 Library, Part 3, sections
-- 10.3 (TPM2_IncrementalSelfTest), 10.4 (TPM2_GetTestResult) and 30.3 (TPM2_TestParms), and Part
-- 2, sections 10.9.2 (TPML_ALG) and 12.2.3.8 (TPMT_PUBLIC_PARMS).
use Rattle.std.specs.Prelude.{ℕ, ◌*◌, nat_lt, List, [], ◌++◌, Result, Ok}
use Rattle.std.specs.Int.{w32, to_be_bytes}
use Rattle.tpm_bytes.specs.Reading.{◌>>=◌, bytes_at, number_at, or_fault, refused_if}
use Rattle.tpm_bytes.specs.Writing.{sized_text}
use Rattle.tpm_types_common.specs.Rc.{plain}
use Rattle.tpm_types_common.specs.declared.rc.Rc.{Rc}
use Rattle.tpm_types_common.specs.declared.rc.ResponseCode.TheVariants as code
use Rattle.tpm_types_common.specs.declared.refused.Refused.{Refused}
use Rattle.tpm_types_object.specs.Public.{object_type_at, parameters_at}
use Rattle.tpm_record.specs.rows.Rows.{all_read, parameter}

-- the maximum number of algorithms in a list: MAX_ALG_LIST_SIZE
abbrev pub algorithm_limit : ℕ
algorithm_limit = 64

-- the algorithms in the list at the beginning of the bytes, two bytes each, and the remaining bytes
unfoldable pub algorithms_at : List ℕ → Result (List ℕ × List ℕ) Rc
algorithms_at text = do
  count ← or_fault (number_at w32 text) (plain code.Insufficient)
  few ← refused_if (nat_lt algorithm_limit count.0) (plain code.Size)
  or_fault (bytes_at (2 * count.0) count.1) (plain code.Insufficient)

-- TPM2_IncrementalSelfTest: toDoList is empty, whichever algorithms the command names
unfoldable pub incremental_row : List ℕ → Result (List ℕ) Refused
incremental_row parameters = do
  algorithms ← parameter 1 (algorithms_at parameters)
  ended ← all_read algorithms.1
  Ok (to_be_bytes w32 0)

-- TPM2_GetTestResult: outData is empty, and testResult is success
unfoldable pub test_result_row : List ℕ → Result (List ℕ) Refused
test_result_row parameters = do
  ended ← all_read parameters
  Ok (sized_text [] ++ to_be_bytes w32 0)

-- TPM2_TestParms: success if the device accepts these parameters in a public area
unfoldable pub test_parms_row : List ℕ → Result (List ℕ) Refused
test_parms_row parameters = do
  type ← parameter 1 (object_type_at parameters)
  tested ← parameter 1 (parameters_at type.0 type.1)
  ended ← all_read tested.1
  Ok []
