-- TPM2_IncrementalSelfTest. TPM 2.0 Library, Part 3, section 10.3, and Part 2, sections 6.3
-- (TPM_ALG_ID) and 10.9.2 (TPML_ALG).
use Rattle.tpm_types_common.specs.declared.action_check.ActionCheck.TheVariants as action
use Rattle.std.specs.Prelude.{ℕ, nat_eq, nat_lt, not, Bool, List, [], ◌∷◌, Result, Ok}
use Rattle.std.specs.Int.{w16, w32, to_be_bytes}
use Rattle.std.specs.List.{list_any}
use Rattle.tpm_bytes.specs.Many.{many_at}
use Rattle.tpm_bytes.specs.Reading.{◌>>=◌, number_at, or_fault, refused_if}
use Rattle.tpm_types_common.specs.Rc.{at, plain}
use Rattle.tpm_types_common.specs.declared.rc.Place.TheVariants as place
use Rattle.tpm_types_common.specs.declared.rc.Rc.{Rc}
use Rattle.tpm_types_common.specs.declared.rc.ResponseCode.TheVariants as code
use Rattle.tpm_types_common.specs.declared.refused.Refused.{Refused}
use Rattle.tpm_record.specs.Record.{Record}
use Rattle.tpm_record.specs.rows.Answer.{Plain, answer_of}
use Rattle.tpm_record.specs.rows.Refusals.{action_refusal}
use Rattle.tpm_record.specs.rows.Request.{Request}
use Rattle.tpm_record.specs.rows.Rows.{Success, only, unchanged_success}

-- the maximum number of algorithms in a list: MAX_ALG_LIST_SIZE
abbrev pub algorithm_limit : ℕ
algorithm_limit = 64

-- the algorithms that the device implements: SHA-1, HMAC, AES, KEYEDHASH, XOR, SHA-256, the KDF of
-- SP 800-108, SYMCIPHER and CFB
abbrev pub implemented_algorithms : List ℕ
implemented_algorithms =
    0x04 ∷ 0x05 ∷ 0x06 ∷ 0x08 ∷ 0x0a ∷ 0x0b ∷ 0x22 ∷ 0x25 ∷ 0x43 ∷ []

abbrev pub is_implemented : ℕ → Bool
is_implemented algorithm = list_any (nat_eq algorithm) implemented_algorithms

-- the number of an algorithm at the start of the bytes, and the remaining bytes
abbrev pub algorithm_at : List ℕ → Result (ℕ × List ℕ) Rc
algorithm_at text = or_fault (number_at w16 text) (plain code.Insufficient)

-- the list of algorithms at the start of the bytes, and the remaining bytes
unfoldable pub algorithms_at : List ℕ → Result (List ℕ × List ℕ) Rc
algorithms_at text = do
  count ← or_fault (number_at w32 text) (plain code.Insufficient)
  few ← refused_if (nat_lt algorithm_limit count.0) (plain code.Size)
  many_at algorithm_at count.0 count.1

-- the row of TPM2_IncrementalSelfTest. Parameter: toTest. Answer: toDoList, which is empty, because
-- all tests have passed. Refused by check A1 if the device does not implement one of the algorithms
unfoldable pub incremental_self_test_row : Record → Request → Result Success Refused
incremental_self_test_row r q = do
  algorithms ← only (algorithms_at q.parameters)
  a1 ← refused_if (list_any (λ algorithm. not (is_implemented algorithm)) algorithms)
      (action_refusal action.First (at (place.Parameter 1) (plain code.Value)))
  Ok (unchanged_success r (answer_of (Plain (to_be_bytes w32 0))))
