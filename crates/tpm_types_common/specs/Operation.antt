-- Comparisons of two operands. TPM 2.0 Library, Part 2, section 6.8 (TPM_EO).
use Rattle.std.specs.Prelude.{ℕ, ◌==◌, List, [], ◌∷◌, Option, Result, Ok, ok_or}
use Rattle.std.specs.Int.{w16}
use Rattle.std.specs.List.{find}
use Rattle.tpm_bytes.specs.Reading.{◌>>=◌, number_at, or_fault}
use Rattle.tpm_types_common.specs.declared.operation.Operation.{Operation}
use Rattle.tpm_types_common.specs.declared.operation.Operation.TheVariants.{Equal, NotEqual, SignedGreater, UnsignedGreater, SignedLess, UnsignedLess, SignedGreaterOrEqual, UnsignedGreaterOrEqual, SignedLessOrEqual, UnsignedLessOrEqual, BitSet, BitClear}
use Rattle.tpm_types_common.specs.declared.rc.Rc.{Rc}
use Rattle.tpm_types_common.specs.declared.rc.ResponseCode.TheVariants as code
use Rattle.tpm_types_common.specs.Rc.{plain}

abbrev pub operation_number : Operation → ℕ
operation_number Equal = 0x0
operation_number NotEqual = 0x1
operation_number SignedGreater = 0x2
operation_number UnsignedGreater = 0x3
operation_number SignedLess = 0x4
operation_number UnsignedLess = 0x5
operation_number SignedGreaterOrEqual = 0x6
operation_number UnsignedGreaterOrEqual = 0x7
operation_number SignedLessOrEqual = 0x8
operation_number UnsignedLessOrEqual = 0x9
operation_number BitSet = 0xa
operation_number BitClear = 0xb

abbrev pub all_operations : List Operation
all_operations =
    Equal ∷ NotEqual ∷ SignedGreater ∷ UnsignedGreater ∷ SignedLess ∷ UnsignedLess
    ∷ SignedGreaterOrEqual ∷ UnsignedGreaterOrEqual ∷ SignedLessOrEqual ∷ UnsignedLessOrEqual
    ∷ BitSet ∷ BitClear ∷ []

-- the operation with this number, or None
abbrev pub operation_named : ℕ → Option Operation
operation_named number = find (λ operation. number == operation_number operation) all_operations

-- the operation at the start of the bytes, and the remaining bytes
unfoldable pub operation_at : List ℕ → Result (Operation × List ℕ) Rc
operation_at text = do
  number ← or_fault (number_at w16 text) (plain code.Insufficient)
  operation ← ok_or (operation_named number.0) (plain code.Value)
  Ok (operation, number.1)
