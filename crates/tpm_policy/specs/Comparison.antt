-- The comparison of the bytes of an NV index with an operand. TPM 2.0 Library, Part 3, section 23.9
-- (TPM2_PolicyNV), and Part 2, section 6.8 (TPM_EO). If the bytes and the operand differ in size,
-- every comparison fails. Two empty byte strings are equal, and satisfy BITSET and BITCLEAR.
use Rattle.std.specs.Prelude.{ℕ, ◌-ℤ◌, ◌^◌, ◌==◌, ◌&&◌, not, nat_le, nat_lt, int_le, int_lt, bit_and, if◌then◌else◌, Bool, false, List, [], ◌∷◌, length, ℤ, pos}
use Rattle.std.specs.Cmp.Lexicographic.{pointwise}
use Rattle.std.specs.Int.Digits.{number_from_digits}
use Rattle.std.specs.Str.{bytes_eq}
use Rattle.tpm_types_common.specs.declared.operation.Operation.{Operation}
use Rattle.tpm_types_common.specs.declared.operation.Operation.TheVariants.{Equal, NotEqual, SignedGreater, UnsignedGreater, SignedLess, UnsignedLess, SignedGreaterOrEqual, UnsignedGreaterOrEqual, SignedLessOrEqual, UnsignedLessOrEqual, BitSet, BitClear}

-- the unsigned number that the bytes encode, most significant byte first
abbrev pub unsigned_number : List ℕ → ℕ
unsigned_number bytes = number_from_digits 256 bytes

-- whether the top bit of the first byte is set
abbrev pub has_top_bit : List ℕ → Bool
has_top_bit [] = false
has_top_bit (byte ∷ bytes) = nat_le 0x80 byte

-- the number that n bytes encode in two's complement: 2^(8n) less than the unsigned number if the
-- top bit is set
abbrev pub signed_number : List ℕ → ℤ
signed_number bytes =
    if has_top_bit bytes
    then pos (unsigned_number bytes) -ℤ pos (256 ^ length bytes)
    else pos (unsigned_number bytes)

-- whether every bit that is set in the operand is also set in the bytes of the index
abbrev pub has_set : (bytes operand : List ℕ) → Bool
has_set bytes operand = pointwise (λ byte mask. bit_and byte mask == mask) bytes operand

-- whether every bit that is set in the operand is clear in the bytes of the index
abbrev pub has_clear : (bytes operand : List ℕ) → Bool
has_clear bytes operand = pointwise (λ byte mask. bit_and byte mask == 0) bytes operand

-- whether this comparison holds for the index's bytes and an operand of the same size
abbrev pub holds : Operation → (bytes operand : List ℕ) → Bool
holds Equal bytes operand = bytes_eq bytes operand
holds NotEqual bytes operand = not (bytes_eq bytes operand)
holds SignedGreater bytes operand = int_lt (signed_number operand) (signed_number bytes)
holds UnsignedGreater bytes operand = nat_lt (unsigned_number operand) (unsigned_number bytes)
holds SignedLess bytes operand = int_lt (signed_number bytes) (signed_number operand)
holds UnsignedLess bytes operand = nat_lt (unsigned_number bytes) (unsigned_number operand)
holds SignedGreaterOrEqual bytes operand = int_le (signed_number operand) (signed_number bytes)
holds UnsignedGreaterOrEqual bytes operand =
    nat_le (unsigned_number operand) (unsigned_number bytes)
holds SignedLessOrEqual bytes operand = int_le (signed_number bytes) (signed_number operand)
holds UnsignedLessOrEqual bytes operand = nat_le (unsigned_number bytes) (unsigned_number operand)
holds BitSet bytes operand = has_set bytes operand
holds BitClear bytes operand = has_clear bytes operand

-- whether the index's bytes have the operand's size and this comparison holds
unfoldable pub compares : Operation → (bytes operand : List ℕ) → Bool
compares operation bytes operand = length bytes == length operand && holds operation bytes operand
