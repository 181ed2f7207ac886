-- Attributes, stored as the bits of a 32-bit number. Some bits are reserved. TPM 2.0 Library, Part
-- 2, section 8.3 (TPMA_OBJECT) and section 13.4 (TPMA_NV).
use Rattle.std.specs.Prelude.{◌≡◌, ℕ, ◌<◌, ◌^◌, ◌==◌, not, bit_and, List, Result, Ok}
use Rattle.std.specs.Int.{w32}
use Rattle.tpm_bytes.specs.Reading.{◌>>=◌, number_at, or_fault, refused_if}
use Rattle.tpm_types_common.specs.declared.rc.Rc.{Rc}
use Rattle.tpm_types_common.specs.declared.rc.ResponseCode.TheVariants as code
use Rattle.tpm_types_common.specs.Rc.{plain}

-- Attributes can be encoded if they fit in 32 bits and no reserved bit is set.
pub record AreAttributeBits (reserved bits : ℕ) : Type 0 where
  pub fits : bits < 2 ^ 32
  pub named : bit_and bits reserved ≡ 0

-- the bits of the attributes at the start of the bytes, and the remaining bytes
unfoldable pub attribute_bits_at : (reserved : ℕ) → List ℕ → Result (ℕ × List ℕ) Rc
attribute_bits_at reserved text = do
  bits ← or_fault (number_at w32 text) (plain code.Insufficient)
  named ← refused_if (not (bit_and bits.0 reserved == 0)) (plain code.ReservedBits)
  Ok (bits.0, bits.1)
