-- Authorization values. TPM 2.0 Library, Part 2, section 10.4.5 (TPM2B_AUTH), and Part 1, section
-- 19.6.4.3: a value is stored and compared without trailing zeros.
use Rattle.std.specs.Prelude.{◌≡◌, ℕ, zero, suc, ◌≤◌, List, [], ◌∷◌, length, reverse, Result, Ok}
use Rattle.tpm_bytes.specs.Reading.{◌>>=◌}
use Rattle.tpm_types_common.specs.declared.rc.Rc.{Rc}
use Rattle.tpm_types_common.specs.Buffer.{buffer_at}

-- the bytes without leading zeros
abbrev pub without_first_zeros : List ℕ → List ℕ
without_first_zeros [] = []
without_first_zeros (zero ∷ bytes) = without_first_zeros bytes
without_first_zeros (suc byte ∷ bytes) = suc byte ∷ bytes

-- the bytes without trailing zeros
unfoldable pub trimmed : List ℕ → List ℕ
trimmed bytes = reverse (without_first_zeros (reverse bytes))

-- A stored value is at most 32 bytes long and does not end in a zero.
abbrev pub IsAuthValue : List ℕ → Type 0
IsAuthValue value = (length value ≤ 32) × (trimmed value ≡ value)

-- the authorization value at the start of the bytes, and the remaining bytes. The value is the
-- content of a sized buffer of at most 32 bytes, without trailing zeros
unfoldable pub auth_value_at : List ℕ → Result (List ℕ × List ℕ) Rc
auth_value_at text = do
  buffer ← buffer_at 32 text
  Ok (trimmed buffer.0, buffer.1)
