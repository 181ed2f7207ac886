-- The entries that the lookup tables for the rounds must have: the S-box (FIPS 197, 5.1.1), and the
-- columns that MixColumns computes from one S-box value (5.1.3).
use Rattle.std.specs.Prelude.{◌≡◌, ℕ, ◌<◌, List, [], ◌∷◌, slice_index, slice_index_or, slice_set}
use Rattle.std.specs.Int.{to_le_bytes, w32}
use Rattle.tpm_aes.specs.Cipher.{mix_column}
use Rattle.tpm_aes.specs.Field.{sub_byte}

-- Entry a of the table is the S-box value of a.
abbrev pub IsSBox : List ℕ → Type 0
IsSBox table = (a : ℕ) → a < 256 → slice_index table a ≡ sub_byte a

-- the column with this byte in row r, and 0 elsewhere
abbrev pub column_with : (r byte : ℕ) → List ℕ
column_with r byte = slice_set (0 ∷ 0 ∷ 0 ∷ 0 ∷ []) r byte

-- The bytes of entry a of table r are the result of MixColumns for the column with the S-box
-- value of a in row r, and 0 in the other rows.
abbrev pub AreMixed : List (List ℕ) → Type 0
AreMixed tables = (r a : ℕ) → r < 4 → a < 256
    → to_le_bytes w32 (slice_index (slice_index_or tables r []) a)
    ≡ mix_column (column_with r (sub_byte a))
