-- Symmetric definitions. TPM 2.0 Library, Part 2, sections 11.1.6 (TPMT_SYM_DEF, for a session),
-- 11.1.7 (TPMT_SYM_DEF_OBJECT, for an object) and 6.3 (TPM_ALG_ID: NULL 0010, AES 0006, CFB 0043,
-- XOR 000A).
use Rattle.std.specs.Prelude.{ℕ, ◌==◌, not, Bool, true, false, List, ◌++◌, if◌then◌else◌, Result, Ok, Err}
use Rattle.std.specs.Int.{w16, to_be_bytes}
use Rattle.tpm_bytes.specs.Reading.{◌>>=◌, number_at, or_fault, refused_if}
use Rattle.tpm_types_common.specs.declared.rc.Rc.{Rc}
use Rattle.tpm_types_common.specs.declared.rc.ResponseCode.TheVariants as code
use Rattle.tpm_types_common.specs.declared.symmetric.SymmetricDefinition.{SymmetricDefinition}
use Rattle.tpm_types_common.specs.declared.symmetric.SymmetricDefinition.TheVariants.{Null, Aes128Cfb, Xor}
use Rattle.tpm_types_common.specs.Algorithm.{hash_at, hash_number}
use Rattle.tpm_types_common.specs.Rc.{plain}

abbrev pub is_null : SymmetricDefinition → Bool
is_null Null = true
is_null Aes128Cfb = false
is_null (Xor hash) = false

-- the encoding of a symmetric definition: NULL alone; AES, its key size in bits, and its mode; or
-- XOR and the hash algorithm that generates its masks
unfoldable pub symmetric_text : SymmetricDefinition → List ℕ
symmetric_text Null = to_be_bytes w16 0x0010
symmetric_text Aes128Cfb =
    to_be_bytes w16 0x0006 ++ to_be_bytes w16 0x0080 ++ to_be_bytes w16 0x0043
symmetric_text (Xor hash) = to_be_bytes w16 0x000a ++ to_be_bytes w16 (hash_number hash)

-- the fields of a symmetric definition that follow the algorithm AES: a key size of 128 bits, and
-- the mode CFB
unfoldable pub aes_at : List ℕ → Result (SymmetricDefinition × List ℕ) Rc
aes_at text = do
  bits ← or_fault (number_at w16 text) (plain code.Insufficient)
  served ← refused_if (not (bits.0 == 0x0080)) (plain code.Value)
  mode ← or_fault (number_at w16 bits.1) (plain code.Insufficient)
  feedback ← refused_if (not (mode.0 == 0x0043)) (plain code.Mode)
  Ok (Aes128Cfb, mode.1)

-- the field of a symmetric definition that follows the algorithm XOR: a hash algorithm
unfoldable pub xor_at : List ℕ → Result (SymmetricDefinition × List ℕ) Rc
xor_at text = do
  hash ← hash_at text
  Ok (Xor hash.0, hash.1)

-- the symmetric definition and the remaining bytes, given the algorithm number and the bytes after
-- this number
abbrev pub behind_at : ℕ → List ℕ → Result (SymmetricDefinition × List ℕ) Rc
behind_at number text =
    if number == 0x0010 then Ok (Null, text)
    else (if number == 0x0006 then aes_at text
    else (if number == 0x000a then xor_at text
    else Err (plain code.Symmetric)))

-- the symmetric definition at the start of the bytes, and the remaining bytes
unfoldable pub symmetric_at : List ℕ → Result (SymmetricDefinition × List ℕ) Rc
symmetric_at text = do
  algorithm ← or_fault (number_at w16 text) (plain code.Insufficient)
  behind_at algorithm.0 algorithm.1

-- the cipher at the start of the bytes, and the remaining bytes. The only cipher for storage keys
-- and SYMCIPHER keys is AES
unfoldable pub cipher_at : List ℕ → Result (SymmetricDefinition × List ℕ) Rc
cipher_at text = do
  algorithm ← or_fault (number_at w16 text) (plain code.Insufficient)
  served ← refused_if (not (algorithm.0 == 0x0006)) (plain code.Symmetric)
  aes_at algorithm.1
