-- Hash algorithms on the wire. TPM 2.0 Library, Part 2, section 6.3 (TPM_ALG_ID) and section 9
-- (TPMI_ALG_HASH).
use Rattle.std.specs.Prelude.{ℕ, ◌==◌, ◌||◌, Bool, List, if◌then◌else◌, Option, Some, None, Result, Ok, ok_or}
use Rattle.std.specs.Int.{w16}
use Rattle.std.specs.Option.{option_map}
use Rattle.tpm_bytes.specs.Reading.{◌>>=◌, number_at, or_fault}
use Rattle.tpm_mac.specs.Digest.{digest_size}
use Rattle.tpm_mac.specs.declared.algorithm.HashAlg.{HashAlg}
use Rattle.tpm_mac.specs.declared.algorithm.HashAlg.TheVariants.{Sha1, Sha256}
use Rattle.tpm_types_common.specs.declared.rc.Rc.{Rc}
use Rattle.tpm_types_common.specs.declared.rc.ResponseCode.TheVariants as code
use Rattle.tpm_types_common.specs.Rc.{plain}

abbrev pub hash_number : HashAlg → ℕ
hash_number Sha1 = 0x0004
hash_number Sha256 = 0x000b

-- whether an authPolicy of this size is allowed with this nameAlg: it must be empty, or have the
-- digest size of nameAlg
abbrev pub is_policy_size : HashAlg → (size : ℕ) → Bool
is_policy_size name_alg size = size == 0 || size == digest_size name_alg

-- the hash algorithm with this number, or None if it is not supported
abbrev pub hash_named : ℕ → Option HashAlg
hash_named number = if number == 0x0004 then Some Sha1 else (if number == 0x000b then Some Sha256 else None)

-- the hash algorithm at the start of the bytes, and the remaining bytes
unfoldable pub hash_at : List ℕ → Result (HashAlg × List ℕ) Rc
hash_at text = do
  number ← or_fault (number_at w16 text) (plain code.Insufficient)
  algorithm ← ok_or (hash_named number.0) (plain code.Hash)
  Ok (algorithm, number.1)

-- ---- a hash algorithm or NULL

abbrev pub hash_or_null_number : Option HashAlg → ℕ
hash_or_null_number (Some algorithm) = hash_number algorithm
hash_or_null_number None = 0x0010

-- the hash algorithm with this number. The result is `Some None` for TPM_ALG_NULL, and None for an
-- algorithm that is not supported
abbrev pub hash_or_null_named : ℕ → Option (Option HashAlg)
hash_or_null_named number =
    if number == 0x0010 then Some None else option_map Some (hash_named number)

-- the hash algorithm at the start of the bytes (None for NULL), and the remaining bytes
unfoldable pub hash_or_null_at : List ℕ → Result (Option HashAlg × List ℕ) Rc
hash_or_null_at text = do
  number ← or_fault (number_at w16 text) (plain code.Insufficient)
  algorithm ← ok_or (hash_or_null_named number.0) (plain code.Hash)
  Ok (algorithm, number.1)
