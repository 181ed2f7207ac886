-- Digests with their hash algorithms. TPM 2.0 Library, Part 2, section 10.3.2 (TPMT_HA) and section
-- 10.9.6 (TPML_DIGEST_VALUES).
use Rattle.std.specs.Prelude.{◌≡◌, ℕ, ◌≤◌, nat_lt, List, ◌++◌, length, Result, Ok}
use Rattle.std.specs.List.{flat_map, AllByRecursion}
use Rattle.std.specs.Int.{w16, w32, to_be_bytes}
use Rattle.tpm_bytes.specs.Many.{many_at}
use Rattle.tpm_bytes.specs.Reading.{◌>>=◌, bytes_at, number_at, or_fault, refused_if}
use Rattle.tpm_mac.specs.declared.algorithm.HashAlg as hash
use Rattle.tpm_mac.specs.declared.algorithm.HashAlg.TheVariants as alg
use Rattle.tpm_types_common.specs.declared.digest_values.DigestValue.{DigestValue}
use Rattle.tpm_types_common.specs.declared.digest_values.DigestValue.TheVariants.{Sha1, Sha256}
use Rattle.tpm_types_common.specs.declared.rc.Rc.{Rc}
use Rattle.tpm_types_common.specs.declared.rc.ResponseCode.TheVariants as code
use Rattle.tpm_types_common.specs.Algorithm.{hash_at, hash_number}
use Rattle.tpm_types_common.specs.Rc.{plain}

abbrev pub hash_of_value : DigestValue → hash.HashAlg
hash_of_value (Sha1 digest) = alg.Sha1
hash_of_value (Sha256 digest) = alg.Sha256

abbrev pub digest_of : DigestValue → List ℕ
digest_of (Sha1 digest) = digest
digest_of (Sha256 digest) = digest

-- the encoding of a digest with its algorithm: the algorithm's number, then the digest, whose size
-- follows from the algorithm
unfoldable pub digest_value_text : DigestValue → List ℕ
digest_value_text value = to_be_bytes w16 (hash_number (hash_of_value value)) ++ digest_of value

unfoldable pub values_text : List DigestValue → List ℕ
values_text values = flat_map digest_value_text values

unfoldable pub digest_values_text : List DigestValue → List ℕ
digest_values_text values = to_be_bytes w32 (length values) ++ values_text values

-- A digest has the size that its algorithm requires.
abbrev pub IsDigestValue : DigestValue → Type 0
IsDigestValue (Sha1 digest) = length digest ≡ 20
IsDigestValue (Sha256 digest) = length digest ≡ 32

-- A list of digests that can be encoded contains at most two digests.
pub record IsDigestValues (values : List DigestValue) : Type 0 where
  pub few : length values ≤ 2
  pub each : AllByRecursion IsDigestValue values

-- ---- reading a list of digests with their algorithms, up to the first fault

abbrev pub octets_at : ℕ → List ℕ → Result (List ℕ × List ℕ) Rc
octets_at count text = or_fault (bytes_at count text) (plain code.Insufficient)

abbrev pub digest_at : hash.HashAlg → List ℕ → Result (DigestValue × List ℕ) Rc
digest_at alg.Sha1 text = do
  digest ← octets_at 20 text
  Ok (Sha1 digest.0, digest.1)
digest_at alg.Sha256 text = do
  digest ← octets_at 32 text
  Ok (Sha256 digest.0, digest.1)

unfoldable pub digest_value_at : List ℕ → Result (DigestValue × List ℕ) Rc
digest_value_at text = do
  hash ← hash_at text
  digest_at hash.0 hash.1

unfoldable pub digest_values_at : List ℕ → Result (List DigestValue × List ℕ) Rc
digest_values_at text = do
  count ← or_fault (number_at w32 text) (plain code.Insufficient)
  few ← refused_if (nat_lt 2 count.0) (plain code.Size)
  many_at digest_value_at count.0 count.1
