-- Lists of digests. TPM 2.0 Library, Part 2, section 10.9.5 (TPML_DIGEST): a count, then each
-- digest as a sized buffer.
use Rattle.std.specs.Prelude.{ℕ, ◌≤◌, ◌||◌, nat_lt, List, ◌++◌, length, map, Result}
use Rattle.std.specs.List.{flat_map, AllByRecursion}
use Rattle.std.specs.Int.{w32, to_be_bytes}
use Rattle.arrayvec.specs.ArrayVec.{ArrayVec}
use Rattle.tpm_bytes.specs.Many.{many_at}
use Rattle.tpm_bytes.specs.Reading.{◌>>=◌, number_at, or_fault, refused_if}
use Rattle.tpm_bytes.specs.Writing.{sized_text}
use Rattle.tpm_types_common.specs.declared.rc.Rc.{Rc}
use Rattle.tpm_types_common.specs.declared.rc.ResponseCode.TheVariants as code
use Rattle.tpm_types_common.specs.Buffer.{buffer_at}
use Rattle.tpm_types_common.specs.Rc.{plain}

-- the bytes of each digest in a list
abbrev pub digests_of : List (ArrayVec ℕ) → List (List ℕ)
digests_of digests = map (λ digest. digest.items) digests

unfoldable pub digests_text : List (List ℕ) → List ℕ
digests_text digests = flat_map sized_text digests

unfoldable pub digest_list_text : List (List ℕ) → List ℕ
digest_list_text digests = to_be_bytes w32 (length digests) ++ digests_text digests

-- A digest is at most 32 bytes long.
abbrev pub IsDigest : List ℕ → Type 0
IsDigest digest = length digest ≤ 32

-- A list of digests that can be read contains two to eight digests. Only TPM2_PolicyOR has a list
-- of digests as a parameter (Part 3, section 23.6).
pub record IsDigestList (digests : List (List ℕ)) : Type 0 where
  pub several : 2 ≤ length digests
  pub few : length digests ≤ 8
  pub each : AllByRecursion IsDigest digests

-- ---- reading a list of digests, up to the first fault

abbrev pub digest_at : List ℕ → Result (List ℕ × List ℕ) Rc
digest_at text = buffer_at 32 text

unfoldable pub digest_list_at : List ℕ → Result (List (List ℕ) × List ℕ) Rc
digest_list_at text = do
  count ← or_fault (number_at w32 text) (plain code.Insufficient)
  sized ← refused_if (nat_lt count.0 2 || nat_lt 8 count.0) (plain code.Size)
  many_at digest_at count.0 count.1
