-- A read returns a digest with its algorithm exactly when the input starts with its encoding. The
-- same holds for a list of such digests.
use Rattle.std.proofs.Common.{◌≡◌, ℕ, ltb, List, ◌++◌, Ok, refl, sym, ap, subst, ◌∙◌, append_assoc, arith}
use Rattle.std.specs.Int.{w16, to_be_bytes}
use Rattle.std.proofs.lemmas.Bool.{ltb-false, le-ltb}
use Rattle.tpm_bytes.specs.Reading.{bytes_at}
use Rattle.tpm_bytes.proofs.Fields.{AreBytes, Takes, Takes-then, bind_ok, bytes_again, bytes_take, ok_is, or_fault_ok}
use Rattle.tpm_mac.specs.declared.algorithm.HashAlg.{HashAlg}
use Rattle.tpm_mac.specs.declared.algorithm.HashAlg.TheVariants as alg
use Rattle.tpm_types_common.specs.declared.digest_values.DigestValue.{DigestValue}
use Rattle.tpm_types_common.specs.declared.digest_values.DigestValue.TheVariants.{Sha1, Sha256}
use Rattle.tpm_types_common.specs.declared.rc.ResponseCode.TheVariants as code
use Rattle.tpm_types_common.specs.Algorithm.{hash_at, hash_number}
use Rattle.tpm_types_common.specs.DigestValues.{IsDigestValue, IsDigestValues, digest_at, digest_of, digest_value_at, digest_value_text, digest_values_at, digest_values_text, hash_of_value, octets_at, values_text}
use Rattle.tpm_types_common.specs.Rc.{plain}
use Rattle.tpm_types_common.proofs.CountedLaws.{counted_again, counted_takes}
use Rattle.tpm_types_common.proofs.HashLaws.{hash_again, hash_takes}

-- ---- a digest

abbrev IsDigestOf : HashAlg → List ℕ → DigestValue × List ℕ → Type 0
IsDigestOf hash bytes x = Takes bytes (digest_of x.0) x.1 × (hash_of_value x.0 ≡ hash)
    × IsDigestValue x.0

digest_takes : (hash : HashAlg) (bytes : List ℕ) (x : DigestValue × List ℕ) → AreBytes bytes
    → digest_at hash bytes ≡ Ok x → IsDigestOf hash bytes x
digest_takes alg.Sha1 bytes x fits e =
    let a = bind_ok (octets_at 20 bytes) (λ digest. Ok (Sha1 digest.0, digest.1)) x e in
    let t = bytes_take 20 bytes a.0.0 a.0.1 fits
    (or_fault_ok (bytes_at 20 bytes) (plain code.Insufficient) a.0 a.1) in
    let made : DigestValue × List ℕ = (Sha1 a.0.0, a.0.1) in
    subst (IsDigestOf alg.Sha1 bytes) (ok_is made x a.2) (t.0, refl, t.1)
digest_takes alg.Sha256 bytes x fits e =
    let a = bind_ok (octets_at 32 bytes) (λ digest. Ok (Sha256 digest.0, digest.1)) x e in
    let t = bytes_take 32 bytes a.0.0 a.0.1 fits
    (or_fault_ok (bytes_at 32 bytes) (plain code.Insufficient) a.0 a.1) in
    let made : DigestValue × List ℕ = (Sha256 a.0.0, a.0.1) in
    subst (IsDigestOf alg.Sha256 bytes) (ok_is made x a.2) (t.0, refl, t.1)

digest_again : (value : DigestValue) (rest : List ℕ) → IsDigestValue value
    → digest_at (hash_of_value value) (digest_of value ++ rest) ≡ Ok (value, rest)
digest_again (Sha1 digest) rest is = rw (bytes_again digest rest 20 is) refl
digest_again (Sha256 digest) rest is = rw (bytes_again digest rest 32 is) refl

digest_value_takes : (bytes : List ℕ) (x : DigestValue × List ℕ) → AreBytes bytes
    → digest_value_at bytes ≡ Ok x → Takes bytes (digest_value_text x.0) x.1 × IsDigestValue x.0
unfolding digest_value_at digest_value_text
digest_value_takes bytes x fits e =
    let a = bind_ok (hash_at bytes) (λ hash. digest_at hash.0 hash.1) x e in
    let t = hash_takes bytes a.0 fits a.1 in
    let d = digest_takes a.0.0 a.0.1 x t.rest_fits a.2 in
    let both = Takes-then bytes (to_be_bytes w16 (hash_number a.0.0)) a.0.1 (digest_of x.0) x.1 t
    d.0 in (
      subst (λ (hash : HashAlg). Takes bytes (to_be_bytes w16 (hash_number hash) ++ digest_of x.0)
          x.1) (sym d.1) both,
      d.2,
    )

digest_value_again : (value : DigestValue) (rest : List ℕ) → IsDigestValue value
    → digest_value_at (digest_value_text value ++ rest) ≡ Ok (value, rest)
unfolding digest_value_at digest_value_text
digest_value_again value rest is =
    ap digest_value_at
    (append_assoc (to_be_bytes w16 (hash_number (hash_of_value value))) (digest_of value) rest)
    ∙ rw (hash_again (hash_of_value value) (digest_of value ++ rest)) (digest_again value rest is)

-- ---- a list of digests

pub digest_values_takes : (bytes : List ℕ) (x : List DigestValue × List ℕ) → AreBytes bytes
    → digest_values_at bytes ≡ Ok x → (bytes ≡ digest_values_text x.0 ++ x.1) × IsDigestValues x.0
unfolding digest_values_at digest_values_text values_text
digest_values_takes bytes x fits e =
    let t = counted_takes (ltb 2) digest_value_text IsDigestValue digest_value_at digest_value_takes
    bytes x fits e in
    (t.0, record { few = ltb-false _ _ t.1; each = t.2 })

pub digest_values_again : (values : List DigestValue) (rest : List ℕ) → IsDigestValues values
    → digest_values_at (digest_values_text values ++ rest) ≡ Ok (values, rest)
unfolding digest_values_at digest_values_text values_text
digest_values_again values rest is =
    counted_again (ltb 2) digest_value_text IsDigestValue digest_value_at digest_value_again values
    rest (omega (arith, is.few)) (le-ltb _ _ is.few) is.each
