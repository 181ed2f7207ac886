-- A read returns a list of digests exactly when the input starts with its encoding.
use Rattle.std.proofs.Common.{◌≡◌, ℕ, ltb, ◌||◌, List, ◌++◌, Ok, arith}
use Rattle.std.proofs.lemmas.Bool.{ltb-false, le-ltb, or_parts, or_from}
use Rattle.tpm_bytes.specs.Writing.{sized_text}
use Rattle.tpm_bytes.proofs.Fields.{AreBytes}
use Rattle.tpm_types_common.specs.DigestList.{IsDigest, IsDigestList, digest_at, digest_list_at, digest_list_text, digests_text}
use Rattle.tpm_types_common.proofs.CountedLaws.{counted_again, counted_takes}
use Rattle.tpm_types_common.proofs.FieldLaws.{buffer_spelled}
use Rattle.tpm_types_common.proofs.Spelled.{Spelled}

digest_spelled : Spelled sized_text IsDigest digest_at
digest_spelled = buffer_spelled 32 (omega arith)

pub digest_list_takes : (bytes : List ℕ) (x : List (List ℕ) × List ℕ) → AreBytes bytes
    → digest_list_at bytes ≡ Ok x → (bytes ≡ digest_list_text x.0 ++ x.1) × IsDigestList x.0
unfolding digest_list_at digest_list_text digests_text
digest_list_takes bytes x fits e =
    let t = counted_takes (λ count. ltb count 2 || ltb 8 count) sized_text IsDigest digest_at
    digest_spelled.taken bytes x fits e in
    let sized = or_parts _ _ t.1 in
    (t.0, record { several = ltb-false _ _ sized.0; few = ltb-false _ _ sized.1; each = t.2 })

pub digest_list_again : (digests : List (List ℕ)) (rest : List ℕ) → IsDigestList digests
    → digest_list_at (digest_list_text digests ++ rest) ≡ Ok (digests, rest)
unfolding digest_list_at digest_list_text digests_text
digest_list_again digests rest is =
    let passes = or_from _ _ (le-ltb _ _ is.several) (le-ltb _ _ is.few) in
    counted_again (λ count. ltb count 2 || ltb 8 count) sized_text IsDigest digest_at
    digest_spelled.again digests rest (omega (arith, is.few)) passes is.each
