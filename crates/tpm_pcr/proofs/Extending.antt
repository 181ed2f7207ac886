-- If a PCR is extended with several digests in turn, each digest counts as an update.
use Rattle.std.proofs.Common.{◌≡◌, ℕ, ◌+◌, ◌<◌, List, [], ◌∷◌, length, take, get_or, fold, refl, arith, ap, sym, ◌∙◌}
use Rattle.std.proofs.lemmas.List.{take_more}
use Rattle.std.proofs.lemmas.List.Sums.{fold-append}
use Rattle.tpm_types_common.specs.declared.digest_values.DigestValue.{DigestValue}
use Rattle.tpm_types_common.specs.declared.digest_values.DigestValue.TheVariants.{Sha1, Sha256}
use Rattle.tpm_pcr.specs.Changes.{with_extension}
use Rattle.tpm_pcr.specs.Values.{BankValues}

update_counted : (pcr : ℕ) (banks : BankValues) (digest : DigestValue)
    → (with_extension pcr banks digest).update_count ≡ banks.update_count + 1
unfolding with_extension
update_counted pcr banks (Sha1 digest) = refl
update_counted pcr banks (Sha256 digest) = refl

-- If a PCR is extended with one more digest, one more update is counted.
pub extended_more : (pcr : ℕ) (start mid new : BankValues) (digests : List DigestValue) (i : ℕ)
    (d : DigestValue) → i < length digests → mid ≡ fold (with_extension pcr) start (take i digests)
    → mid.update_count ≡ start.update_count + i → new ≡ with_extension pcr mid (get_or digests i d)
    → (new ≡ fold (with_extension pcr) start (take (i + 1) digests))
    × (new.update_count ≡ start.update_count + (i + 1))
extended_more pcr start mid new digests i d below so counted is =
    let one : new.update_count ≡ mid.update_count + 1 =
    ap (λ (b : BankValues). b.update_count) is
    ∙ update_counted pcr mid (get_or digests i d) in (
      is
          ∙ ap (λ (b : BankValues). with_extension pcr b (get_or digests i d)) so
          ∙ sym (fold-append (with_extension pcr) start (take i digests) (get_or digests i d ∷ []))
          ∙ ap (fold (with_extension pcr) start) (sym (take_more digests i d below)),
      omega arith,
    )
